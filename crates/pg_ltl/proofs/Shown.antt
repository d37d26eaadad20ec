-- What the reader of tokens keeps shows the formulas that are read.
use Rattle.std.proofs.Common.{get_or, take, ◌≡◌, ℕ, ◌+◌, ◌<◌, ◌≤◌, Bool, true, false, List, [], ◌∷◌, ◌++◌, length, Option, Some, None, refl}
use Rattle.std.proofs.Common.{sym, subst, ap, ◌∙◌, arith, inl, inr, if◌then◌else◌}
use Rattle.std.specs.Prelude.{nat_le}
use Rattle.std.proofs.lemmas.Bool.{cases_lt}
use Rattle.std.proofs.lemmas.List.{take_more, length-append, get_or_append_left, get_or_push}
use Rattle.pg_ltl.specs.declared.formula.Prefix.{Prefix}
use Rattle.pg_ltl.specs.declared.formula.Infix.{Infix}
use Rattle.pg_ltl.specs.declared.formula.Infix.TheVariants.{Implies, Equivalent, Or, Exclusive, And, Until, Release, Weak, Strong, Also}
use Rattle.pg_ltl.specs.declared.formula.FormulaNode.{FormulaNode}
use Rattle.pg_ltl.specs.declared.formula.FormulaNode.TheVariants as parts
use Rattle.pg_ltl.specs.declared.reading.Pending.{Pending}
use Rattle.pg_ltl.specs.declared.reading.Pending.TheVariants.{Paren, Ahead, Left}
use Rattle.pg_ltl.specs.declared.token.FormulaToken.{FormulaToken}
use Rattle.pg_ltl.specs.declared.token.FormulaToken.TheVariants as tokens
use Rattle.pg_ltl.specs.Formulas.{Formula, constant, proposition, bracket, one, two}
use Rattle.pg_ltl.specs.FormulaTexts.{strength, left_rank, AreTokensOf, BeginsNone}
use Rattle.pg_ltl.specs.Mirrors.Nodes.{formula_at, formulas_of, formula_in, reach, AreFormulaNodes}
use Rattle.pg_ltl.specs.Mirrors.Machine as machine
use Rattle.pg_ltl.specs.Mirrors.Machine.{State, due, over, completes, reduces, step, finish, run, parse}
use Rattle.pg_ltl.specs.Mirrors.Run.{Kept, completed_at, reduced_at, operand_at, due_turn, may_wait, between_with, between_at, closed_with}
use Rattle.pg_ltl.specs.Mirrors.Run.{closed_at, over_turn, turn_with, turn_at, whole_with, whole_at, also_of, ended_place, with_nodes}
use Rattle.pg_ltl.specs.Mirrors.Run.{finish_with, finish_at, run_if, run_at, steps_if, steps_at, starting, parse_at}
use Rattle.pg_ltl.specs.Mirrors.Readings.{IsStuck, IsStopped}
use Rattle.pg_ltl.proofs.Machine.{parse_takes, parse_again, begins_one, begins_none}
use Rattle.pg_ltl.proofs.Nodes.{get_or-meanings, get_or-meanings_push}

-- the part at the place is the formula
pub record IsPart (nodes : List FormulaNode) (place : ℕ) (f : Formula) : Type 0 where
  pub below : place < length nodes
  pub is : formula_in nodes place ≡ f

part_more : (nodes more : List FormulaNode) (place : ℕ) (f : Formula) → IsPart nodes place f → IsPart (nodes ++ more) place f
part_more nodes more place f part =
    let l = length-append nodes more in
    let b = part.below in
    record { below = omega (arith, l, b); is = get_or-meanings formula_at nodes more place (constant false) part.below ∙ part.is }

part_new : (nodes : List FormulaNode) (n : FormulaNode) (f : Formula) → formula_at (formulas_of nodes) n ≡ f
    → IsPart (nodes ++ (n ∷ [])) (length nodes) f
part_new nodes n f e =
    let l : length (nodes ++ (n ∷ [])) ≡ length nodes + 1 = length-append nodes (n ∷ []) in
    record { below = omega (arith, l); is = get_or-meanings_push formula_at nodes n (constant false) ∙ e }

parts_push : (nodes : List FormulaNode) (n : FormulaNode) → AreFormulaNodes nodes → reach n ≤ length nodes → AreFormulaNodes (nodes ++ (n ∷ []))
parts_push nodes n ordered le place lt = elim (cases_lt place (length nodes)) [
  | inl below ↦ grind (arith, ordered place below, get_or_append_left nodes (n ∷ []) (parts.Constant false) place below)
  | inr above ↦
      let l : length (nodes ++ (n ∷ [])) ≡ length nodes + 1 = length-append nodes (n ∷ []) in
      let e : place ≡ length nodes = omega (arith, l, lt, above) in
      grind (arith, e, le, get_or_push nodes n (parts.Constant false) place (sym e))
]

-- the pending wait as these do
abbrev Stands : List FormulaNode → List Pending → List machine.Pending → Type 0
Stands nodes [] [] = Unit {0}
Stands nodes (Paren ∷ pending) (machine.paren ∷ stack) = Stands nodes pending stack
Stands nodes (Ahead op ∷ pending) (machine.ahead other ∷ stack) = (op ≡ other) × Stands nodes pending stack
Stands nodes (Left op place ∷ pending) (machine.left other f ∷ stack) = (op ≡ other) × IsPart nodes place f × Stands nodes pending stack
Stands nodes pending stack = ⊥

stands_more : (nodes more : List FormulaNode) (pending : List Pending) (stack : List machine.Pending) → Stands nodes pending stack
    → Stands (nodes ++ more) pending stack
stands_more nodes more [] [] h = tt
stands_more nodes more (Paren ∷ pending) (machine.paren ∷ stack) h = stands_more nodes more pending stack h
stands_more nodes more (Ahead op ∷ pending) (machine.ahead other ∷ stack) h = (h.0, stands_more nodes more pending stack h.1)
stands_more nodes more (Left op place ∷ pending) (machine.left other f ∷ stack) h =
    (h.0, part_more nodes more place f h.1, stands_more nodes more pending stack h.2)
stands_more nodes more pending stack h = absurd h

record ShowsDue (k : Kept) (stack : List machine.Pending) : Type 0 where
  pub operand : k.operand ≡ None
  pub pending : Stands k.nodes k.pending stack
  pub ordered : AreFormulaNodes k.nodes

record ShowsOver (k : Kept) (stack : List machine.Pending) (f : Formula) : Type 0 where
  pub place : ℕ
  pub operand : k.operand ≡ Some place
  pub part : IsPart k.nodes place f
  pub pending : Stands k.nodes k.pending stack
  pub ordered : AreFormulaNodes k.nodes

abbrev Shows : Kept → State → Type 0
Shows k (due stack) = ShowsDue k stack
Shows k (over stack f) = ShowsOver k stack f

abbrev ShowsIf : Option Kept → Option State → Type 0
ShowsIf None None = Unit {0}
ShowsIf (Some k) (Some s) = Shows k s
ShowsIf k s = ⊥

-- ---- operators take their operands

completed_shows : (nodes : List FormulaNode) (pending : List Pending) (stack : List machine.Pending) (place : ℕ) (f : Formula) → AreFormulaNodes nodes
    → Stands nodes pending stack → IsPart nodes place f → Shows (completed_at nodes pending place) (completes stack f)
unfolding completed_at
completed_shows nodes [] [] place f ordered stands part = record { place = place; operand = refl; part = part; pending = stands; ordered = ordered }
completed_shows nodes (Paren ∷ pending) (machine.paren ∷ stack) place f ordered stands part =
    record { place = place; operand = refl; part = part; pending = stands; ordered = ordered }
completed_shows nodes (Ahead op ∷ pending) (machine.ahead other ∷ stack) place f ordered stands part =
    let n = parts.One op place in
    let b = part.below in
    completed_shows (nodes ++ (n ∷ [])) pending stack (length nodes) (one other f) (parts_push nodes n ordered (omega (arith, b)))
    (stands_more nodes (n ∷ []) pending stack stands.1)
    (part_new nodes n (one other f) (ap (one op) part.is ∙ ap (λ (o : Prefix). one o f) stands.0))
completed_shows nodes (Left op g ∷ pending) (machine.left other e ∷ stack) place f ordered stands part =
    record { place = place; operand = refl; part = part; pending = stands; ordered = ordered }
completed_shows nodes pending stack place f ordered stands part = absurd stands

reduced_shows : (bound : ℕ) (nodes : List FormulaNode) (pending : List Pending) (stack : List machine.Pending) (place : ℕ) (f : Formula)
    → AreFormulaNodes nodes → Stands nodes pending stack → IsPart nodes place f → Shows (reduced_at bound nodes pending place) (reduces bound stack f)
unfolding reduced_at
reduced_shows bound nodes [] [] place f ordered stands part =
    record { place = place; operand = refl; part = part; pending = stands; ordered = ordered }
reduced_shows bound nodes (Paren ∷ pending) (machine.paren ∷ stack) place f ordered stands part =
    record { place = place; operand = refl; part = part; pending = stands; ordered = ordered }
reduced_shows bound nodes (Ahead op ∷ pending) (machine.ahead other ∷ stack) place f ordered stands part =
    record { place = place; operand = refl; part = part; pending = stands; ordered = ordered }
reduced_shows bound nodes (Left op g ∷ pending) (machine.left other e ∷ stack) place f ordered stands part =
    let n = parts.Two op g place in
    let b = part.below in
    let c = stands.1.below in
    let go : Shows (reduced_at bound (nodes ++ (n ∷ [])) pending (length nodes)) (reduces bound stack (two other e f)) =
    reduced_shows bound (nodes ++ (n ∷ [])) pending stack (length nodes) (two other e f) (parts_push nodes n ordered (omega (arith, b, c)))
    (stands_more nodes (n ∷ []) pending stack stands.2)
    (part_new nodes n (two other e f) (ap (λ x. two op x (formula_in nodes place)) stands.1.is ∙ ap (two op e) part.is
    ∙ ap (λ (o : Infix). two o e f) stands.0)) in
    let stay : Shows (record { nodes = nodes; pending = Left op g ∷ pending; operand = Some place }) (over (machine.left other e ∷ stack) f) =
    record { place = place; operand = refl; part = part; pending = stands; ordered = ordered } in
    subst (λ (o : Infix). Shows (if nat_le bound (strength op) then reduced_at bound (nodes ++ (n ∷ [])) pending (length nodes)
    else record { nodes = nodes; pending = Left op g ∷ pending; operand = Some place })
    (if nat_le bound (strength o) then reduces bound stack (two other e f) else over (machine.left other e ∷ stack) f)) stands.0
    (elim (nat_le bound (strength op)) as (λ b. Shows (if b then reduced_at bound (nodes ++ (n ∷ [])) pending (length nodes)
    else record { nodes = nodes; pending = Left op g ∷ pending; operand = Some place })
    (if b then reduces bound stack (two other e f) else over (machine.left other e ∷ stack) f)) [ true ↦ go | false ↦ stay ])
reduced_shows bound nodes pending stack place f ordered stands part = absurd stands

-- ---- each token

operand_shows : (k : Kept) (stack : List machine.Pending) (n : FormulaNode) (f : Formula) → ShowsDue k stack → reach n ≡ 0
    → formula_at (formulas_of k.nodes) n ≡ f → Shows (operand_at k n) (completes stack f)
unfolding operand_at
operand_shows k stack n f d e is =
    completed_shows (k.nodes ++ (n ∷ [])) k.pending stack (length k.nodes) f (parts_push k.nodes n d.ordered (omega (arith, e)))
    (stands_more k.nodes (n ∷ []) k.pending stack d.pending) (part_new k.nodes n f is)

due_shows : (k : Kept) (stack : List machine.Pending) (t : FormulaToken) → ShowsDue k stack → ShowsIf (due_turn k t) (step (due stack) t)
unfolding due_turn
due_shows k stack (tokens.Proposition p) d = operand_shows k stack (parts.Proposition p) (proposition p) d refl refl
due_shows k stack (tokens.Constant value) d = operand_shows k stack (parts.Constant value) (constant value) d refl refl
due_shows k stack (tokens.Before op) d = record { operand = refl; pending = (refl, d.pending); ordered = d.ordered }
due_shows k stack (tokens.Between op) d = tt
due_shows k stack tokens.LeftParen d = record { operand = refl; pending = d.pending; ordered = d.ordered }
due_shows k stack tokens.RightParen d = tt

may_same : (nodes : List FormulaNode) (pending : List Pending) (stack : List machine.Pending) (op : Infix) → Stands nodes pending stack
    → may_wait pending op ≡ machine.may_stand stack op
may_same nodes [] [] op h = refl
may_same nodes (Paren ∷ pending) (machine.paren ∷ stack) Also h = refl
may_same nodes (Paren ∷ pending) (machine.paren ∷ stack) op h = refl
may_same nodes (Ahead p ∷ pending) (machine.ahead other ∷ stack) op h = refl
may_same nodes (Left p g ∷ pending) (machine.left other f ∷ stack) op h = refl
may_same nodes pending stack op h = absurd h

between_shows : (op : Infix) (k : Kept) (s : State) → Shows k s → ShowsIf (between_at op k) (machine.between op s)
unfolding between_at
between_shows op k (due stack) d = subst (λ (o : Option ℕ). ShowsIf (between_with op k.nodes k.pending o) None) (sym d.operand) tt
between_shows op k (over stack f) o =
    let next : Kept = record { nodes = k.nodes; pending = Left op o.place ∷ k.pending; operand = None } in
    let waits : Shows next (due (machine.left op f ∷ stack)) = record { operand = refl; pending = (refl, o.part, o.pending); ordered = o.ordered } in
    subst (λ (p : Option ℕ). ShowsIf (between_with op k.nodes k.pending p) (machine.between op (over stack f))) (sym o.operand)
    (subst (λ (b : Bool). ShowsIf (if may_wait k.pending op then Some next else None) (if b then Some (due (machine.left op f ∷ stack)) else None))
    (may_same k.nodes k.pending stack op o.pending)
    (elim (may_wait k.pending op) as (λ b. ShowsIf (if b then Some next else None) (if b then Some (due (machine.left op f ∷ stack)) else None)) [
      | true ↦ waits
      | false ↦ tt
    ]))

closed_parts : (nodes : List FormulaNode) (pending : List Pending) (stack : List machine.Pending) (place : ℕ) (f : Formula) → AreFormulaNodes nodes
    → Stands nodes pending stack → IsPart nodes place f → ShowsIf (closed_with nodes pending (Some place)) (machine.closed (over stack f))
closed_parts nodes [] [] place f ordered stands part = tt
closed_parts nodes (Paren ∷ pending) (machine.paren ∷ stack) place f ordered stands part =
    let n = parts.Bracket place in
    let b = part.below in
    completed_shows (nodes ++ (n ∷ [])) pending stack (length nodes) (bracket f) (parts_push nodes n ordered (omega (arith, b)))
    (stands_more nodes (n ∷ []) pending stack stands) (part_new nodes n (bracket f) (ap bracket part.is))
closed_parts nodes (Ahead op ∷ pending) (machine.ahead other ∷ stack) place f ordered stands part = tt
closed_parts nodes (Left op g ∷ pending) (machine.left other e ∷ stack) place f ordered stands part = tt
closed_parts nodes pending stack place f ordered stands part = absurd stands

closed_due : (nodes : List FormulaNode) (pending : List Pending) → ShowsIf (closed_with nodes pending None) None
closed_due nodes [] = tt
closed_due nodes (Paren ∷ pending) = tt
closed_due nodes (Ahead op ∷ pending) = tt
closed_due nodes (Left op g ∷ pending) = tt

closed_shows : (k : Kept) (s : State) → Shows k s → ShowsIf (closed_at k) (machine.closed s)
unfolding closed_at
closed_shows k (due stack) d =
    subst (λ (o : Option ℕ). ShowsIf (closed_with k.nodes k.pending o) None) (sym d.operand) (closed_due k.nodes k.pending)
closed_shows k (over stack f) o =
    subst (λ (p : Option ℕ). ShowsIf (closed_with k.nodes k.pending p) (machine.closed (over stack f))) (sym o.operand)
    (closed_parts k.nodes k.pending stack o.place f o.ordered o.pending o.part)

over_shows : (k : Kept) (place : ℕ) (stack : List machine.Pending) (f : Formula) (t : FormulaToken) → AreFormulaNodes k.nodes
    → Stands k.nodes k.pending stack → IsPart k.nodes place f → ShowsIf (over_turn k place t) (step (over stack f) t)
unfolding over_turn
over_shows k place stack f (tokens.Between op) ordered stands part =
    between_shows op (reduced_at (left_rank op) k.nodes k.pending place) (reduces (left_rank op) stack f)
    (reduced_shows (left_rank op) k.nodes k.pending stack place f ordered stands part)
over_shows k place stack f tokens.RightParen ordered stands part =
    closed_shows (reduced_at 1 k.nodes k.pending place) (reduces 1 stack f) (reduced_shows 1 k.nodes k.pending stack place f ordered stands part)
over_shows k place stack f (tokens.Proposition p) ordered stands part = tt
over_shows k place stack f (tokens.Constant value) ordered stands part = tt
over_shows k place stack f (tokens.Before op) ordered stands part = tt
over_shows k place stack f tokens.LeftParen ordered stands part = tt

turn_shows : (k : Kept) (s : State) (t : FormulaToken) → Shows k s → ShowsIf (turn_at k t) (step s t)
unfolding turn_at
turn_shows k (due stack) t d = subst (λ (o : Option ℕ). ShowsIf (turn_with k o t) (step (due stack) t)) (sym d.operand) (due_shows k stack t d)
turn_shows k (over stack f) t o =
    subst (λ (p : Option ℕ). ShowsIf (turn_with k p t) (step (over stack f) t)) (sym o.operand)
    (over_shows k o.place stack f t o.ordered o.pending o.part)

-- ---- the whole

pub record Ends (found : List FormulaNode × ℕ) (f : Formula) : Type 0 where
  pub part : IsPart found.0 found.1 f
  pub ordered : AreFormulaNodes found.0

abbrev pub EndsIf : Option (List FormulaNode × ℕ) → Option Formula → Type 0
EndsIf None None = Unit {0}
EndsIf (Some x) (Some f) = Ends x f
EndsIf x f = ⊥

whole_parts : (nodes : List FormulaNode) (pending : List Pending) (stack : List machine.Pending) (place : ℕ) (f : Formula) → AreFormulaNodes nodes
    → Stands nodes pending stack → IsPart nodes place f → EndsIf (whole_with nodes pending (Some place)) (machine.whole (over stack f))
whole_parts nodes [] [] place f ordered stands part = record { part = part; ordered = ordered }
whole_parts nodes (Paren ∷ pending) (machine.paren ∷ stack) place f ordered stands part = tt
whole_parts nodes (Ahead op ∷ pending) (machine.ahead other ∷ stack) place f ordered stands part = tt
whole_parts nodes (Left op g ∷ pending) (machine.left other e ∷ stack) place f ordered stands part = tt
whole_parts nodes pending stack place f ordered stands part = absurd stands

whole_due : (nodes : List FormulaNode) (pending : List Pending) → EndsIf (whole_with nodes pending None) None
whole_due nodes [] = tt
whole_due nodes (f ∷ pending) = tt

whole_shows : (k : Kept) (s : State) → Shows k s → EndsIf (whole_at k) (machine.whole s)
unfolding whole_at
whole_shows k (due stack) d =
    subst (λ (o : Option ℕ). EndsIf (whole_with k.nodes k.pending o) None) (sym d.operand) (whole_due k.nodes k.pending)
whole_shows k (over stack f) o =
    subst (λ (p : Option ℕ). EndsIf (whole_with k.nodes k.pending p) (machine.whole (over stack f))) (sym o.operand)
    (whole_parts k.nodes k.pending stack o.place f o.ordered o.pending o.part)

ended_left : (nodes : List FormulaNode) (op other : Infix) (place : ℕ) (f : Formula) → AreFormulaNodes nodes → op ≡ other → IsPart nodes place f
    → EndsIf (with_nodes nodes (also_of (Left op place))) (finish (due (machine.left other f ∷ [])))
ended_left nodes op other place f ordered e part =
    subst (λ (o : Infix). EndsIf (with_nodes nodes (also_of (Left op place))) (finish (due (machine.left o f ∷ [])))) e
    (elim op as (λ o. EndsIf (with_nodes nodes (also_of (Left o place))) (finish (due (machine.left o f ∷ [])))) [
      | Implies ↦ tt
      | Equivalent ↦ tt
      | Or ↦ tt
      | Exclusive ↦ tt
      | And ↦ tt
      | Until ↦ tt
      | Release ↦ tt
      | Weak ↦ tt
      | Strong ↦ tt
      | Also ↦ record { part = part; ordered = ordered }
    ])

ended_more : (other : Infix) (f : Formula) (h : machine.Pending) (stack : List machine.Pending)
    → EndsIf None (finish (due (machine.left other f ∷ h ∷ stack)))
ended_more Implies f h stack = tt
ended_more Equivalent f h stack = tt
ended_more Or f h stack = tt
ended_more Exclusive f h stack = tt
ended_more And f h stack = tt
ended_more Until f h stack = tt
ended_more Release f h stack = tt
ended_more Weak f h stack = tt
ended_more Strong f h stack = tt
ended_more Also f h stack = tt

ended_parts : (nodes : List FormulaNode) (pending : List Pending) (stack : List machine.Pending) → AreFormulaNodes nodes → Stands nodes pending stack
    → EndsIf (with_nodes nodes (ended_place pending)) (finish (due stack))
ended_parts nodes [] [] ordered stands = tt
ended_parts nodes (Paren ∷ []) (machine.paren ∷ stack) ordered stands = tt
ended_parts nodes (Paren ∷ g ∷ pending) (machine.paren ∷ stack) ordered stands = tt
ended_parts nodes (Ahead op ∷ []) (machine.ahead other ∷ stack) ordered stands = tt
ended_parts nodes (Ahead op ∷ g ∷ pending) (machine.ahead other ∷ stack) ordered stands = tt
ended_parts nodes (Left op place ∷ []) (machine.left other f ∷ []) ordered stands = ended_left nodes op other place f ordered stands.0 stands.1
ended_parts nodes (Left op place ∷ g ∷ pending) (machine.left other f ∷ h ∷ stack) ordered stands = ended_more other f h stack
ended_parts nodes (Left op place ∷ []) (machine.left other f ∷ h ∷ stack) ordered stands = absurd stands.2
ended_parts nodes (Left op place ∷ Paren ∷ pending) (machine.left other f ∷ []) ordered stands = absurd stands.2
ended_parts nodes (Left op place ∷ Ahead p ∷ pending) (machine.left other f ∷ []) ordered stands = absurd stands.2
ended_parts nodes (Left op place ∷ Left p q ∷ pending) (machine.left other f ∷ []) ordered stands = absurd stands.2
ended_parts nodes pending stack ordered stands = absurd stands

finish_shows : (k : Kept) (s : State) → Shows k s → EndsIf (finish_at k) (finish s)
unfolding finish_at
finish_shows k (due stack) d =
    subst (λ (o : Option ℕ). EndsIf (finish_with k o) (finish (due stack))) (sym d.operand) (ended_parts k.nodes k.pending stack d.ordered d.pending)
finish_shows k (over stack f) o =
    subst (λ (p : Option ℕ). EndsIf (finish_with k p) (finish (over stack f))) (sym o.operand)
    (whole_shows (reduced_at 0 k.nodes k.pending o.place) (reduces 0 stack f) (reduced_shows 0 k.nodes k.pending stack o.place f o.ordered o.pending o.part))

run_shows : (ts : List FormulaToken) (k : Kept) (s : State) → Shows k s → EndsIf (run_at k ts) (run s ts)
unfolding run_at
run_shows [] k s h = finish_shows k s h
run_shows (t ∷ ts) k s h =
    elim (turn_at k t) as (λ o. ShowsIf o (step s t) → EndsIf (run_if (λ r. run_at r ts) o) (machine.run_if (λ r. run r ts) (step s t))) [
      | None ↦ elim (step s t) as (λ p. ShowsIf None p → EndsIf None (machine.run_if (λ r. run r ts) p)) [
        | None ↦ λ _. tt
        | Some r ↦ λ no. absurd no
      ]
      | Some next ↦ elim (step s t) as (λ p. ShowsIf (Some next) p → EndsIf (run_at next ts) (machine.run_if (λ r. run r ts) p)) [
        | None ↦ λ no. absurd no
        | Some r ↦ λ shows. run_shows ts next r shows
      ]
    ] (turn_shows k s t h)

none_yet : AreFormulaNodes []
none_yet place lt = absurd (omega (arith, lt))

pub parse_shows : (ts : List FormulaToken) → EndsIf (parse_at ts) (parse ts)
unfolding parse_at
parse_shows ts = run_shows ts starting (due []) (record { operand = refl; pending = tt; ordered = none_yet })

pub record Found (ts : List FormulaToken) (nodes : List FormulaNode) (root : ℕ) : Type 0 where
  pub ordered : AreFormulaNodes nodes
  pub within : root < length nodes
  pub is : AreTokensOf ts (formula_in nodes root)

found_by : (ts : List FormulaToken) (nodes : List FormulaNode) (root : ℕ) (o : Option Formula) → parse ts ≡ o → EndsIf (Some (nodes, root)) o
    → Found ts nodes root
found_by ts nodes root None e ends = absurd ends
found_by ts nodes root (Some f) e ends = record {
  ordered = ends.ordered;
  within = ends.part.below;
  is = subst (AreTokensOf ts) (sym ends.part.is) (parse_takes ts f e);
}

pub found_there : (ts : List FormulaToken) (nodes : List FormulaNode) (root : ℕ) → parse_at ts ≡ Some (nodes, root) → Found ts nodes root
found_there ts nodes root e =
    found_by ts nodes root (parse ts) refl (subst (λ (o : Option (List FormulaNode × ℕ)). EndsIf o (parse ts)) e (parse_shows ts))

pub none_there : (ts : List FormulaToken) → parse_at ts ≡ None → (f : Formula) → AreTokensOf ts f → ⊥
none_there ts e f is =
    subst (EndsIf None) (ap parse is.is ∙ parse_again f is.ended is.grouped)
    (subst (λ (o : Option (List FormulaNode × ℕ)). EndsIf o (parse ts)) e (parse_shows ts))

-- ---- where it stops

steps_shows : (ts : List FormulaToken) (k : Kept) (s : State) → Shows k s → ShowsIf (steps_at k ts) (machine.steps s ts)
unfolding steps_at
steps_shows [] k s h = h
steps_shows (t ∷ ts) k s h =
    elim (turn_at k t) as (λ o. ShowsIf o (step s t) → ShowsIf (steps_if (λ r. steps_at r ts) o) (machine.steps_if (λ r. machine.steps r ts) (step s t))) [
      | None ↦ elim (step s t) as (λ p. ShowsIf None p → ShowsIf None (machine.steps_if (λ r. machine.steps r ts) p)) [
        | None ↦ λ _. tt
        | Some r ↦ λ no. absurd no
      ]
      | Some next ↦ elim (step s t) as (λ p. ShowsIf (Some next) p → ShowsIf (steps_at next ts) (machine.steps_if (λ r. machine.steps r ts) p)) [
        | None ↦ λ no. absurd no
        | Some r ↦ λ shows. steps_shows ts next r shows
      ]
    ] (turn_shows k s t h)

no_step : (o : Option State) → ShowsIf None o → o ≡ None
no_step None h = refl
no_step (Some s) h = absurd h

stopped_by : (ts : List FormulaToken) (place : ℕ) (stuck : IsStuck ts place) (o : Option State) → machine.steps (due []) (take place ts) ≡ o
    → ShowsIf (Some stuck.kept) o → IsStopped ts place
stopped_by ts place stuck None e shows = absurd shows
stopped_by ts place stuck (Some r) e shows = record {
  within = stuck.within;
  before = begins_one (take place ts) r e;
  stuck = λ lt.
      let t = get_or ts place tokens.LeftParen in
      let none : ShowsIf None (step r t) =
      subst (λ (q : Option Kept). ShowsIf q (step r t)) (stuck.stuck tokens.LeftParen lt) (turn_shows stuck.kept r t shows) in
      subst BeginsNone (sym (take_more ts place tokens.LeftParen lt)) (begins_none (take place ts) t r e (no_step (step r t) none));
}

pub stopped : (ts : List FormulaToken) (place : ℕ) → IsStuck ts place → IsStopped ts place
stopped ts place stuck =
    let shows = steps_shows (take place ts) starting (due []) (record { operand = refl; pending = tt; ordered = none_yet }) in
    stopped_by ts place stuck (machine.steps (due []) (take place ts)) refl
    (subst (λ (q : Option Kept). ShowsIf q (machine.steps (due []) (take place ts))) stuck.reached shows)
