-- A reader of tokens that keeps formulas: what it reads is written there, and what is written there it reads.
use Rattle.std.proofs.Common.{◌≡◌, ℕ, ◌+◌, ◌-◌, ◌%◌, ◌<◌, ◌≤◌, Bool, true, false, leb, List, [], ◌∷◌, ◌++◌, Option, Some, None, refl, sym}
use Rattle.std.proofs.Common.{subst, ap, ◌∙◌, arith, append_assoc, append-nil, if◌then◌else◌}
use Rattle.std.specs.Prelude.{nat_le}
use Rattle.std.proofs.lemmas.Bool.{le-leb, leb-true, leb-false}
use Rattle.pg_list_lemmas.proofs.Steps.{some_is, none_is_some}
use Rattle.pg_ltl.specs.declared.formula.Infix.{Infix}
use Rattle.pg_ltl.specs.declared.formula.Infix.TheVariants.{Implies, Equivalent, Or, Exclusive, And, Until, Release, Weak, Strong, Also}
use Rattle.pg_ltl.specs.declared.token.FormulaToken.{FormulaToken}
use Rattle.pg_ltl.specs.declared.token.FormulaToken.TheVariants as tokens
use Rattle.pg_ltl.specs.Formulas.{Formula, constant, proposition, bracket, one, two}
use Rattle.pg_ltl.specs.FormulaTexts.{lexemes, text_lexemes, strength, rank, left_rank, right_rank, IsGrouped, AreTokensOf, BeginsOne, BeginsNone}
use Rattle.pg_ltl.specs.Mirrors.Machine.{Pending, paren, ahead, left, State, due, over, completes, reduces, between, closed, step, whole}
use Rattle.pg_ltl.specs.Mirrors.Machine.{finish, run_if, run, steps_if, steps, parse}

-- ---- how operators bind

strength_least : (op : Infix) → strength op ≤ 7
strength_least Also = omega arith
strength_least Implies = omega arith
strength_least Equivalent = omega arith
strength_least Or = omega arith
strength_least Exclusive = omega arith
strength_least And = omega arith
strength_least Until = omega arith
strength_least Release = omega arith
strength_least Weak = omega arith
strength_least Strong = omega arith

-- what may stand to the right of an operator isn't taken by it to the left
not_both : (s t : ℕ) → s + 1 - s % 2 ≤ t → t + t % 2 ≤ s → ⊥
not_both s t h k = grind arith

-- what isn't taken to the left may stand to the right
one_of_both : (s t : ℕ) → s < t + t % 2 → s + 1 - s % 2 ≤ t
one_of_both s t h = grind arith

right_at_least : (s : ℕ) → s ≤ s + 1 - s % 2
right_at_least s = grind arith

right_at_most : (s : ℕ) → s ≤ 7 → s + 1 - s % 2 ≤ 8
right_at_most s h = grind arith

left_at_most : (s : ℕ) → s ≤ 7 → s + s % 2 ≤ 8
left_at_most s h = grind arith

-- ---- stacks

-- a formula of the rank may stand behind these
abbrev Accepts : List Pending → ℕ → Type 0
Accepts [] r = Unit {0}
Accepts (paren ∷ stack) r = 1 ≤ r
Accepts (ahead op ∷ stack) r = 8 ≤ r
Accepts (left op f ∷ stack) r = right_rank op ≤ r

accepts_top : (stack : List Pending) (r : ℕ) → 8 ≤ r → Accepts stack r
accepts_top [] r h = tt
accepts_top (paren ∷ stack) r h = omega (arith, h)
accepts_top (ahead op ∷ stack) r h = h
accepts_top (left op f ∷ stack) r h =
    let most = right_at_most (strength op) (strength_least op) in
    omega (arith, h, most)

-- ---- what is written is read

-- what may follow a formula of the rank
abbrev Follows : ℕ → List FormulaToken → Type 0
Follows r [] = Unit {0}
Follows r (tokens.Between op ∷ ts) = left_rank op ≤ r
Follows r (tokens.RightParen ∷ ts) = 1 ≤ r
Follows r (t ∷ ts) = Unit {0}

follows_more : (r s : ℕ) (ts : List FormulaToken) → r ≤ s → Follows r ts → Follows s ts
follows_more r s [] le h = tt
follows_more r s (tokens.Between op ∷ ts) le h = omega (arith, le, h)
follows_more r s (tokens.RightParen ∷ ts) le h = omega (arith, le, h)
follows_more r s (tokens.LeftParen ∷ ts) le h = tt
follows_more r s (tokens.Before op ∷ ts) le h = tt
follows_more r s (tokens.Constant b ∷ ts) le h = tt
follows_more r s (tokens.Proposition p ∷ ts) le h = tt

-- an operator that waits takes its right operand before what follows
absorbed : (op : Infix) (f g : Formula) (stack : List Pending) (ts : List FormulaToken) → Follows (strength op) ts
    → run (over (left op f ∷ stack) g) ts ≡ run (over stack (two op f g)) ts
absorbed op f g stack [] h = rw (le-leb 0 (strength op) (omega arith)) refl
absorbed op f g stack (tokens.Between other ∷ ts) h = rw (le-leb (left_rank other) (strength op) h) refl
absorbed op f g stack (tokens.RightParen ∷ ts) h = rw (le-leb 1 (strength op) h) refl
absorbed op f g stack (tokens.LeftParen ∷ ts) h = refl
absorbed op f g stack (tokens.Before other ∷ ts) h = refl
absorbed op f g stack (tokens.Constant b ∷ ts) h = refl
absorbed op f g stack (tokens.Proposition p ∷ ts) h = refl

not_leb : (a b : ℕ) → (a ≤ b → ⊥) → leb a b ≡ false
not_leb a b h = grind (arith, h)

-- an operator that may stand there waits
shifted : (op : Infix) (f : Formula) (stack : List Pending) → Accepts stack (strength op)
    → step (over stack f) (tokens.Between op) ≡ Some (due (left op f ∷ stack))
shifted op f [] h = refl
shifted Also f (paren ∷ stack) h = absurd (omega (arith, h))
shifted Implies f (paren ∷ stack) h = refl
shifted Equivalent f (paren ∷ stack) h = refl
shifted Or f (paren ∷ stack) h = refl
shifted Exclusive f (paren ∷ stack) h = refl
shifted And f (paren ∷ stack) h = refl
shifted Until f (paren ∷ stack) h = refl
shifted Release f (paren ∷ stack) h = refl
shifted Weak f (paren ∷ stack) h = refl
shifted Strong f (paren ∷ stack) h = refl
shifted op f (ahead p ∷ stack) h =
    let most = strength_least op in
    absurd (omega (arith, h, most))
shifted op f (left other g ∷ stack) h = rw (not_leb (left_rank op) (strength other) (not_both (strength other) (strength op) h)) refl

-- no operator before an operand waits for an operator between operands
over_there : (op : Infix) (f : Formula) (stack : List Pending) → Accepts stack (strength op) → completes stack f ≡ over stack f
over_there op f [] h = refl
over_there op f (paren ∷ stack) h = refl
over_there op f (ahead p ∷ stack) h =
    let most = strength_least op in
    absurd (omega (arith, h, most))
over_there op f (left other e ∷ stack) h = refl

accepts_more : (stack : List Pending) (r s : ℕ) → r ≤ s → Accepts stack r → Accepts stack s
accepts_more [] r s le h = tt
accepts_more (paren ∷ stack) r s le h = omega (arith, le, h)
accepts_more (ahead p ∷ stack) r s le h = omega (arith, le, h)
accepts_more (left op f ∷ stack) r s le h = omega (arith, le, h)

again : (f : Formula) (stack : List Pending) (ts : List FormulaToken) → IsGrouped f → Accepts stack (rank f) → Follows (rank f) ts
    → run (due stack) (lexemes f ++ ts) ≡ run (completes stack f) ts
again (constant value) stack ts grouped accepts follows = refl
again (proposition p) stack ts grouped accepts follows = refl
again (bracket f) stack ts grouped accepts follows =
    ap (run (due (paren ∷ stack))) (append_assoc (lexemes f) (tokens.RightParen ∷ []) ts)
    ∙ again f (paren ∷ stack) (tokens.RightParen ∷ ts) grouped.1 grouped.0 grouped.0
again (one op f) stack ts grouped accepts follows =
    again f (ahead op ∷ stack) ts grouped.1 grouped.0 (follows_more 8 (rank f) ts grouped.0 follows)
again (two op f g) stack ts grouped accepts follows =
    let l = grouped.0 in
    let r = grouped.1 in
    let least = right_at_least (strength op) in
    ap (run (due stack)) (append_assoc (lexemes f) (tokens.Between op ∷ lexemes g) ts)
    ∙ again f stack (tokens.Between op ∷ (lexemes g ++ ts)) grouped.2 (accepts_more stack (strength op) (rank f) (omega (arith, l)) accepts) l
    ∙ ap (λ s. run s (tokens.Between op ∷ (lexemes g ++ ts))) (over_there op f stack accepts)
    ∙ ap (run_if (λ s. run s (lexemes g ++ ts))) (shifted op f stack accepts)
    ∙ again g (left op f ∷ stack) ts grouped.3 r (follows_more (strength op) (rank g) ts (omega (arith, r, least)) follows)
    ∙ absorbed op f g stack ts follows
    ∙ ap (λ s. run s ts) (sym (over_there op (two op f g) stack accepts))

pub parse_again : (f : Formula) (ended : Bool) → IsGrouped f → parse (text_lexemes f ended) ≡ Some f
parse_again f true grouped = again f [] (tokens.Between Also ∷ []) grouped tt (omega arith)
parse_again f false grouped = again f [] [] grouped tt tt

-- ---- what is read is written

abbrev spell : List Pending → List FormulaToken
spell [] = []
spell (paren ∷ stack) = spell stack ++ (tokens.LeftParen ∷ [])
spell (ahead op ∷ stack) = spell stack ++ (tokens.Before op ∷ [])
spell (left op f ∷ stack) = spell stack ++ (lexemes f ++ (tokens.Between op ∷ []))

abbrev IsStack : List Pending → Type 0
IsStack [] = Unit {0}
IsStack (paren ∷ stack) = IsStack stack
IsStack (ahead op ∷ stack) = IsStack stack
IsStack (left op f ∷ stack) = IsGrouped f × (left_rank op ≤ rank f) × Accepts stack (strength op) × IsStack stack

-- no operator before an operand waits
abbrev IsFree : List Pending → Type 0
IsFree [] = Unit {0}
IsFree (paren ∷ stack) = Unit {0}
IsFree (ahead op ∷ stack) = ⊥
IsFree (left op f ∷ stack) = Unit {0}

record Due (stack : List Pending) (read : List FormulaToken) : Type 0 where
  pub spelt : read ≡ spell stack
  pub is : IsStack stack

record Over (stack : List Pending) (f : Formula) (read : List FormulaToken) : Type 0 where
  pub spelt : read ≡ spell stack ++ lexemes f
  pub is : IsStack stack
  pub accepts : Accepts stack (rank f)
  pub free : IsFree stack
  pub grouped : IsGrouped f

abbrev Good : State → List FormulaToken → Type 0
Good (due stack) read = Due stack read
Good (over stack f) read = Over stack f read × (8 ≤ rank f)

abbrev GoodIf : Option State → List FormulaToken → Type 0
GoodIf None read = Unit {0}
GoodIf (Some s) read = Good s read

completes_good : (stack : List Pending) (f : Formula) (read : List FormulaToken) → read ≡ spell stack ++ lexemes f → IsStack stack → IsGrouped f
    → 8 ≤ rank f → Good (completes stack f) read
completes_good [] f read e is grouped top = (record { spelt = e; is = is; accepts = tt; free = tt; grouped = grouped }, top)
completes_good (paren ∷ stack) f read e is grouped top =
    (record { spelt = e; is = is; accepts = accepts_top (paren ∷ stack) (rank f) top; free = tt; grouped = grouped }, top)
completes_good (ahead op ∷ stack) f read e is grouped top =
    completes_good stack (one op f) read (e ∙ append_assoc (spell stack) (tokens.Before op ∷ []) (lexemes f)) is (top, grouped) (omega arith)
completes_good (left op g ∷ stack) f read e is grouped top =
    (record { spelt = e; is = is; accepts = accepts_top (left op g ∷ stack) (rank f) top; free = tt; grouped = grouped }, top)

abbrev Stops : ℕ → List Pending → Type 0
Stops bound [] = Unit {0}
Stops bound (paren ∷ stack) = Unit {0}
Stops bound (ahead op ∷ stack) = Unit {0}
Stops bound (left op f ∷ stack) = strength op < bound

abbrev Reduced : ℕ → State → List FormulaToken → Type 0
Reduced bound (due stack) read = ⊥
Reduced bound (over stack f) read = Over stack f read × (bound ≤ rank f) × Stops bound stack

free_there : (op : Infix) (stack : List Pending) → Accepts stack (strength op) → IsFree stack
free_there op [] h = tt
free_there op (paren ∷ stack) h = tt
free_there op (ahead p ∷ stack) h =
    let most = strength_least op in
    omega (arith, h, most)
free_there op (left other f ∷ stack) h = tt

reduces_good : (bound : ℕ) (stack : List Pending) (f : Formula) (read : List FormulaToken) → Over stack f read → bound ≤ rank f
    → Reduced bound (reduces bound stack f) read
reduces_good bound [] f read o le = (o, le, tt)
reduces_good bound (paren ∷ stack) f read o le = (o, le, tt)
reduces_good bound (ahead op ∷ stack) f read o le = (o, le, tt)
reduces_good bound (left op g ∷ stack) f read o le =
    elim (nat_le bound (strength op)) as (λ c. nat_le bound (strength op) ≡ c
    → Reduced bound (if c then reduces bound stack (two op g f) else over (left op g ∷ stack) f) read) [
      | true ↦ λ e. reduces_good bound stack (two op g f) read
          (record {
            spelt = o.spelt ∙ append_assoc (spell stack) (lexemes g ++ (tokens.Between op ∷ [])) (lexemes f)
                ∙ ap (λ ts. spell stack ++ ts) (append_assoc (lexemes g) (tokens.Between op ∷ []) (lexemes f));
            is = o.is.3;
            accepts = o.is.2;
            free = free_there op stack o.is.2;
            grouped = (o.is.1, o.accepts, o.is.0, o.grouped);
          })
          (leb-true bound (strength op) e)
      | false ↦ λ e. (o, le, leb-false bound (strength op) e)
    ] refl

waits : (op : Infix) (stack : List Pending) (f : Formula) (read : List FormulaToken) → Over stack f read → left_rank op ≤ rank f
    → Accepts stack (strength op) → Due (left op f ∷ stack) (read ++ (tokens.Between op ∷ []))
waits op stack f read o le accepts = record {
  spelt = ap (λ ts. ts ++ (tokens.Between op ∷ [])) o.spelt ∙ append_assoc (spell stack) (lexemes f) (tokens.Between op ∷ []);
  is = (o.grouped, le, accepts, o.is);
}

between_open : (op : Infix) (stack : List Pending) (f : Formula) (read : List FormulaToken) → Reduced (left_rank op) (over (paren ∷ stack) f) read
    → GoodIf (between op (over (paren ∷ stack) f)) (read ++ (tokens.Between op ∷ []))
between_open Also stack f read r = tt
between_open Implies stack f read r = waits Implies (paren ∷ stack) f read r.0 r.1 (omega arith)
between_open Equivalent stack f read r = waits Equivalent (paren ∷ stack) f read r.0 r.1 (omega arith)
between_open Or stack f read r = waits Or (paren ∷ stack) f read r.0 r.1 (omega arith)
between_open Exclusive stack f read r = waits Exclusive (paren ∷ stack) f read r.0 r.1 (omega arith)
between_open And stack f read r = waits And (paren ∷ stack) f read r.0 r.1 (omega arith)
between_open Until stack f read r = waits Until (paren ∷ stack) f read r.0 r.1 (omega arith)
between_open Release stack f read r = waits Release (paren ∷ stack) f read r.0 r.1 (omega arith)
between_open Weak stack f read r = waits Weak (paren ∷ stack) f read r.0 r.1 (omega arith)
between_open Strong stack f read r = waits Strong (paren ∷ stack) f read r.0 r.1 (omega arith)

between_good : (op : Infix) (s : State) (read : List FormulaToken) → Reduced (left_rank op) s read → GoodIf (between op s) (read ++ (tokens.Between op ∷ []))
between_good op (due stack) read r = absurd r
between_good op (over [] f) read r = waits op [] f read r.0 r.1 tt
between_good op (over (paren ∷ stack) f) read r = between_open op stack f read r
between_good op (over (ahead p ∷ stack) f) read r = absurd r.0.free
between_good op (over (left other g ∷ stack) f) read r =
    waits op (left other g ∷ stack) f read r.0 r.1 (one_of_both (strength other) (strength op) r.2)

closed_good : (s : State) (read : List FormulaToken) → Reduced 1 s read → GoodIf (closed s) (read ++ (tokens.RightParen ∷ []))
closed_good (due stack) read r = absurd r
closed_good (over [] f) read r = tt
closed_good (over (paren ∷ stack) f) read r =
    completes_good stack (bracket f) (read ++ (tokens.RightParen ∷ []))
    (ap (λ ts. ts ++ (tokens.RightParen ∷ [])) r.0.spelt
    ∙ append_assoc (spell stack ++ (tokens.LeftParen ∷ [])) (lexemes f) (tokens.RightParen ∷ [])
    ∙ append_assoc (spell stack) (tokens.LeftParen ∷ []) (lexemes f ++ (tokens.RightParen ∷ [])))
    r.0.is (r.0.accepts, r.0.grouped) (omega arith)
closed_good (over (ahead p ∷ stack) f) read r = tt
closed_good (over (left op g ∷ stack) f) read r = tt

step_good : (s : State) (t : FormulaToken) (read : List FormulaToken) → Good s read → GoodIf (step s t) (read ++ (t ∷ []))
step_good (due stack) (tokens.Proposition p) read d =
    completes_good stack (proposition p) (read ++ (tokens.Proposition p ∷ [])) (ap (λ ts. ts ++ (tokens.Proposition p ∷ [])) d.spelt) d.is tt
    (omega arith)
step_good (due stack) (tokens.Constant value) read d =
    completes_good stack (constant value) (read ++ (tokens.Constant value ∷ [])) (ap (λ ts. ts ++ (tokens.Constant value ∷ [])) d.spelt) d.is tt
    (omega arith)
step_good (due stack) (tokens.Before op) read d = record { spelt = ap (λ ts. ts ++ (tokens.Before op ∷ [])) d.spelt; is = d.is }
step_good (due stack) (tokens.Between op) read d = tt
step_good (due stack) tokens.LeftParen read d = record { spelt = ap (λ ts. ts ++ (tokens.LeftParen ∷ [])) d.spelt; is = d.is }
step_good (due stack) tokens.RightParen read d = tt
step_good (over stack f) (tokens.Proposition p) read o = tt
step_good (over stack f) (tokens.Constant value) read o = tt
step_good (over stack f) (tokens.Before op) read o = tt
step_good (over stack f) (tokens.Between op) read o =
    let most = left_at_most (strength op) (strength_least op) in
    let top = o.1 in
    between_good op (reduces (left_rank op) stack f) read (reduces_good (left_rank op) stack f read o.0 (omega (arith, most, top)))
step_good (over stack f) tokens.LeftParen read o = tt
step_good (over stack f) tokens.RightParen read o =
    let top = o.1 in
    closed_good (reduces 1 stack f) read (reduces_good 1 stack f read o.0 (omega (arith, top)))

abbrev pub ReadsIf : Option Formula → List FormulaToken → Type 0
ReadsIf None ts = Unit {0}
ReadsIf (Some f) ts = AreTokensOf ts f

whole_good : (s : State) (read : List FormulaToken) → Reduced 0 s read → ReadsIf (whole s) read
whole_good (due stack) read r = absurd r
whole_good (over [] f) read r = record { ended = false; is = r.0.spelt ∙ sym (append-nil (lexemes f)); grouped = r.0.grouped }
whole_good (over (paren ∷ stack) f) read r = tt
whole_good (over (ahead p ∷ stack) f) read r = tt
whole_good (over (left op g ∷ stack) f) read r = tt

finish_good : (s : State) (read : List FormulaToken) → Good s read → ReadsIf (finish s) read
finish_good (over stack f) read o = whole_good (reduces 0 stack f) read (reduces_good 0 stack f read o.0 (omega arith))
finish_good (due (left Also f ∷ [])) read d = record { ended = true; is = d.spelt; grouped = d.is.0 }
finish_good (due stack) read d = tt

run_good : (ts : List FormulaToken) (s : State) (read : List FormulaToken) → Good s read → ReadsIf (run s ts) (read ++ ts)
run_good [] s read good = subst (ReadsIf (finish s)) (sym (append-nil read)) (finish_good s read good)
run_good (t ∷ ts) s read good =
    subst (ReadsIf (run_if (λ r. run r ts) (step s t))) (append_assoc read (t ∷ []) ts)
    (elim (step s t) as (λ o. GoodIf o (read ++ (t ∷ [])) → ReadsIf (run_if (λ r. run r ts) o) ((read ++ (t ∷ [])) ++ ts)) [
      | None ↦ λ g. tt
      | Some r ↦ λ g. run_good ts r (read ++ (t ∷ [])) g
    ] (step_good s t read good))

pub parse_takes : (ts : List FormulaToken) (f : Formula) → parse ts ≡ Some f → AreTokensOf ts f
parse_takes ts f e = subst (λ o. ReadsIf o ts) e (run_good ts (due []) [] (record { spelt = refl; is = tt }))

-- ---- what can be gone on with

-- each bracket that is open closes
abbrev closers : List Pending → List FormulaToken
closers [] = []
closers (paren ∷ stack) = tokens.RightParen ∷ closers stack
closers (ahead op ∷ stack) = closers stack
closers (left op f ∷ stack) = closers stack

follows_closers : (r : ℕ) (stack : List Pending) → 1 ≤ r → Follows r (closers stack)
follows_closers r [] h = tt
follows_closers r (paren ∷ stack) h = h
follows_closers r (ahead op ∷ stack) h = follows_closers r stack h
follows_closers r (left op f ∷ stack) h = follows_closers r stack h

right_least : (s : ℕ) → 1 ≤ s + 1 - s % 2
right_least s = grind arith

closers_follow : (op : Infix) (stack : List Pending) → Accepts stack (strength op) → Follows (strength op) (closers stack)
closers_follow op [] h = tt
closers_follow op (paren ∷ stack) h = h
closers_follow op (ahead p ∷ stack) h = follows_closers (strength op) stack (omega (arith, h))
closers_follow op (left other f ∷ stack) h =
    let least = right_least (strength other) in
    follows_closers (strength op) stack (omega (arith, h, least))

closes : (stack : List Pending) (f : Formula) → IsStack stack → (g : Formula) × (run (completes stack f) (closers stack) ≡ Some g)
closes [] f is = (f, refl)
closes (paren ∷ stack) f is = closes stack (bracket f) is
closes (ahead op ∷ stack) f is = closes stack (one op f) is
closes (left op g ∷ stack) f is =
    let more = closes stack (two op g f) is.3 in (
      more.0,
      absorbed op g f stack (closers stack) (closers_follow op stack is.2)
          ∙ ap (λ s. run s (closers stack)) (sym (over_there op (two op g f) stack is.2)) ∙ more.1,
    )

free_over : (stack : List Pending) (f : Formula) → IsFree stack → completes stack f ≡ over stack f
free_over [] f h = refl
free_over (paren ∷ stack) f h = refl
free_over (ahead op ∷ stack) f h = absurd h
free_over (left op g ∷ stack) f h = refl

goes_on : (s : State) (read : List FormulaToken) → Good s read → (more : List FormulaToken) × (g : Formula) × (run s more ≡ Some g)
goes_on (due stack) read d = let c = closes stack (constant true) d.is in (tokens.Constant true ∷ closers stack, c.0, c.1)
goes_on (over stack f) read o =
    let c = closes stack f o.0.is in
    (closers stack, c.0, ap (λ s. run s (closers stack)) (sym (free_over stack f o.0.free)) ∙ c.1)

steps_good : (ts : List FormulaToken) (s : State) (read : List FormulaToken) → Good s read → GoodIf (steps s ts) (read ++ ts)
steps_good [] s read good = subst (Good s) (sym (append-nil read)) good
steps_good (t ∷ ts) s read good =
    subst (GoodIf (steps_if (λ r. steps r ts) (step s t))) (append_assoc read (t ∷ []) ts)
    (elim (step s t) as (λ o. GoodIf o (read ++ (t ∷ [])) → GoodIf (steps_if (λ r. steps r ts) o) ((read ++ (t ∷ [])) ++ ts)) [
      | None ↦ λ g. tt
      | Some r ↦ λ g. steps_good ts r (read ++ (t ∷ [])) g
    ] (step_good s t read good))

run_after : (ts : List FormulaToken) (s r : State) (more : List FormulaToken) → steps s ts ≡ Some r → run s (ts ++ more) ≡ run r more
run_after [] s r more e = ap (λ q. run q more) (some_is s r e)
run_after (t ∷ ts) s r more e =
    elim (step s t) as (λ o. steps_if (λ q. steps q ts) o ≡ Some r → run_if (λ q. run q (ts ++ more)) o ≡ run r more) [
      | None ↦ λ h. absurd (none_is_some r h)
      | Some q ↦ λ h. run_after ts q r more h
    ] e

pub begins_one : (ts : List FormulaToken) (r : State) → steps (due []) ts ≡ Some r → BeginsOne ts
begins_one ts r e =
    let good : Good r ts = subst (λ (o : Option State). GoodIf o ts) e (steps_good ts (due []) [] (record { spelt = refl; is = tt })) in
    let on = goes_on r ts good in
    record { more = on.0; formula = on.1; is = parse_takes (ts ++ on.0) on.1 (run_after ts (due []) r on.0 e ∙ on.2) }

pub begins_none : (ts : List FormulaToken) (t : FormulaToken) (r : State) → steps (due []) ts ≡ Some r → step r t ≡ None → BeginsNone (ts ++ (t ∷ []))
begins_none ts t r e stuck more f is =
    none_is_some f (
    sym (ap (run_if (λ q. run q more)) stuck)
    ∙ sym (run_after ts (due []) r (t ∷ more) e)
    ∙ ap parse (sym (append_assoc ts (t ∷ []) more) ∙ is.is)
    ∙ parse_again f is.ended is.grouped
    )
