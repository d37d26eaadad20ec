-- What the reader of a body gives is written there, and what is written there it gives.
use Rattle.pg_hoa_syntax.proofs.Common.{◌≡◌, ℕ, suc, zero, ◌≤◌, ◌<◌, Bool, true, false, cond, List, [], ◌∷◌, ◌++◌, length, Option, Some, None}
use Rattle.pg_hoa_syntax.proofs.Common.{refl, sym, ap, subst, ◌∙◌, arith, append_assoc, inl, inr, map, codes, Contains, ◌==◌, ◌||◌, nat_lt}
use Rattle.pg_hoa_syntax.proofs.Common.{AllByRecursion, flat_map, bytes_eq, lt-ltb, eq-eqb, All-cons, All-head, All-tail, All-from_recursion}
use Rattle.pg_hoa_syntax.proofs.Common.{All-map, All-contains, Contains-append_left, Contains-append_right, Contains-push, eqb_tells, nat_tests}
use Rattle.pg_hoa_syntax.proofs.Common.{bytes_eq-Decides, Label, Op, Lexeme, number, header, string, end, left_bracket, right_bracket}
use Rattle.pg_hoa_syntax.proofs.Common.{left_brace, right_brace, ampersand, stray, Character, formula_lexemes, ops_at, first, IsToken, ◌>>=◌}
use Rattle.pg_hoa_syntax.proofs.Common.{Edge, StateLine, sets_lexemes, name_lexemes, edge_lexemes, state_lexemes, set_list, EachBelow}
use Rattle.pg_hoa_syntax.proofs.Common.{IsDistinct, EdgeFits, LineFits, KeptEdge, KeptLine, kept_edges, greatest_of, kept_of_edge, kept_of_line}
use Rattle.pg_hoa_syntax.proofs.Common.{due, state_of, new_state, set_in, behind_set, sets_at, rising_sets_at, sets_before, sets_if}
use Rattle.pg_hoa_syntax.proofs.Common.{bracket_first, behind_label, single, target_at, edge_at, begins_edge, edges_within, edges_at}
use Rattle.pg_hoa_syntax.proofs.Common.{kept_edges_at, name_first, behind_name, line_at, begins_line, is_seen, lines_within, body_at, rising}
use Rattle.pg_hoa_syntax.proofs.Common.{chosen, some, some_is, none_is_some}
use Rattle.std.proofs.lemmas.List.{length-append}
use Rattle.pg_hoa_syntax.proofs.Lists.{all_of_both}
use Rattle.pg_hoa_syntax.proofs.Steps.{bind_some}
use Rattle.pg_hoa_syntax.proofs.FormulaLaws.{number_tokens, ReadsFormula, ops_take, ops_again, formula_tokens}

-- ---- tokens one by one

pub due_is : (tokens : List Lexeme) (x : Lexeme × List Lexeme) → due tokens ≡ Some x → tokens ≡ x.0 ∷ x.1
unfolding due
due_is [] x e = absurd (none_is_some x e)
due_is (stray ∷ rest) x e = absurd (none_is_some x e)
due_is (t ∷ rest) x e = ap (λ (y : Lexeme × List Lexeme). y.0 ∷ y.1) (some_is (t, rest) x e)

state_of_takes : (states : ℕ) (t : Lexeme) (n : ℕ) → state_of states t ≡ Some n → (t ≡ number n) × (n < states)
unfolding state_of
state_of_takes states (number m) n e = grind (arith, nat_tests, chosen (nat_lt m states) (some m) None (some n) e)
state_of_takes states t n e = absurd (none_is_some n e)

state_of_again : (states n : ℕ) → n < states → state_of states (number n) ≡ Some n
unfolding state_of
state_of_again states n h = rw (lt-ltb n states h) refl

-- ---- sets

set_in_takes : (sets : ℕ) (t : Lexeme) (n : ℕ) → set_in sets t ≡ Some (Some n) → (t ≡ number n) × (n < sets)
unfolding set_in
set_in_takes sets (number m) n e = grind (arith, nat_tests, chosen (nat_lt m sets) (some (some m)) None (some (some n)) e)
set_in_takes sets t n e = absurd cc

set_in_ends : (sets : ℕ) (t : Lexeme) → set_in sets t ≡ Some None → t ≡ right_brace
unfolding set_in
set_in_ends sets (number m) e = grind (arith, nat_tests, chosen (nat_lt m sets) (some (some m)) None (some None) e)
set_in_ends sets right_brace e = refl
set_in_ends sets t e = absurd cc

-- the numbers are those before the last brace, all in range
record ReadSets (sets : ℕ) (tokens : List Lexeme) (x : List ℕ × List Lexeme) : Type 0 where
  below : EachBelow sets x.0
  is : tokens ≡ map number x.0 ++ (right_brace ∷ x.1)

one_set : (sets : ℕ) (t : Lexeme) (rest : List Lexeme) (o : Option ℕ) (x : List ℕ × List Lexeme)
    → ((y : List ℕ × List Lexeme) → sets_at sets rest ≡ Some y → ReadSets sets rest y) → set_in sets t ≡ Some o
    → behind_set (sets_at sets rest) rest o ≡ Some x → ReadSets sets (t ∷ rest) x
one_set sets t rest None x more a h = grind (arith, nat_tests, some_is ([], rest) x h, set_in_ends sets t a)
one_set sets t rest (Some n) x more a h =
    let b = bind_some (sets_at sets rest) (λ y. some (n ∷ y.0, y.1)) x h in
    let others = more b.0 b.1 in
    let one = set_in_takes sets t n a in
    subst (ReadSets sets (t ∷ rest)) (some_is (n ∷ b.0.0, b.0.1) x b.2)
    (record {
      below = All-cons (λ n. n < sets) n b.0.0 one.1 others.below;
      is = ap (λ (u : Lexeme). u ∷ rest) one.0
          ∙ ap (λ (ts : List Lexeme). number n ∷ ts) others.is;
    })

sets_take : (sets : ℕ) (tokens : List Lexeme) (x : List ℕ × List Lexeme) → sets_at sets tokens ≡ Some x → ReadSets sets tokens x
unfolding sets_at
sets_take sets [] x e = absurd (none_is_some x e)
sets_take sets (t ∷ rest) x e =
    let b = bind_some (set_in sets t) (behind_set (sets_at sets rest) rest) x e in
    one_set sets t rest b.0 x (sets_take sets rest) b.1 b.2

sets_again : (sets : ℕ) (ns : List ℕ) (rest : List Lexeme) → EachBelow sets ns
    → sets_at sets (map number ns ++ (right_brace ∷ rest)) ≡ Some (ns, rest)
unfolding sets_at set_in
sets_again sets [] rest h = refl
sets_again sets (n ∷ ns) rest h =
    let below : n < sets = All-head (λ n. n < sets) n ns h in
    rw (lt-ltb n sets below, sets_again sets ns rest (All-tail (λ n. n < sets) n ns h)) refl

-- the sets that stand at the front, if any
record ReadSetsIf (sets : ℕ) (tokens : List Lexeme) (x : List ℕ × List Lexeme) : Type 0 where
  written : Option (List ℕ)
  below : EachBelow sets (set_list written)
  is : tokens ≡ sets_lexemes written ++ x.1
  kept : rising (set_list written) ≡ x.0

sets_before_take : (sets : ℕ) (t : Lexeme) (rest : List Lexeme) (x : List ℕ × List Lexeme) → sets_before sets (t ∷ rest) (t, rest) ≡ Some x
    → ReadSetsIf sets (t ∷ rest) x
unfolding rising_sets_at
sets_before_take sets left_brace rest x e =
    let b = bind_some (sets_at sets rest) (λ (y : List ℕ × List Lexeme). some (rising y.0, y.1)) x e in
    let read = sets_take sets rest b.0 b.1 in
    subst (ReadSetsIf sets (left_brace ∷ rest)) (some_is (rising b.0.0, b.0.1) x b.2)
    (record {
      written = Some b.0.0;
      below = read.below;
      is = ap (λ (ts : List Lexeme). left_brace ∷ ts) (read.is
          ∙ sym (append_assoc (map number b.0.0) (right_brace ∷ []) b.0.1));
      kept = refl;
    })
sets_before_take sets t rest x e = grind (arith, nat_tests, some_is ([], t ∷ rest) x e)

sets_if_takes : (sets : ℕ) (tokens : List Lexeme) (x : List ℕ × List Lexeme) → sets_if sets tokens ≡ Some x → ReadSetsIf sets tokens x
unfolding sets_if
sets_if_takes sets tokens x e =
    let b = bind_some (due tokens) (sets_before sets tokens) x e in
    let is = due_is tokens b.0 b.1 in
    subst (λ (ts : List Lexeme). ReadSetsIf sets ts x) (sym is) (sets_before_take sets b.0.0 b.0.1 x
    (subst (λ (ts : List Lexeme). sets_before sets ts b.0 ≡ Some x) is b.2))

-- an edge, a line or the end stands first
abbrev Opens : List Lexeme → Type 0
Opens [] = ⊥
Opens (left_bracket ∷ rest) = Unit {0}
Opens (header w ∷ rest) = Unit {0}
Opens (end ∷ rest) = Unit {0}
Opens (t ∷ rest) = ⊥

sets_if_again : (sets : ℕ) (written : Option (List ℕ)) (rest : List Lexeme) → EachBelow sets (set_list written) → Opens rest
    → sets_if sets (sets_lexemes written ++ rest) ≡ Some (rising (set_list written), rest)
unfolding sets_if rising_sets_at due
sets_if_again sets (Some ns) rest h o =
    ap (rising_sets_at sets) (append_assoc (map number ns) (right_brace ∷ []) rest)
    ∙ ap (λ (o : Option (List ℕ × List Lexeme)). o >>= λ x. some (rising x.0, x.1)) (sets_again sets ns rest h)
sets_if_again sets None [] h o = absurd o
sets_if_again sets None (left_bracket ∷ rest) h o = refl
sets_if_again sets None (header w ∷ rest) h o = refl
sets_if_again sets None (end ∷ rest) h o = refl
sets_if_again sets None (t ∷ rest) h o = absurd o

-- ---- one edge

label_takes : (tokens rest : List Lexeme) → behind_label tokens ≡ Some rest → tokens ≡ right_bracket ∷ rest
unfolding behind_label
label_takes tokens rest e =
    let b = bind_some (due tokens) bracket_first rest e in
    due_is tokens b.0 b.1 ∙ bracket b.0.0 b.0.1 b.2
  where
    bracket : (t : Lexeme) (after : List Lexeme) → bracket_first (t, after) ≡ Some rest → t ∷ after ≡ right_bracket ∷ rest
    bracket right_bracket after h = ap (λ (ts : List Lexeme). right_bracket ∷ ts) (some_is after rest h)
    bracket t after h = absurd (none_is_some rest h)

single_is : (target x : ℕ × List Lexeme) (t : Lexeme) (rest : List Lexeme) → single target (t, rest) ≡ Some x → target ≡ x
single_is target x ampersand rest e = absurd (none_is_some x e)
single_is target x t rest e = some_is target x e

target_takes : (states : ℕ) (tokens : List Lexeme) (x : ℕ × List Lexeme) → target_at states tokens ≡ Some x
    → (tokens ≡ number x.0 ∷ x.1) × (x.0 < states)
unfolding target_at
target_takes states tokens x e =
    let a = bind_some (due tokens) (λ y. state_of states y.0 >>= λ n. due y.1 >>= single (n, y.1)) x e in
    let b = bind_some (state_of states a.0.0) (λ n. due a.0.1 >>= single (n, a.0.1)) x a.2 in
    let c = bind_some (due a.0.1) (single (b.0, a.0.1)) x b.2 in
    let same = single_is (b.0, a.0.1) x c.0.0 c.0.1 c.2 in
    let one = state_of_takes states a.0.0 b.0 b.1 in (
      due_is tokens a.0 a.1 ∙ ap (λ (t : Lexeme). t ∷ a.0.1) one.0 ∙ ap (λ (y : ℕ × List Lexeme). number y.0 ∷ y.1) same,
      subst (λ (y : ℕ × List Lexeme). y.0 < states) same one.1,
    )

target_again : (states target : ℕ) (sets : Option (List ℕ)) (rest : List Lexeme) → target < states → Opens rest
    → target_at states (number target ∷ (sets_lexemes sets ++ rest)) ≡ Some (target, sets_lexemes sets ++ rest)
unfolding target_at due
target_again states target (Some ns) rest h o = rw (state_of_again states target h) refl
target_again states target None [] h o = absurd o
target_again states target None (left_bracket ∷ rest) h o = rw (state_of_again states target h) refl
target_again states target None (header w ∷ rest) h o = rw (state_of_again states target h) refl
target_again states target None (end ∷ rest) h o = rw (state_of_again states target h) refl
target_again states target None (t ∷ rest) h o = absurd o

-- the tokens of an edge behind its first
abbrev inner_edge : Edge → List Lexeme
inner_edge e = formula_lexemes e.letter ++ (right_bracket ∷ number e.target ∷ sets_lexemes e.sets)

record ReadEdge (states propositions sets : ℕ) (tokens : List Lexeme) (x : KeptEdge × List Lexeme) : Type 0 where
  edge : Edge
  fits : EdgeFits states propositions sets edge
  is : tokens ≡ inner_edge edge ++ x.1
  kept : kept_of_edge edge ≡ x.0

edge_takes : (states propositions sets : ℕ) (tokens : List Lexeme) (x : KeptEdge × List Lexeme)
    → edge_at states propositions sets tokens ≡ Some x → ReadEdge states propositions sets tokens x
unfolding edge_at
edge_takes states propositions sets tokens x e =
    let a = bind_some (ops_at (Label propositions) tokens)
    (λ x. behind_label x.1 >>= λ rest. target_at states rest >>= λ y. sets_if sets y.1 >>= λ z. some (kept x.0 y.0 z.0, z.1)) x e in
    let b =
    bind_some (behind_label a.0.1) (λ rest. target_at states rest >>= λ y. sets_if sets y.1 >>= λ z. some (kept a.0.0 y.0 z.0, z.1)) x
    a.2 in
    let c = bind_some (target_at states b.0) (λ y. sets_if sets y.1 >>= λ z. some (kept a.0.0 y.0 z.0, z.1)) x b.2 in
    let d = bind_some (sets_if sets c.0.1) (λ z. some (kept a.0.0 c.0.0 z.0, z.1)) x c.2 in
    let same = some_is (kept a.0.0 c.0.0 d.0.0, d.0.1) x d.2 in
    read a.0 b.0 c.0 d.0 (ops_take (Label propositions) tokens a.0 a.1) (label_takes a.0.1 b.0 b.1) (target_takes states b.0 c.0 c.1)
    (sets_if_takes sets c.0.1 d.0 d.1) same
  where
    kept : List Op → ℕ → List ℕ → KeptEdge
    kept label target sets = record { label = label; target = target; sets = sets }

    read : (a : List Op × List Lexeme) (b : List Lexeme) (c : ℕ × List Lexeme) (d : List ℕ × List Lexeme)
        → ReadsFormula (Label propositions) tokens a.0 a.1 → a.1 ≡ right_bracket ∷ b → (b ≡ number c.0 ∷ c.1) × (c.0 < states)
        → ReadSetsIf sets c.1 d → (record { label = a.0; target = c.0; sets = d.0 }, d.1) ≡ x → ReadEdge states propositions sets tokens x
    read a b c d f l t s same =
        let edge : Edge = record { letter = f.formula; target = c.0; sets = s.written } in
        let after : a.1 ≡ right_bracket ∷ number c.0 ∷ (sets_lexemes s.written ++ d.1) = l
        ∙ ap (λ (ts : List Lexeme). right_bracket ∷ ts) (t.0 ∙ ap (λ (ts : List Lexeme). number c.0 ∷ ts) s.is) in
        subst (ReadEdge states propositions sets tokens) same (record {
          edge = edge;
          fits = record { letter = f.written; target = t.1; own_sets = s.below };
          is = f.is ∙ ap (λ (ts : List Lexeme). formula_lexemes f.formula ++ ts) after
              ∙ sym (append_assoc (formula_lexemes f.formula) (right_bracket ∷ number c.0 ∷ sets_lexemes s.written) d.1);
          kept = ap (λ (ops : List Op). kept ops c.0 (rising (set_list s.written))) (sym f.computed) ∙ ap (kept a.0 c.0) s.kept;
        })

pub edge_shorter : (states propositions sets : ℕ) (tokens : List Lexeme) (x : KeptEdge × List Lexeme)
    → edge_at states propositions sets tokens ≡ Some x → length x.1 ≤ length tokens
edge_shorter states propositions sets tokens x e =
    let read = edge_takes states propositions sets tokens x e in
    omega (arith, ap length read.is, length-append (inner_edge read.edge) x.1)

edge_again : (states propositions sets : ℕ) (e : Edge) (rest : List Lexeme) → EdgeFits states propositions sets e → Opens rest
    → edge_at states propositions sets (inner_edge e ++ rest) ≡ Some (kept_of_edge e, rest)
unfolding edge_at behind_label due
edge_again states propositions sets e rest h o =
    grind (
      arith,
      nat_tests,
      append_assoc (formula_lexemes e.letter) (right_bracket ∷ number e.target ∷ sets_lexemes e.sets) rest,
      ops_again (Label propositions) e.letter (right_bracket ∷ number e.target ∷ (sets_lexemes e.sets ++ rest)) h.letter tt,
      target_again states e.target e.sets rest h.target o,
      sets_if_again sets e.sets rest h.own_sets o,
    )

-- ---- the edges of a line

edge_begins : (t : Lexeme) (more : Bool) → begins_edge t ≡ Some more → more ≡ true → t ≡ left_bracket
unfolding begins_edge
edge_begins left_bracket more e is = refl
edge_begins t more e is = absurd cc

-- edges that are written at the front, and the tokens behind them
record ReadEdges (states propositions sets : ℕ) (tokens : List Lexeme) (x : List KeptEdge × List Lexeme) : Type 0 where
  edges : List Edge
  fit : AllByRecursion (EdgeFits states propositions sets) edges
  is : tokens ≡ flat_map edge_lexemes edges ++ x.1
  kept : map kept_of_edge edges ≡ x.0

one_edge : (states propositions sets : ℕ) (tokens : List Lexeme) (t : Lexeme × List Lexeme) (x : KeptEdge × List Lexeme)
    (y all : List KeptEdge × List Lexeme)
    → tokens ≡ t.0 ∷ t.1 → t.0 ≡ left_bracket → ReadEdge states propositions sets t.1 x → ReadEdges states propositions sets x.1 y
    → (x.0 ∷ y.0, y.1) ≡ all → ReadEdges states propositions sets tokens all
one_edge states propositions sets tokens t x y all is first one more same =
    subst (ReadEdges states propositions sets tokens) same (record {
      edges = one.edge ∷ more.edges;
      fit = (one.fits, more.fit);
      is =
          is ∙ ap (λ (u : Lexeme). u ∷ t.1) first
          ∙ ap (λ (ts : List Lexeme). left_bracket ∷ ts) (one.is ∙ ap (λ (ts : List Lexeme). inner_edge one.edge ++ ts) more.is)
          ∙ sym (append_assoc (edge_lexemes one.edge) (flat_map edge_lexemes more.edges) y.1);
      kept = ap (λ (e : KeptEdge). e ∷ map kept_of_edge more.edges) one.kept ∙ ap (λ (es : List KeptEdge). x.0 ∷ es) more.kept;
    })

no_edges : (states propositions sets : ℕ) (tokens : List Lexeme) (all : List KeptEdge × List Lexeme) → ([], tokens) ≡ all
    → ReadEdges states propositions sets tokens all
no_edges states propositions sets tokens all same = subst (ReadEdges states propositions sets tokens) same
    (record { edges = []; fit = tt; is = refl; kept = refl })

edges_take : (n states propositions sets : ℕ) (tokens : List Lexeme) (x : List KeptEdge × List Lexeme)
    → edges_within n states propositions sets tokens ≡ Some x → ReadEdges states propositions sets tokens x
unfolding edges_within
edges_take zero states propositions sets tokens x e = absurd (none_is_some x e)
edges_take (suc n) states propositions sets tokens x e =
    let one =
    λ (t : Lexeme × List Lexeme). edge_at states propositions sets t.1 >>= λ x. edges_within n states propositions sets x.1 >>= λ y.
    some (x.0 ∷ y.0, y.1) in
    let a = bind_some (due tokens) (λ t. begins_edge t.0 >>= λ more. cond more (one t) (some ([], tokens))) x e in
    let b = bind_some (begins_edge a.0.0) (λ more. cond more (one a.0) (some ([], tokens))) x a.2 in
    elim (chosen b.0 (one a.0) (some ([], tokens)) (some x) b.2) [
      | inl c ↦
          let d =
          bind_some (edge_at states propositions sets a.0.1)
          (λ x. edges_within n states propositions sets x.1 >>= λ y. some (x.0 ∷ y.0, y.1)) x c.1 in
          let f = bind_some (edges_within n states propositions sets d.0.1) (λ y. some (d.0.0 ∷ y.0, y.1)) x d.2 in
          one_edge states propositions sets tokens a.0 d.0 f.0 x (due_is tokens a.0 a.1) (edge_begins a.0.0 b.0 b.1 c.0)
          (edge_takes states propositions sets a.0.1 d.0 d.1) (edges_take n states propositions sets d.0.1 f.0 f.1)
          (some_is (d.0.0 ∷ f.0.0, f.0.1) x f.2)
      | inr c ↦ no_edges states propositions sets tokens x (some_is ([], tokens) x c.1)
    ]

-- a line or the end stands first
abbrev Leaves : List Lexeme → Type 0
Leaves [] = ⊥
Leaves (header w ∷ rest) = Unit {0}
Leaves (end ∷ rest) = Unit {0}
Leaves (t ∷ rest) = ⊥

opens_edges : (es : List Edge) (rest : List Lexeme) → Leaves rest → Opens (flat_map edge_lexemes es ++ rest)
opens_edges (e ∷ es) rest h = tt
opens_edges [] [] h = absurd h
opens_edges [] (header w ∷ rest) h = tt
opens_edges [] (end ∷ rest) h = tt
opens_edges [] (t ∷ rest) h = absurd h

edges_end : (n states propositions sets : ℕ) (rest : List Lexeme) → Leaves rest
    → edges_within (suc n) states propositions sets rest ≡ Some ([], rest)
unfolding edges_within due begins_edge
edges_end n states propositions sets [] h = absurd h
edges_end n states propositions sets (header w ∷ rest) h = refl
edges_end n states propositions sets (end ∷ rest) h = refl
edges_end n states propositions sets (t ∷ rest) h = absurd h

edges_again : (n states propositions sets : ℕ) (es : List Edge) (rest : List Lexeme) → AllByRecursion (EdgeFits states propositions sets) es
    → Leaves rest → length (flat_map edge_lexemes es ++ rest) < n
    → edges_within n states propositions sets (flat_map edge_lexemes es ++ rest) ≡ Some (map kept_of_edge es, rest)
unfolding edges_within due begins_edge
edges_again zero states propositions sets es rest h o enough = absurd (omega arith)
edges_again (suc n) states propositions sets [] rest h o enough = edges_end n states propositions sets rest o
edges_again (suc n) states propositions sets (e ∷ es) rest h o enough =
    let fewer : length (flat_map edge_lexemes es ++ rest) < n =
    omega (
      arith,
      length-append (inner_edge e ++ flat_map edge_lexemes es) rest,
      length-append (inner_edge e) (flat_map edge_lexemes es),
      length-append (flat_map edge_lexemes es) rest,
    ) in
    rw (
      append_assoc (inner_edge e) (flat_map edge_lexemes es) rest,
      edge_again states propositions sets e (flat_map edge_lexemes es ++ rest) h.0 (opens_edges es rest o),
      edges_again n states propositions sets es rest h.1 o fewer,
    ) refl

-- ---- one line

name_takes : (tokens rest : List Lexeme) → behind_name tokens ≡ Some rest
    → (name : Option (List Character)) × (tokens ≡ name_lexemes name ++ rest)
unfolding behind_name
name_takes tokens rest e =
    let b = bind_some (due tokens) (name_first tokens) rest e in
    let is = due_is tokens b.0 b.1 in
    let n = named b.0.0 b.0.1 b.2 in
    (n.0, is ∙ n.1 is)
  where
    named : (t : Lexeme) (after : List Lexeme) → name_first tokens (t, after) ≡ Some rest
        → (name : Option (List Character)) × (tokens ≡ t ∷ after → t ∷ after ≡ name_lexemes name ++ rest)
    named (string s) after h = (Some s, λ is. ap (λ (ts : List Lexeme). string s ∷ ts) (some_is after rest h))
    named t after h = (None, λ is. sym is ∙ some_is tokens rest h)

name_again : (name : Option (List Character)) (sets : Option (List ℕ)) (rest : List Lexeme) → Opens rest
    → behind_name (name_lexemes name ++ (sets_lexemes sets ++ rest)) ≡ Some (sets_lexemes sets ++ rest)
unfolding behind_name due
name_again (Some s) sets rest o = refl
name_again None (Some ns) rest o = refl
name_again None None [] o = absurd o
name_again None None (left_bracket ∷ rest) o = refl
name_again None None (header w ∷ rest) o = refl
name_again None None (end ∷ rest) o = refl
name_again None None (t ∷ rest) o = absurd o

new_state_takes : (states : ℕ) (seen : ℕ → Bool) (t : Lexeme) (n : ℕ) → new_state states seen t ≡ Some n
    → (t ≡ number n) × (n < states) × (seen n ≡ false)
unfolding new_state
new_state_takes states seen t n e =
    let b = bind_some (state_of states t) (λ m. cond (seen m) None (some m)) n e in
    let one = state_of_takes states t b.0 b.1 in
    elim (chosen (seen b.0) None (some b.0) (some n) b.2) [
      | inl c ↦ absurd (none_is_some n c.1)
      | inr c ↦
          let same = some_is b.0 n c.1 in
          (one.0 ∙ ap number same, subst (λ (k : ℕ). k < states) same one.1, sym (ap seen same) ∙ c.0)
    ]

-- the tokens of a line behind its first
abbrev inner_line : StateLine → List Lexeme
inner_line l = number l.state ∷ (name_lexemes l.name ++ (sets_lexemes l.sets ++ flat_map edge_lexemes l.edges))

record ReadLine (states propositions sets : ℕ) (seen : ℕ → Bool) (tokens : List Lexeme) (x : KeptLine × List Lexeme) : Type 0 where
  line : StateLine
  fits : LineFits states propositions sets line
  new : seen line.state ≡ false
  is : tokens ≡ inner_line line ++ x.1
  kept : kept_of_line line ≡ x.0

inner_line_is : (l : StateLine) (rest : List Lexeme)
    → inner_line l ++ rest ≡ number l.state ∷ (name_lexemes l.name ++ (sets_lexemes l.sets ++ (flat_map edge_lexemes l.edges ++ rest)))
inner_line_is l rest = simp append_assoc

line_takes : (states propositions sets : ℕ) (seen : ℕ → Bool) (tokens : List Lexeme) (x : KeptLine × List Lexeme)
    → line_at states propositions sets seen tokens ≡ Some x → ReadLine states propositions sets seen tokens x
unfolding line_at kept_edges_at edges_at
line_takes states propositions sets seen tokens x e =
    let with_edges = λ (n : ℕ) (y : List ℕ × List Lexeme). kept_edges_at n states propositions sets y.1 >>= λ z.
    some (line n y.0 z.0 z.1, z.2) in
    let with_sets = λ (n : ℕ) (rest : List Lexeme). sets_if sets rest >>= with_edges n in
    let with_name = λ (after : List Lexeme) (n : ℕ). behind_name after >>= with_sets n in
    let a = bind_some (due tokens) (λ t. new_state states seen t.0 >>= with_name t.1) x e in
    let b = bind_some (new_state states seen a.0.0) (with_name a.0.1) x a.2 in
    let c = bind_some (behind_name a.0.1) (with_sets b.0) x b.2 in
    let d = bind_some (sets_if sets c.0) (with_edges b.0) x c.2 in
    let f = bind_some (kept_edges_at b.0 states propositions sets d.0.1) (λ z. some (line b.0 d.0.0 z.0 z.1, z.2)) x d.2 in
    let g = bind_some (edges_at states propositions sets d.0.1) (λ y. some (kept b.0 y)) f.0 f.1 in
    read a.0 b.0 c.0 d.0 g.0 (due_is tokens a.0 a.1) (new_state_takes states seen a.0.0 b.0 b.1) (name_takes a.0.1 c.0 c.1)
    (sets_if_takes sets c.0 d.0 d.1)
    (edges_take (suc (length d.0.1)) states propositions sets d.0.1 g.0 g.1)
    f.0 (some_is (kept b.0 g.0) f.0 g.2) (some_is (line b.0 d.0.0 f.0.0 f.0.1, f.0.2) x f.2)
  where
    line : ℕ → List ℕ → List KeptEdge → ℕ → KeptLine
    line state sets edges greatest = record { state = state; greatest = greatest; sets = sets; edges = edges }

    kept : ℕ → List KeptEdge × List Lexeme → List KeptEdge × ℕ × List Lexeme
    kept state y = (kept_edges y.0, greatest_of state y.0, y.1)

    read : (a : Lexeme × List Lexeme) (n : ℕ) (c : List Lexeme) (d : List ℕ × List Lexeme) (f : List KeptEdge × List Lexeme)
        → tokens ≡ a.0 ∷ a.1 → (a.0 ≡ number n) × (n < states) × (seen n ≡ false)
        → ((name : Option (List Character)) × (a.1 ≡ name_lexemes name ++ c)) → ReadSetsIf sets c d
        → ReadEdges states propositions sets d.1 f → (g : List KeptEdge × ℕ × List Lexeme) → kept n f ≡ g
        → (line n d.0 g.0 g.1, g.2) ≡ x → ReadLine states propositions sets seen tokens x
    read a n c d f is one name own edges g all same =
        let of_edges = λ (ns : List ℕ) (es : List KeptEdge). line n ns (kept_edges es) (greatest_of n es) in
        let written : StateLine = record { state = n; name = name.0; sets = own.written; edges = edges.edges } in
        subst (ReadLine states propositions sets seen tokens)
        (ap (λ (z : List KeptEdge × ℕ × List Lexeme). (line n d.0 z.0 z.1, z.2)) all ∙ same)
        (record {
          line = written;
          fits = record { state = one.1; own_sets = own.below; edges = edges.fit };
          new = one.2;
          is =
              is ∙ ap (λ (t : Lexeme). t ∷ a.1) one.0
              ∙ ap (λ (ts : List Lexeme). number n ∷ ts) (name.1 ∙ ap (λ (ts : List Lexeme). name_lexemes name.0 ++ ts)
              (own.is ∙ ap (λ (ts : List Lexeme). sets_lexemes own.written ++ ts) edges.is))
              ∙ sym (inner_line_is written f.1);
          kept = ap (λ (ns : List ℕ). of_edges ns (map kept_of_edge edges.edges)) own.kept ∙ ap (of_edges d.0) edges.kept;
        })

pub line_shorter : (states propositions sets : ℕ) (seen : ℕ → Bool) (tokens : List Lexeme) (x : KeptLine × List Lexeme)
    → line_at states propositions sets seen tokens ≡ Some x → length x.1 ≤ length tokens
line_shorter states propositions sets seen tokens x e =
    let read = line_takes states propositions sets seen tokens x e in
    omega (arith, ap length read.is, length-append (inner_line read.line) x.1)

line_again : (states propositions sets : ℕ) (seen : ℕ → Bool) (l : StateLine) (rest : List Lexeme) → LineFits states propositions sets l
    → seen l.state ≡ false → Leaves rest → line_at states propositions sets seen (inner_line l ++ rest) ≡ Some (kept_of_line l, rest)
unfolding line_at due new_state kept_edges_at edges_at
line_again states propositions sets seen l rest h new o =
    let enough : length (flat_map edge_lexemes l.edges ++ rest) < suc (length (flat_map edge_lexemes l.edges ++ rest)) = omega arith in
    let opens = opens_edges l.edges rest o in
    ap (line_at states propositions sets seen) (inner_line_is l rest)
    ∙ rw (
      state_of_again states l.state h.state,
      new,
      name_again l.name l.sets (flat_map edge_lexemes l.edges ++ rest) opens,
      sets_if_again sets l.sets (flat_map edge_lexemes l.edges ++ rest) h.own_sets opens,
      edges_again (suc (length (flat_map edge_lexemes l.edges ++ rest))) states propositions sets l.edges rest h.edges o enough,
    ) refl

-- ---- all lines

line_begins : (t : Lexeme) (more : Bool) → begins_line t ≡ Some more → more ≡ true → t ≡ header (codes "State")
unfolding begins_line
line_begins (header w) more e is = grind (
  arith,
  nat_tests,
  chosen (bytes_eq w (codes "State")) (some true) None (some more) e,
  bytes_eq-Decides w (codes "State"),
)
line_begins t more e is = absurd cc

ends_body : (t : Lexeme) (more : Bool) → begins_line t ≡ Some more → more ≡ false → t ≡ end
unfolding begins_line
ends_body (header w) more e is = grind (arith, nat_tests, chosen (bytes_eq w (codes "State")) (some true) None (some more) e)
ends_body end more e is = refl
ends_body t more e is = absurd cc

abbrev Fresh : List ℕ → List StateLine → Type 0
Fresh seen lines = AllByRecursion (λ l. is_seen seen l.state ≡ false) lines

abbrev Apart : ℕ → List StateLine → Type 0
Apart n lines = AllByRecursion (λ l. (n == l.state) ≡ false) lines

neither : (a b : Bool) → (a || b) ≡ false → (a ≡ false) × (b ≡ false)
neither true b e = absurd cc
neither false b e = (refl, e)

fresh_rest : (n : ℕ) (seen : List ℕ) (lines : List StateLine) → Fresh (n ∷ seen) lines → Apart n lines × Fresh seen lines
fresh_rest n seen [] h = (tt, tt)
fresh_rest n seen (l ∷ lines) h = grind (arith, nat_tests, neither (n == l.state) (is_seen seen l.state) h.0, fresh_rest n seen lines h.1)

fresh_more : (n : ℕ) (seen : List ℕ) (lines : List StateLine) → Apart n lines → Fresh seen lines → Fresh (n ∷ seen) lines
fresh_more n seen [] a h = tt
fresh_more n seen (l ∷ lines) a h = (rw (a.0, h.0) refl, fresh_more n seen lines a.1 h.1)

fresh_all : (lines : List StateLine) → Fresh [] lines
fresh_all [] = tt
fresh_all (l ∷ lines) = (refl, fresh_all lines)

abbrev numbers : List StateLine → List ℕ
numbers lines = map (λ l. l.state) lines

apart_distinct : (n : ℕ) (lines : List StateLine) → Apart n lines → Contains (numbers lines) n → ⊥
apart_distinct n lines h c =
    let all =
    All-map (λ m. (n == m) ≡ false) (λ (l : StateLine). l.state) lines (All-from_recursion (λ l. (n == l.state) ≡ false) lines h) in
    let different : (n == n) ≡ false = All-contains (λ m. (n == m) ≡ false) (numbers lines) n all c in
    let same = eq-eqb n n refl in
    absurd cc

distinct_apart : (n : ℕ) (lines : List StateLine) → (Contains (numbers lines) n → ⊥) → Apart n lines
distinct_apart n [] h = tt
distinct_apart n (l ∷ lines) h = (
  elim (eqb_tells n l.state) [
    | inl c ↦ absurd (h (Contains-append_left (l.state ∷ []) (numbers lines) n
        (subst (λ (k : ℕ). Contains (k ∷ []) n) c.1 (Contains-push [] n))))
    | inr c ↦ c.0
  ],
  distinct_apart n lines (λ c. h (Contains-append_right (l.state ∷ []) (numbers lines) n c)),
)

-- lines that are written at the front before `--END--`, and the tokens behind it
record ReadLines (states propositions sets : ℕ) (seen : List ℕ) (tokens : List Lexeme) (x : List KeptLine × List Lexeme) : Type 0 where
  lines : List StateLine
  is : tokens ≡ flat_map state_lexemes lines ++ (end ∷ x.1)
  kept : map kept_of_line lines ≡ x.0
  fit : AllByRecursion (LineFits states propositions sets) lines
  distinct : IsDistinct (numbers lines)
  fresh : Fresh seen lines

one_line : (states propositions sets : ℕ) (seen : List ℕ) (tokens : List Lexeme) (t : Lexeme × List Lexeme) (x : KeptLine × List Lexeme)
    (y all : List KeptLine × List Lexeme)
    → tokens ≡ t.0 ∷ t.1 → t.0 ≡ header (codes "State") → ReadLine states propositions sets (is_seen seen) t.1 x
    → ReadLines states propositions sets (x.0.state ∷ seen) x.1 y → (x.0 ∷ y.0, y.1) ≡ all
    → ReadLines states propositions sets seen tokens all
one_line states propositions sets seen tokens t x y all is first one more same =
    let number_is : one.line.state ≡ x.0.state = ap (λ (l : KeptLine). l.state) one.kept in
    let split = fresh_rest x.0.state seen more.lines more.fresh in
    subst (ReadLines states propositions sets seen tokens) same (record {
      lines = one.line ∷ more.lines;
      is =
          is ∙ ap (λ (u : Lexeme). u ∷ t.1) first
          ∙ ap (λ (ts : List Lexeme). header (codes "State") ∷ ts) (one.is ∙ ap (λ (ts : List Lexeme). inner_line one.line ++ ts) more.is)
          ∙ sym (append_assoc (state_lexemes one.line) (flat_map state_lexemes more.lines) (end ∷ y.1));
      kept = ap (λ (l : KeptLine). l ∷ map kept_of_line more.lines) one.kept ∙ ap (λ (ls : List KeptLine). x.0 ∷ ls) more.kept;
      fit = (one.fits, more.fit);
      distinct = (apart_distinct one.line.state more.lines (subst (λ (n : ℕ). Apart n more.lines) (sym number_is) split.0), more.distinct);
      fresh = (one.new, split.1);
    })

no_lines : (states propositions sets : ℕ) (seen : List ℕ) (tokens : List Lexeme) (t : Lexeme × List Lexeme)
    (all : List KeptLine × List Lexeme)
    → tokens ≡ t.0 ∷ t.1 → t.0 ≡ end → ([], t.1) ≡ all → ReadLines states propositions sets seen tokens all
no_lines states propositions sets seen tokens t all is last same = grind (arith, nat_tests)

lines_take : (n states propositions sets : ℕ) (seen : List ℕ) (tokens : List Lexeme) (x : List KeptLine × List Lexeme)
    → lines_within n states propositions sets seen tokens ≡ Some x → ReadLines states propositions sets seen tokens x
unfolding lines_within
lines_take zero states propositions sets seen tokens x e = absurd (none_is_some x e)
lines_take (suc n) states propositions sets seen tokens x e =
    let one = λ (t : Lexeme × List Lexeme). line_at states propositions sets
    (is_seen seen) t.1 >>= λ x. lines_within n states propositions sets (x.0.state ∷ seen) x.1 >>= λ y. some (x.0 ∷ y.0, y.1) in
    let a = bind_some (due tokens) (λ t. begins_line t.0 >>= λ more. cond more (one t) (some ([], t.1))) x e in
    let b = bind_some (begins_line a.0.0) (λ more. cond more (one a.0) (some ([], a.0.1))) x a.2 in
    let is = due_is tokens a.0 a.1 in
    elim (chosen b.0 (one a.0) (some ([], a.0.1)) (some x) b.2) [
      | inl c ↦
          let d = bind_some (line_at states propositions sets (is_seen seen) a.0.1)
          (λ x. lines_within n states propositions sets (x.0.state ∷ seen) x.1 >>= λ y. some (x.0 ∷ y.0, y.1)) x c.1 in
          let f = bind_some (lines_within n states propositions sets (d.0.0.state ∷ seen) d.0.1) (λ y. some (d.0.0 ∷ y.0, y.1)) x d.2 in
          one_line states propositions sets seen tokens a.0 d.0 f.0 x is (line_begins a.0.0 b.0 b.1 c.0)
          (line_takes states propositions sets (is_seen seen) a.0.1 d.0 d.1)
          (lines_take n states propositions sets (d.0.0.state ∷ seen) d.0.1 f.0 f.1) (some_is (d.0.0 ∷ f.0.0, f.0.1) x f.2)
      | inr c ↦ no_lines states propositions sets seen tokens a.0 x is (ends_body a.0.0 b.0 b.1 c.0) (some_is ([], a.0.1) x c.1)
    ]

leaves_lines : (lines : List StateLine) (rest : List Lexeme) → Leaves (flat_map state_lexemes lines ++ (end ∷ rest))
leaves_lines [] rest = tt
leaves_lines (l ∷ lines) rest = tt

lines_again : (n states propositions sets : ℕ) (seen : List ℕ) (lines : List StateLine) (rest : List Lexeme)
    → AllByRecursion (LineFits states propositions sets) lines → IsDistinct (numbers lines) → Fresh seen lines
    → length (flat_map state_lexemes lines ++ (end ∷ rest)) < n
    → lines_within n states propositions sets seen (flat_map state_lexemes lines ++ (end ∷ rest)) ≡ Some (map kept_of_line lines, rest)
unfolding lines_within due begins_line
lines_again zero states propositions sets seen lines rest h distinct fresh enough = absurd (omega arith)
lines_again (suc n) states propositions sets seen [] rest h distinct fresh enough = refl
lines_again (suc n) states propositions sets seen (l ∷ lines) rest h distinct fresh enough =
    let fewer : length (flat_map state_lexemes lines ++ (end ∷ rest)) < n =
    omega (
      arith,
      length-append (inner_line l ++ flat_map state_lexemes lines) (end ∷ rest),
      length-append (inner_line l) (flat_map state_lexemes lines),
      length-append (flat_map state_lexemes lines) (end ∷ rest),
    ) in
    let fresher = fresh_more l.state seen lines (distinct_apart l.state lines distinct.0) fresh.1 in
    rw (
      append_assoc (inner_line l) (flat_map state_lexemes lines) (end ∷ rest),
      line_again states propositions sets (is_seen seen) l (flat_map state_lexemes lines ++ (end ∷ rest)) h.0 fresh.0
          (leaves_lines lines rest),
      lines_again n states propositions sets (l.state ∷ seen) lines rest h.1 distinct.1 fresher fewer,
    ) refl

-- ---- the body

-- the lines of a body that is written at the front, and the tokens behind it
pub record ReadBody (states propositions sets : ℕ) (tokens : List Lexeme) (x : List KeptLine × List Lexeme) : Type 0 where
  pub lines : List StateLine
  pub is : tokens ≡ flat_map state_lexemes lines ++ (end ∷ x.1)
  pub kept : map kept_of_line lines ≡ x.0
  pub fit : AllByRecursion (LineFits states propositions sets) lines
  pub distinct : IsDistinct (map (λ l. l.state) lines)

pub body_takes : (states propositions sets : ℕ) (tokens : List Lexeme) (x : List KeptLine × List Lexeme)
    → body_at states propositions sets tokens ≡ Some x → ReadBody states propositions sets tokens x
unfolding body_at
body_takes states propositions sets tokens x e =
    let read = lines_take (suc (length tokens)) states propositions sets [] tokens x e in
    record { lines = read.lines; is = read.is; kept = read.kept; fit = read.fit; distinct = read.distinct }

pub body_again : (states propositions sets : ℕ) (lines : List StateLine) (rest : List Lexeme)
    → AllByRecursion (LineFits states propositions sets) lines → IsDistinct (map (λ l. l.state) lines)
    → body_at states propositions sets (flat_map state_lexemes lines ++ (end ∷ rest)) ≡ Some (map kept_of_line lines, rest)
unfolding body_at
body_again states propositions sets lines rest h distinct =
    grind (
      arith,
      nat_tests,
      lines_again (suc (length (flat_map state_lexemes lines ++ (end ∷ rest)))) states propositions sets,
      fresh_all lines,
    )

-- ---- no token of a body is `stray`

set_tokens : (sets : Option (List ℕ)) → AllByRecursion IsToken (sets_lexemes sets)
set_tokens None = tt
set_tokens (Some ns) = (tt, all_of_both IsToken (map number ns) (right_brace ∷ []) (number_tokens ns) (tt, tt))

name_tokens : (name : Option (List Character)) → AllByRecursion IsToken (name_lexemes name)
name_tokens None = tt
name_tokens (Some s) = (tt, tt)

edge_tokens : (es : List Edge) → AllByRecursion IsToken (flat_map edge_lexemes es)
edge_tokens [] = tt
edge_tokens (e ∷ es) = grind (
  arith,
  nat_tests,
  all_of_both IsToken (inner_edge e) (flat_map edge_lexemes es)
      (all_of_both IsToken (formula_lexemes e.letter) (right_bracket ∷ number e.target ∷ sets_lexemes e.sets) (formula_tokens e.letter)
      (tt, (tt, set_tokens e.sets))) (edge_tokens es),
)

pub line_tokens : (lines : List StateLine) → AllByRecursion IsToken (flat_map state_lexemes lines)
line_tokens [] = tt
line_tokens (l ∷ lines) =
    let sets_and_edges =
    all_of_both IsToken (sets_lexemes l.sets) (flat_map edge_lexemes l.edges) (set_tokens l.sets) (edge_tokens l.edges) in
    let inner : AllByRecursion IsToken (inner_line l) = (
      tt,
      all_of_both IsToken (name_lexemes l.name) (sets_lexemes l.sets ++ flat_map edge_lexemes l.edges)
          (name_tokens l.name) sets_and_edges,
    ) in
    (tt, all_of_both IsToken (inner_line l) (flat_map state_lexemes lines) inner (line_tokens lines))
