-- The table of a completed automaton.
use Rattle.pg_means.proofs.Common.{◌≡◌, ℕ, ◌+◌, ◌*◌, ◌/◌, ◌%◌, ◌^◌, ◌<◌, ◌≤◌, inl, inr, Bool, true, false, cond, ltb, List, length, Option, Some}
use Rattle.pg_means.proofs.Common.{None, arith, refl, sym, ap, subst, ◌∙◌, All-contains, mod-mul-add, div-mul-add, mul-add-lt, mul_comm, nat_tests}
use Rattle.pg_means.proofs.Common.{cases_lt, get_or_past, Shape, MaxEven, Step, Automaton, IsAutomaton, IsStepOf, next, letters, set_priority}
use Rattle.pg_means.proofs.Common.{none_priority, deciding_cases, [], ◌∷◌}
use Rattle.pg_means.proofs.Common.{place_priority, arrival_of, step, mod_below, pow_pos, ◌++◌, length-append, get_or_append_left}
use Rattle.pg_means.proofs.Common.{get_or-append_seam}
use Rattle.pg_means_look.specs.declared.automaton.ParityEdge.{ParityEdge}
use Rattle.pg_means_look.specs.declared.automaton.ParityAutomaton.{ParityAutomaton}
use Rattle.pg_means_look.specs.Mirrors.Tables.{edge_at}
use Rattle.pg_means_look.specs.Mirrors.Views.{automaton_of}
use Rattle.pg_means.specs.Priorities.{target_code, step_priority, IsCompleted}
use Rattle.pg_means.specs.Mirrors.Tables.{step_of, IsEdgeOf, AreEdges}

pub step_inside : (a : Automaton) (q l : ℕ) → q < a.states → step_of a q l ≡ next a q l
step_inside a q l lt = let b : ltb q a.states ≡ true = grind (arith, nat_tests) in ap (λ (b : Bool). cond b (next a q l) None) b

pub step_behind : (a : Automaton) (q l : ℕ) → a.states ≤ q → step_of a q l ≡ None
step_behind a q l le = let b : ltb q a.states ≡ false = grind (arith, nat_tests) in ap (λ (b : Bool). cond b (next a q l) None) b

none_low : (shape : Shape) (n : ℕ) → none_priority shape n ≤ 2
none_low MaxEven n = omega arith
none_low _ n = omega arith

set_low : (shape : Shape) (n s : ℕ) → s < n → set_priority shape n s ≤ 2 * n + 3
set_low MaxEven n s lt = omega arith
set_low _ n s lt = omega arith

given_low : (a : Automaton) (step : Step) → IsAutomaton a → IsStepOf a.states a.sets step → step_priority a (Some step) ≤ 65535
given_low a step is good = elim (deciding_cases a.shape step.sets good.sets_rise) [
  | inl (e, none) ↦ rw e (omega (arith, none_low a.shape a.sets))
  | inr (s, e, first) ↦
      let below : s < a.sets = All-contains (λ x. x < a.sets) step.sets s good.sets_below first.occurs in
      rw e (omega (arith, set_low a.shape a.sets s below, is.few_sets))
]

step_low : (a : Automaton) (q l : ℕ) (o : Option Step) → IsAutomaton a → q < a.states → l < letters a → next a q l ≡ o → step_priority a o ≤ 65535
step_low a q l None is lq ll e = omega arith
step_low a q l (Some step) is lq ll e = given_low a step is (is.steps q l step lq ll e)

module _ (a : Automaton) (edges : List ParityEdge) (n : ℕ) (long : length edges ≡ (a.states + 1) * n) (are : AreEdges a n edges) where
  pub edge_of_pair : (q l : ℕ) → q < a.states + 1 → l < n → IsEdgeOf a (step_of a q (l % letters a)) (edge_at edges (q * n + l))
  edge_of_pair q l lq ll =
      let within : q * n + l < n * (a.states + 1) = mul-add-lt q n l (a.states + 1) lq ll in
      let comm : n * (a.states + 1) ≡ (a.states + 1) * n = mul_comm n (a.states + 1) in
      let here = are (q * n + l) (omega arith) in
      let div : (q * n + l) / n ≡ q = div-mul-add q n l ll in
      let rest : (q * n + l) % n ≡ l = mod-mul-add q n l ll in
      subst (λ x. IsEdgeOf a (step_of a x (l % letters a)) (edge_at edges (q * n + l))) div
      (subst (λ y. IsEdgeOf a (step_of a ((q * n + l) / n) (y % letters a)) (edge_at edges (q * n + l))) rest here)

-- the automaton's own part of a letter
abbrev own : Automaton → ℕ → ℕ
own a letter = letter % letters a

pub completed_by : (a : Automaton) (propositions : ℕ) (b : ParityAutomaton) → IsAutomaton a → b.letters ≡ 2 ^ propositions
    → b.start ≡ a.start → length b.edges.items ≡ (a.states + 1) * b.letters → AreEdges a b.letters b.edges.items
    → IsCompleted a propositions (automaton_of b)
completed_by a propositions b is as_many start long are = record {
  as_many = as_many;
  start = start;
  target = λ q l lq ll. (pair q l (omega arith) ll).target ∙ ap (target_code a) (step_inside a q (own a l) lq);
  priority = λ q l lq ll. (pair q l (omega arith) ll).priority ∙ ap (step_priority a) (step_inside a q (own a l) lq);
  end_target = λ l ll. (pair a.states l (omega arith) ll).target ∙ ap (target_code a) (step_behind a a.states (own a l) (omega arith));
  end_priority = λ l ll. (pair a.states l (omega arith) ll).priority ∙ ap (step_priority a) (step_behind a a.states (own a l) (omega arith));
  bounded = λ q l. low (q * b.letters + l);
}
  where
    pair : (q l : ℕ) → q < a.states + 1 → l < b.letters → IsEdgeOf a (step_of a q (own a l)) (edge_at b.edges.items (q * b.letters + l))
    pair q l lq ll = edge_of_pair a b.edges.items b.letters long are q l lq ll

    low : (place : ℕ) → (edge_at b.edges.items place).priority < 2 ^ 32
    low place = elim (cases_lt place (length b.edges.items)) [
      | inl lt ↦
          let here = are place lt in
          let e = here.priority in
          let q = place / b.letters in
          let l = own a (place % b.letters) in
          let rest : own a (place % b.letters) < letters a = mod_below (place % b.letters) (letters a) (pow_pos (length a.propositions)) in
          elim (cases_lt (place / b.letters) a.states) [
            | inl inside ↦
                let le = step_low a q l (next a q l) is inside rest refl in
                let same = ap (step_priority a) (step_inside a q l inside) in omega (arith, e, same, le)
            | inr behind ↦ let same = ap (step_priority a) (step_behind a q l behind) in omega (arith, e, same)
          ]
      | inr past ↦
          let e : edge_at b.edges.items place ≡ record { target = 0; priority = 0 } = get_or_past b.edges.items place (record { target = 0; priority = 0 }) past in
          let zero : (edge_at b.edges.items place).priority ≡ 0 = ap (λ (x : ParityEdge). x.priority) e in omega arith
    ]

pub edge_given : (a : Automaton) (q l target priority sets : ℕ) (shape : Shape) (met : List ℕ) → q < a.states
    → Some (step target met) ≡ next a q l → shape ≡ a.shape → sets ≡ a.sets
    → ((to : ℕ) → priority ≡ place_priority shape sets (arrival_of shape (Some (step to met))))
    → IsEdgeOf a (step_of a q l) (record { target = target; priority = priority })
edge_given a q l target priority sets shape met inside found is_shape is_sets is =
    subst (λ (o : Option Step). IsEdgeOf a o (record { target = target; priority = priority })) (found ∙ sym (step_inside a q l inside)) (record {
      target = refl;
      priority =
          is target
          ∙ ap (λ (s : Shape). place_priority s sets (arrival_of s (Some (step target met)))) is_shape
          ∙ ap (λ n. place_priority a.shape n (arrival_of a.shape (Some (step target met)))) is_sets;
    })

-- one edge more
pub edges_more : (a : Automaton) (width place : ℕ) (edges : List ParityEdge) (edge : ParityEdge) → length edges ≡ place → AreEdges a width edges
    → IsEdgeOf a (step_of a (place / width) (place % width % letters a)) edge → AreEdges a width (edges ++ (edge ∷ []))
edges_more a width place edges edge long are here at lt =
    let none : ParityEdge = record { target = 0; priority = 0 } in
    let size = length-append edges (edge ∷ []) in
    elim (cases_lt at (length edges)) [
      | inl inside ↦
          subst (λ (e : ParityEdge). IsEdgeOf a (step_of a (at / width) (at % width % letters a)) e)
          (sym (get_or_append_left edges (edge ∷ []) none at inside)) (are at inside)
      | inr past ↦
          let is : at ≡ place = omega (arith, size, long, lt, past) in
          let there : edge_at (edges ++ (edge ∷ [])) at ≡ edge =
          ap (λ (k : ℕ). edge_at (edges ++ (edge ∷ [])) k) (is ∙ sym long) ∙ get_or-append_seam edges edge [] none in
          subst (λ (e : ParityEdge). IsEdgeOf a (step_of a (at / width) (at % width % letters a)) e) (sym there)
          (subst (λ (k : ℕ). IsEdgeOf a (step_of a (k / width) (k % width % letters a)) edge) (sym is) here)
    ]
