-- The states of a product are those that are reached.
use Rattle.std.proofs.Common.{◌≡◌, ◌≢◌, ℕ, zero, suc, ◌+◌, ◌*◌, ◌/◌, ◌<◌, ◌≤◌, ◌⊎◌, inl, inr, min, List, length, get_or, Option, Some}
use Rattle.std.proofs.Common.{arith, refl, sym, subst, ap, ◌∙◌}
use Rattle.std.specs.Prelude.{All}
use Rattle.std.specs.List.{AllPairs}
use Rattle.std.proofs.Math.Nat.{div-mul-le_self, mul-le-mul_right}
use Rattle.std.proofs.lemmas.Bool.{cases_lt}
use Rattle.std.proofs.lemmas.List.{get_or_append_left, get_or_default}
use Rattle.std.proofs.lemmas.Nat.{mul-add-lt}
use Rattle.indexmap.proofs.IndexTableLemmas.Probe.{pigeonhole}
use Rattle.pg_hoa_automaton.specs.Automata.{Step, Automaton, next}
use Rattle.pg_hoa_automaton.specs.Mirrors.Tables.{numbered}
use Rattle.pg_hoa_automaton.specs.declared.table.Stored.{Stored}
use Rattle.pg_synth.specs.Letters.{joined}
use Rattle.pg_synth.specs.AutomatonGames.{input_letters}
use Rattle.pg_aiger.specs.Circuits.{Circuit}
use Rattle.pg_aiger.specs.Runs.{IsStepAt, bit}
use Rattle.pg_aiger_netlist.specs.Netlists.{IsAcyclic}
use Rattle.pg_aiger_netlist.proofs.Runs.{stepped, the_step}
use Rattle.pg_verify.specs.Reached.{Pair, pair, IsStepTo, IsReachedIn, IsReached, HasTooManyStates, most_states}
use Rattle.pg_verify.specs.Mirrors.Products.{pair_at, slot_at, Extends, Leads, Gives, IsMove, AreOldOr, IsDraft}

pub pair_along : (pairs after : List Pair) (k : ℕ) → Extends pairs after → k < length pairs → pair_at after k ≡ pair_at pairs k
pair_along pairs after k (more, e) lt = ap (λ l. pair_at l k) e ∙ get_or_append_left pairs more (pair 0 0) k lt

-- ---- what is added is reached

reached_step : (a : Automaton) (circuit : Circuit) (here : Pair) (i output latches letter : ℕ) (s : Step) → IsAcyclic circuit
    → IsReached a circuit here → i < input_letters a → Gives circuit here.latches i output latches → letter ≡ joined a.controllable i output
    → next a here.state letter ≡ Some s → IsReached a circuit (pair latches s.target)
reached_step a circuit here i output latches letter s ac (n, before) i_in gives letter_is taken =
    let at = the_step circuit ac here.latches i in
    let both = gives (stepped circuit ac i (bit here.latches)) at in
    let there : IsStepTo a circuit here (pair latches s.target) = record {
      input = i;
      input_in = i_in;
      output = output;
      steps = record { valuation = stepped circuit ac i (bit here.latches); step = at; outputs = both.0; nexts = both.1 };
      step = s;
      taken = ap (next a here.state) (sym letter_is) ∙ taken;
      target = refl;
    } in
    (suc n, (here, before, there))

pub reached_more : (a : Automaton) (circuit : Circuit) (pairs after : List Pair) (here : Pair) (i output latches letter : ℕ) → IsAcyclic circuit
    → ((k : ℕ) → k < length pairs → IsReached a circuit (pair_at pairs k)) → IsReached a circuit here → i < input_letters a
    → Gives circuit here.latches i output latches → letter ≡ joined a.controllable i output
    → AreOldOr pairs after latches (next a here.state letter) → Extends pairs after → (k : ℕ) → k < length after
    → IsReached a circuit (pair_at after k)
reached_more a circuit pairs after here i output latches letter ac each reached i_in gives letter_is old_or more k k_in = elim (old_or k k_in) [
  | inl old ↦ subst (IsReached a circuit) (sym (pair_along pairs after k more old)) (each k old)
  | inr new ↦ subst (IsReached a circuit) (sym new.2)
      (reached_step a circuit here i output latches letter new.0 ac reached i_in gives letter_is new.1)
]

-- ---- and what is reached is there

module _ (a : Automaton) (circuit : Circuit) (pairs : List Pair) (slots : List ℕ) (steps : List Stored) (lists : List (List ℕ))
    (draft : IsDraft a circuit pairs slots steps lists) (whole : length slots ≡ length pairs * input_letters a) where
  move_at : (k i : ℕ) → k < length pairs → i < input_letters a
      → IsMove a circuit pairs k i (numbered steps lists (slot_at slots (k * input_letters a + i)))
  move_at k i k_in i_in =
      let lt = mul-add-lt k (input_letters a) i (length pairs) k_in i_in in
      let turned : input_letters a * length pairs ≡ length pairs * input_letters a = grind arith in
      (draft.filled k i k_in i_in (omega (arith, lt, turned, whole))).move

  met : (n : ℕ) (there : Pair) → IsReachedIn a circuit n there → (k : ℕ) × (k < length pairs) × (pair_at pairs k ≡ there)
  met zero there e = (0, draft.some, draft.start ∙ sym e)
  met (suc n) there (here, before, step) = go (met n here before)
    where
      go : (k : ℕ) × (k < length pairs) × (pair_at pairs k ≡ here) → (j : ℕ) × (j < length pairs) × (pair_at pairs j ≡ there)
      go (k, k_in, is) =
          let move = move_at k step.input k_in step.input_in in
          let made = numbered steps lists (slot_at slots (k * input_letters a + step.input)) in
          let at : IsStepAt circuit (pair_at pairs k).latches step.input step.steps.valuation =
          subst (λ (x : Pair). IsStepAt circuit x.latches step.input step.steps.valuation) (sym is) step.steps.step in
          let both = move.gives step.steps.valuation at in
          let output : move.output ≡ step.output = both.0 ∙ sym step.steps.outputs in
          let latches : move.latches ≡ there.latches = both.1 ∙ sym step.steps.nexts in
          let found : next a (pair_at pairs k).state (joined a.controllable step.input move.output) ≡ Some step.step =
          ap (λ (x : Pair). next a x.state (joined a.controllable step.input move.output)) is
          ∙ ap (λ o. next a here.state (joined a.controllable step.input o)) output ∙ step.taken in
          let leads : Leads pairs move.latches (Some step.step) made =
          subst (λ (o : Option Step). Leads pairs move.latches o made) found move.leads in
          (leads.0, leads.1, leads.2 ∙ ap (λ l. pair l step.step.target) latches ∙ ap (pair there.latches) step.target)

  module _ (states : List Pair) (reached : All (IsReached a circuit) states) where
    -- where a state stands
    spot : (i : ℕ) → (i < length states) ⊎ (length states ≤ i) → ℕ
    spot i (inl below) = let r = reached i (pair 0 0) below in (met r.0 (get_or states i (pair 0 0)) r.1).0
    spot i (inr past) = 0

    spot_is : (i : ℕ) (c : (i < length states) ⊎ (length states ≤ i)) → i < length states
        → (spot i c < length pairs) × (pair_at pairs (spot i c) ≡ get_or states i (pair 0 0))
    unfolding spot
    spot_is i (inl below) lt = let r = reached i (pair 0 0) below in let m = met r.0 (get_or states i (pair 0 0)) r.1 in (m.1, m.2)
    spot_is i (inr past) lt = absurd (omega arith)

    place : ℕ → ℕ
    place i = spot i (cases_lt i (length states))

    place_is : (i : ℕ) → i < length states → (place i < length pairs) × (pair_at pairs (place i) ≡ get_or states i (pair 0 0))
    unfolding place
    place_is i lt = spot_is i (cases_lt i (length states)) lt

    no_more : AllPairs (λ x y. x ≢ y) states → length states ≤ length pairs
    no_more distinct = pigeonhole (length states) (length pairs) place (λ i lt. (place_is i lt).0) (λ i j p q e. elim (cases_lt i j) [
      | inl less ↦ absurd (distinct i j (pair 0 0) less q (same i j p q e))
      | inr le ↦ elim (cases_lt j i) [
        | inl less ↦ absurd (distinct j i (pair 0 0) less p (same j i q p (sym e)))
        | inr le' ↦ omega arith
      ]
    ])
      where
        same : (i j : ℕ) → i < length states → j < length states → place i ≡ place j → get_or states i (pair 0 0) ≡ get_or states j (pair 0 0)
        same i j p q e = sym (place_is i p).1 ∙ ap (pair_at pairs) e ∙ (place_is j q).1

  pub not_too_many : length pairs ≤ most_states a → ¬ HasTooManyStates a circuit
  not_too_many few t =
      let n = no_more t.states t.reached t.distinct in
      let m = t.many in omega (arith, n, m, few)

pub too_many : (a : Automaton) (circuit : Circuit) (pairs : List Pair) (slots : List ℕ) (steps : List Stored) (lists : List (List ℕ))
    → IsDraft a circuit pairs slots steps lists → AllPairs (λ x y. x ≢ y) pairs → most_states a < length pairs → HasTooManyStates a circuit
too_many a circuit pairs slots steps lists draft distinct many = record {
  states = pairs;
  distinct = distinct;
  reached = λ k d k_in. subst (IsReached a circuit) (get_or_default pairs k (pair 0 0) d k_in) (draft.reached k k_in);
  many = many;
}

-- so many states times letters are within the limit
pub few_steps : (n letters : ℕ) → n ≤ min 65535 (16777216 / letters) → n * letters ≤ 16777216
few_steps n letters few =
    let d = div-mul-le_self 16777216 letters in
    let m : n * letters ≤ 16777216 / letters * letters = mul-le-mul_right letters (omega arith) in omega (arith, d, m)
