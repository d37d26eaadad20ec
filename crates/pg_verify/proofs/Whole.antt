-- The whole product is an automaton.
use Rattle.std.proofs.Common.{◌≡◌, ℕ, zero, suc, ◌+◌, ◌*◌, ◌/◌, ◌<◌, ◌≤◌, ◌^◌, Bool, false, List, length, map, Option, Some, None}
use Rattle.std.proofs.Common.{arith, refl, sym, subst, ap, ◌∙◌, lt-ltb}
use Rattle.std.specs.Prelude.{replicate, codes}
use Rattle.std.specs.List.{AllByRecursion}
use Rattle.std.specs.declared.vec.Vec.{Vec}
use Rattle.std.specs.declared.alloc.Global.{Global}
use Rattle.std.proofs.lemmas.List.{length-replicate}
use Rattle.std.proofs.lemmas.Nat.{mul-add-lt}
use Rattle.pg_hoa_automaton.specs.Automata.{Step, Automaton, IsAutomaton, IsStepOf, IsPropositionName, step, next}
use Rattle.pg_hoa_automaton.specs.Mirrors.Tables as tables
use Rattle.pg_hoa_automaton.specs.Mirrors.Tables.{numbered}
use Rattle.pg_hoa_automaton.specs.Mirrors.Views.{viewed}
use Rattle.pg_hoa_automaton.specs.declared.shape.Shape.{Shape}
use Rattle.pg_hoa_automaton.specs.declared.table.Table.{Table}
use Rattle.pg_hoa_automaton.proofs.Rows.{next_viewed}
use Rattle.pg_synth.specs.Letters.{joined, inputs, outputs}
use Rattle.pg_synth.specs.AutomatonGames.{input_letters}
use Rattle.pg_synth.proofs.Letters.{both_parts}
use Rattle.pg_synth.proofs.Places.{letter_in}
use Rattle.pg_aiger.specs.Circuits.{Circuit}
use Rattle.pg_verify.specs.Mirrors.Products.{Pair, pair_at, slot_at, Leads, IsMove, IsDraft, HasWholeLetters, IsProductOf, same_names}

-- the table of a whole draft
pub record IsTableOf (a : Automaton) (circuit : Circuit) (pairs : List Pair) (t : Table) : Type 0 where
  pub states : t.states ≡ length pairs
  pub letters_are : t.letters ≡ input_letters a
  pub draft : IsDraft a circuit pairs t.slots.items t.steps.items (map (λ v. v.items) t.lists.items)
  pub whole : length t.slots.items ≡ length pairs * input_letters a
  pub few : length pairs ≤ 65535
  pub few_steps : length pairs * input_letters a ≤ 16777216

table_next : (a : Automaton) (circuit : Circuit) (pairs : List Pair) (t : Table) → IsTableOf a circuit pairs t → (k i : ℕ) → k < length pairs
    → i < input_letters a → tables.next t k i ≡ numbered t.steps.items (map (λ v. v.items) t.lists.items) (slot_at t.slots.items (k * input_letters a + i))
table_next a circuit pairs t is k i k_in i_in =
    let p : k < t.states = (let e = is.states in omega (arith, e)) in
    let q : i < t.letters = (let e = is.letters_are in omega (arith, e)) in
    rw (lt-ltb k t.states p, lt-ltb i t.letters q) (ap (λ n. numbered t.steps.items (map (λ v. v.items) t.lists.items) (slot_at t.slots.items (k * n + i))) is.letters_are)

pub table_move : (a : Automaton) (circuit : Circuit) (pairs : List Pair) (t : Table) → IsTableOf a circuit pairs t → (k i : ℕ) → k < length pairs
    → i < input_letters a → IsMove a circuit pairs k i (tables.next t k i)
table_move a circuit pairs t is k i k_in i_in =
    let lt = mul-add-lt k (input_letters a) i (length pairs) k_in i_in in
    let turned : input_letters a * length pairs ≡ length pairs * input_letters a = grind arith in
    let whole = is.whole in
    subst (IsMove a circuit pairs k i) (sym (table_next a circuit pairs t is k i k_in i_in))
    (is.draft.filled k i k_in i_in (omega (arith, lt, turned, whole))).move

-- a step of the product is a step of the automaton's sets
move_step : (a : Automaton) (circuit : Circuit) (pairs : List Pair) (k i : ℕ) (made : Option Step) (s : Step) → IsAutomaton a
    → (pair_at pairs k).state < a.states → IsMove a circuit pairs k i made → made ≡ Some s → IsStepOf (length pairs) a.sets s
move_step a circuit pairs k i made s is state_in move e =
    go (next a (pair_at pairs k).state letter) refl move.leads
  where
    letter : ℕ
    letter = joined a.controllable i move.output

    go : (found : Option Step) → next a (pair_at pairs k).state letter ≡ found → Leads pairs move.latches found made → IsStepOf (length pairs) a.sets s
    go None f h = absurd (let x : None ≡ Some s = sym h ∙ e in cc x)
    go (Some r) f (n, n_in, there, h) =
        let good = is.steps (pair_at pairs k).state letter r state_in (letter_in a i move.output is) f in
        let same : Some (step n r.sets) ≡ Some s = sym h ∙ e in
        let same' : step n r.sets ≡ s = cc in
        subst (IsStepOf (length pairs) a.sets) same' (record { target_below = n_in; sets_below = good.sets_below; sets_rise = good.sets_rise })

named : (count : ℕ) → AllByRecursion IsPropositionName (same_names count)
named zero = tt
named (suc count) = ((λ e. cc e, ((omega arith, λ e. absurd (omega arith)), tt)), named count)

none_out : (count : ℕ) → outputs (replicate count false) ≡ 0
none_out zero = refl
none_out (suc count) = none_out count

none_in : (count : ℕ) → inputs (replicate count false) ≡ count
none_in zero = refl
none_in (suc count) = ap suc (none_in count)

none_joined : (count l o : ℕ) → l < 2 ^ count → joined (replicate count false) l o ≡ l
none_joined zero l o lt = omega arith
none_joined (suc count) l o lt =
    let twice : 2 ^ suc count ≡ 2 * 2 ^ count = grind arith in
    let half = none_joined count (l / 2) o (omega (arith, twice, lt)) in omega (arith, half)

whole_letters : (p : Automaton) (count : ℕ) → length p.propositions ≡ count → p.controllable ≡ replicate count false → HasWholeLetters p
whole_letters p count many none_so = record {
  as_many = ap (λ (bs : List Bool). 2 ^ inputs bs) none_so ∙ ap (λ n. 2 ^ n) (none_in count ∙ sym many);
  no_outputs = ap (λ (bs : List Bool). 2 ^ outputs bs) none_so ∙ ap (λ n. 2 ^ n) (none_out count);
  unjoined = λ l o lt. ap (λ (bs : List Bool). joined bs l o) none_so
      ∙ none_joined count l o (subst (λ (n : ℕ). l < 2 ^ n) many lt);
}

module _ (a : Automaton) (circuit : Circuit) (pairs : List Pair) (t : Table) (names : List (Vec ℕ Global)) (none : List Bool) where
  abbrev pub made : Automaton
  made = viewed 0 names none a.sets a.shape t

  pub is_automaton : IsAutomaton a → IsTableOf a circuit pairs t → map (λ name. name.items) names ≡ same_names (inputs a.controllable)
      → none ≡ replicate (inputs a.controllable) false → IsAutomaton made
  is_automaton is table named_so none_so = record {
    start_below = (let s = table.draft.some in let e = table.states in omega (arith, s, e));
    steps = λ q l s q_in l_in e.
        let q_in' : q < length pairs = (let e = table.states in omega (arith, e)) in
        let l_in' : l < input_letters a = subst (λ (n : ℕ). l < 2 ^ n) many l_in in
        subst (λ n. IsStepOf n a.sets s) (sym table.states)
        (move_step a circuit pairs q l (tables.next t q l) s is (table.draft.states_in q q_in') (table_move a circuit pairs t table q l q_in' l_in')
        (next_viewed t q l ∙ e));
    names = subst (λ (ns : List (List ℕ)). AllByRecursion IsPropositionName ns) (sym named_so) (named (inputs a.controllable));
    marks = ap length none_so ∙ length-replicate (inputs a.controllable) false ∙ sym many;
    condition = is.condition;
    shape = is.shape;
    few_states = (let e = table.states in let f = table.few in omega (arith, e, f));
    few_propositions = (let few = is.few_propositions in let m = is.marks in let c = both_parts a.controllable in omega (arith, few, m, c, many));
    few_sets = is.few_sets;
    few_steps = subst (λ (n : ℕ). t.states * 2 ^ n ≤ 16777216) (sym many) (subst (λ (n : ℕ). n * input_letters a ≤ 16777216) (sym table.states) table.few_steps);
  }
    where
      many : length (map (λ (name : Vec ℕ Global). name.items) names) ≡ inputs a.controllable
      many = ap length named_so ∙ length-replicate (inputs a.controllable) (codes "i")

  pub product_is : IsAutomaton a → IsTableOf a circuit pairs t → map (λ name. name.items) names ≡ same_names (inputs a.controllable)
      → none ≡ replicate (inputs a.controllable) false → IsProductOf a circuit made
  product_is is table named_so none_so = record {
    is_automaton = is_automaton is table named_so none_so;
    sets = refl;
    shape = refl;
    letters_are = ap (λ (ns : List (List ℕ)). 2 ^ length ns) named_so ∙ ap (λ n. 2 ^ n) (length-replicate (inputs a.controllable) (codes "i"));
    whole_letters = whole_letters made (inputs a.controllable)
        (ap length named_so ∙ length-replicate (inputs a.controllable) (codes "i")) none_so;
    pairs = pairs;
    count = table.states;
    start = table.draft.start;
    moves = λ k i k_in i_in. subst (IsMove a circuit pairs k i) (next_viewed t k i) (table_move a circuit pairs t table k i k_in i_in);
  }

-- the same of the sets and the shape as they were read
pub whole_automaton : (a : Automaton) (circuit : Circuit) (pairs : List Pair) (t : Table) (names : List (Vec ℕ Global)) (none : List Bool)
    (sets : ℕ) (shape : Shape) → IsAutomaton a → IsTableOf a circuit pairs t → map (λ name. name.items) names ≡ same_names (inputs a.controllable)
    → none ≡ replicate (inputs a.controllable) false → sets ≡ a.sets → shape ≡ a.shape → IsAutomaton (viewed 0 names none sets shape t)
whole_automaton a circuit pairs t names none sets shape is table named_so none_so e f =
    subst (λ (n : ℕ). IsAutomaton (viewed 0 names none n shape t)) (sym e)
    (subst (λ (s : Shape). IsAutomaton (viewed 0 names none a.sets s t)) (sym f) (is_automaton a circuit pairs t names none is table named_so none_so))

pub whole_product : (a : Automaton) (circuit : Circuit) (pairs : List Pair) (t : Table) (names : List (Vec ℕ Global)) (none : List Bool)
    (sets : ℕ) (shape : Shape) → IsAutomaton a → IsTableOf a circuit pairs t → map (λ name. name.items) names ≡ same_names (inputs a.controllable)
    → none ≡ replicate (inputs a.controllable) false → sets ≡ a.sets → shape ≡ a.shape → IsProductOf a circuit (viewed 0 names none sets shape t)
whole_product a circuit pairs t names none sets shape is table named_so none_so e f =
    subst (λ (n : ℕ). IsProductOf a circuit (viewed 0 names none n shape t)) (sym e)
    (subst (λ (s : Shape). IsProductOf a circuit (viewed 0 names none a.sets s t)) (sym f) (product_is a circuit pairs t names none is table named_so none_so))
