-- The automaton of a counterpart's table.
use Rattle.std.proofs.Common.{◌≡◌, ◌≢◌, ℕ, suc, zero, ◌+◌, ◌*◌, ◌/◌, ◌%◌, ◌^◌, ◌<◌, ◌≤◌, inl, inr, Bool, true, false, cond, eqb, ltb, List, [], ◌∷◌, ◌++◌, length, get_or, map, Option, Some, None}
use Rattle.std.proofs.Common.{arith, refl, sym, subst, ap, ◌∙◌, lt-ltb, le-ltb}
use Rattle.std.specs.Prelude.{not, All}
use Rattle.std.specs.List.{AllByRecursion}
use Rattle.std.specs.List.Sorted.{IsStrictlyIncreasing}
use Rattle.std.specs.declared.vec.Vec.{Vec}
use Rattle.std.specs.declared.alloc.Global.{Global}
use Rattle.std.proofs.lemmas.Bool.{cases_lt, eqb-true, eqb-false}
use Rattle.std.proofs.lemmas.List.{length-map, get_or_push, get_or_append_left}
use Rattle.std.proofs.lemmas.Nat.{mul-add-lt, div-mul-add, div-add-mod'}
use Rattle.std.proofs.Math.Nat.{mod-eq_of_lt}
use Rattle.std.proofs.Math.Pow.{pow_mono}
use Rattle.pg_hoa_automaton.specs.Automata.{Step, Automaton, IsAutomaton, IsStepOf, IsPropositionName, letters, step, next}
use Rattle.pg_hoa_automaton.specs.Mirrors.Tables as tables
use Rattle.pg_hoa_automaton.specs.Mirrors.Tables.{numbered}
use Rattle.pg_hoa_automaton.specs.Mirrors.Views.{viewed}
use Rattle.pg_hoa_automaton.specs.Formulas.{Formula}
use Rattle.pg_hoa_automaton.specs.Shapes.{FitsShape}
use Rattle.pg_hoa_automaton.specs.declared.shape.Shape.{Shape}
use Rattle.pg_hoa_automaton.specs.declared.shape.Shape.TheVariants.{MaxEven, MaxOdd, MinEven, MinOdd, Always, Never}
use Rattle.pg_hoa_automaton.specs.declared.table.Stored.{Stored}
use Rattle.pg_hoa_automaton.specs.declared.table.Table.{Table}
use Rattle.pg_hoa_automaton.proofs.Rows.{next_viewed}
use Rattle.pg_verify.specs.Mirrors.Products.{Extends}
use Rattle.pg_verify.proofs.Stored.{numbered_along}
use Rattle.pg_verify_environment.specs.Counterparts.{exchanged, opposite, opposite_sets, end_sets, end_step, or_end, step_on, IsCounterpart}
use Rattle.pg_verify_environment.specs.Mirrors.Tables.{AreFilled}
use Rattle.pg_verify_environment.proofs.Opposite.{opposite_fits}

-- ---- slots one after another

pub none_filled : (a : Automaton) (steps : List Stored) (lists : List (List ℕ)) → AreFilled a 0 [] steps lists
none_filled a steps lists = record { long = refl; each = λ k l. absurd (omega (arith, l)) }

pub filled_more : (a : Automaton) (count : ℕ) (slots more_slots : List ℕ) (steps more_steps : List Stored) (lists more_lists : List (List ℕ)) (slot : ℕ)
    → AreFilled a count slots steps lists → Extends steps more_steps → Extends lists more_lists → more_slots ≡ slots ++ slot ∷ []
    → numbered more_steps more_lists slot ≡ Some (step_on a (count / letters a) (count % letters a))
    → AreFilled a (count + 1) more_slots more_steps more_lists
filled_more a count slots more_slots steps more_steps lists more_lists slot are x y e new = record {
  long = (let l = ap length e ∙ length_push slots slot in let m = are.long in omega (arith, l, m));
  each = λ k l. elim (cases_lt k count) [
    | inl old ↦
        ap (λ s. numbered more_steps more_lists (get_or s k 0)) e
        ∙ ap (numbered more_steps more_lists) (get_or_append_left slots (slot ∷ []) 0 k (let m = are.long in omega (arith, old, m)))
        ∙ numbered_along steps more_steps lists more_lists (get_or slots k 0) (step_on a (k / letters a) (k % letters a)) x y (are.each k old)
    | inr past ↦
        let at : k ≡ count = omega (arith, past, l) in
        let there : length slots ≡ k = (let m = are.long in omega (arith, m, at)) in
        ap (λ s. numbered more_steps more_lists (get_or s k 0)) e ∙ ap (numbered more_steps more_lists) (get_or_push slots slot 0 k there)
        ∙ new ∙ ap (λ n. Some (step_on a (n / letters a) (n % letters a))) (sym at)
  ];
}
  where
    length_push : (xs : List ℕ) (x : ℕ) → length (xs ++ x ∷ []) ≡ suc (length xs)
    length_push [] x = refl
    length_push (y ∷ xs) x = ap suc (length_push xs x)

-- what is stored at a place that is the automaton's, and at one behind
pub on_some : (a : Automaton) (q l : ℕ) (s : Step) → q < a.states → next a q l ≡ Some s → step_on a q l ≡ s
on_some a q l s lt e =
    ap (λ (b : Bool). cond b (or_end a (next a q l)) (end_step a)) (lt-ltb q a.states lt) ∙ ap (or_end a) e

pub on_none : (a : Automaton) (q l : ℕ) → q < a.states → next a q l ≡ None → step_on a q l ≡ end_step a
on_none a q l lt e = ap (λ (b : Bool). cond b (or_end a (next a q l)) (end_step a)) (lt-ltb q a.states lt) ∙ ap (or_end a) e

pub on_end : (a : Automaton) (q l : ℕ) → a.states ≤ q → step_on a q l ≡ end_step a
on_end a q l le = ap (λ (b : Bool). cond b (or_end a (next a q l)) (end_step a)) (le-ltb q a.states le)

-- ---- the end's step

single : (x n : ℕ) → x < n → All (λ s. s < n) (x ∷ [])
single x n lt zero d l = lt
single x n lt (suc k) d l = absurd (omega (arith, l))

few_rise : (xs : List ℕ) → length xs ≤ 1 → IsStrictlyIncreasing xs
few_rise xs few k l = absurd (omega (arith, few, l))

end_short : (shape : Shape) (sets : ℕ) → length (end_sets shape sets) ≤ 1
end_short MaxEven sets = omega arith
end_short MaxOdd sets = omega arith
end_short MinEven sets = go (eqb (sets % 2) 1)
  where
    go : (b : Bool) → length {A = ℕ} (cond b [] (1 ∷ [])) ≤ 1
    go true = omega arith
    go false = omega arith
end_short MinOdd sets = omega arith
end_short Always sets = omega arith
end_short Never sets = omega arith

end_below : (shape : Shape) (sets : ℕ) (f : Formula) → FitsShape f sets shape → All (λ s. s < opposite_sets shape sets) (end_sets shape sets)
end_below MaxEven sets f fits = λ k d l. absurd (omega (arith, l))
end_below MaxOdd zero f fits = absurd (let h = fits.1 in cc h)
end_below MaxOdd (suc n) f fits = single 0 (suc n) (omega arith)
end_below MinEven zero f fits = absurd (let h = fits.1 in cc h)
end_below MinEven (suc n) f fits = odd_or (eqb (suc n % 2) 1) refl
  where
    small : (n : ℕ) → (suc n % 2 ≢ 1) → 1 < suc n
    small zero ne = absurd (ne refl)
    small (suc n) ne = omega arith

    odd_or : (b : Bool) → eqb (suc n % 2) 1 ≡ b → All (λ s. s < suc n) (cond b [] (1 ∷ []))
    odd_or true e = λ k d l. absurd (omega (arith, l))
    odd_or false e = single 1 (suc n) (small n (eqb-false (suc n % 2) 1 e))
end_below MinOdd zero f fits = absurd (let h = fits.1 in cc h)
end_below MinOdd (suc n) f fits = single 0 (suc n) (omega arith)
end_below Always sets f fits = single 0 1 (omega arith)
end_below Never sets f fits = λ k d l. absurd (omega (arith, l))

more_sets : (shape : Shape) (sets : ℕ) (f : Formula) → FitsShape f sets shape → (sets ≤ opposite_sets shape sets) × (opposite_sets shape sets ≤ sets + 1)
more_sets MaxEven sets f fits = (omega arith, omega arith)
more_sets MaxOdd sets f fits = (omega arith, omega arith)
more_sets MinEven sets f fits = (omega arith, omega arith)
more_sets MinOdd sets f fits = (omega arith, omega arith)
more_sets Always zero f fits = (omega arith, omega arith)
more_sets Always (suc k) f fits = absurd (let h = fits.1 in cc h)
more_sets Never sets f fits = (omega arith, omega arith)

few_sets : (shape : Shape) (sets : ℕ) (f : Formula) → FitsShape f sets shape → sets ≤ 4096 → opposite_sets shape sets ≤ 4096
few_sets MaxEven sets f fits l = l
few_sets MaxOdd sets f fits l = l
few_sets MinEven sets f fits l = l
few_sets MinOdd sets f fits l = l
few_sets Always sets f fits l = omega arith
few_sets Never sets f fits l = l

-- each step of the counterpart is one of its states and sets
step_good : (a : Automaton) (q l : ℕ) → IsAutomaton a → l < letters a
    → IsStepOf (suc a.states) (opposite_sets a.shape a.sets) (step_on a q l)
step_good a q l is l_in = elim (cases_lt q a.states) [
  | inl lt ↦ of_step lt (next a q l) refl
  | inr past ↦ subst (IsStepOf (suc a.states) (opposite_sets a.shape a.sets)) (sym (on_end a q l past)) at_end
]
  where
    at_end : IsStepOf (suc a.states) (opposite_sets a.shape a.sets) (end_step a)
    at_end = record {
      target_below = omega arith;
      sets_below = end_below a.shape a.sets is.condition is.shape;
      sets_rise = few_rise (end_sets a.shape a.sets) (end_short a.shape a.sets);
    }

    of_step : q < a.states → (o : Option Step) → next a q l ≡ o → IsStepOf (suc a.states) (opposite_sets a.shape a.sets) (step_on a q l)
    of_step lt None e = subst (IsStepOf (suc a.states) (opposite_sets a.shape a.sets)) (sym (on_none a q l lt e)) at_end
    of_step lt (Some s) e =
        let good = is.steps q l s lt l_in e in
        let more = (more_sets a.shape a.sets is.condition is.shape).0 in
        subst (IsStepOf (suc a.states) (opposite_sets a.shape a.sets)) (sym (on_some a q l s lt e)) (record {
          target_below = (let b = good.target_below in omega (arith, b));
          sets_below = λ k d h. (let b = good.sets_below k d h in omega (arith, b, more));
          sets_rise = good.sets_rise;
        })

-- ---- the whole

-- the table of a counterpart
pub record IsTableOf (a : Automaton) (t : Table) : Type 0 where
  pub states : t.states ≡ suc a.states
  pub letters_are : t.letters ≡ letters a
  pub filled : AreFilled a (suc a.states * letters a) t.slots.items t.steps.items (map (λ v. v.items) t.lists.items)
  pub few : suc a.states ≤ 65535
  pub few_steps : suc a.states * letters a ≤ 16777216

rest_of : (q l n : ℕ) → l < n → (q * n + l) % n ≡ l
rest_of q l n lt =
    let w = ap (λ d. d * n) (div-mul-add q n l lt) in
    let h = div-add-mod' (q * n + l) n in omega (arith, w, h)

table_next : (a : Automaton) (t : Table) → IsTableOf a t → (q l : ℕ) → q < suc a.states → l < letters a
    → tables.next t q l ≡ Some (step_on a q l)
table_next a t is q l q_in l_in =
    let p : q < t.states = (let e = is.states in omega (arith, e, q_in)) in
    let r : l < t.letters = (let e = is.letters_are in omega (arith, e, l_in)) in
    let lt = mul-add-lt q (letters a) l (suc a.states) q_in l_in in
    let turned : letters a * suc a.states ≡ suc a.states * letters a = grind arith in
    let each = is.filled.each (q * letters a + l) (omega (arith, lt, turned)) in
    rw (lt-ltb q t.states p, lt-ltb l t.letters r)
    (ap (λ n. numbered t.steps.items (map (λ v. v.items) t.lists.items) (get_or t.slots.items (q * n + l) 0)) is.letters_are
    ∙ each ∙ ap (λ n. Some (step_on a n ((q * letters a + l) % letters a))) (div-mul-add q (letters a) l l_in)
    ∙ ap (λ n. Some (step_on a q n)) (rest_of q l (letters a) l_in))

pub made : (a : Automaton) (t : Table) (names : List (Vec ℕ Global)) (marks : List Bool) (start sets : ℕ) (shape : Shape) → IsAutomaton a
    → IsTableOf a t → map (λ name. name.items) names ≡ a.propositions → marks ≡ exchanged a.controllable → start ≡ a.start
    → sets ≡ opposite_sets a.shape a.sets → shape ≡ opposite a.shape → IsCounterpart a (viewed start names marks sets shape t)
made a t names marks start sets shape is table named_so marked_so starts sets_are shape_is = record {
  is_automaton = automaton;
  states = table.states;
  start = starts;
  propositions = named_so;
  controllable = marked_so;
  shape = shape_is;
  sets = sets_are;
  steps = stepped;
}
  where
    c : Automaton
    c = viewed start names marks sets shape t

    many : letters c ≡ letters a
    many = ap (λ (ns : List (List ℕ)). 2 ^ length ns) named_so

    stepped : (q l : ℕ) → q < suc a.states → l < letters a → next c q l ≡ Some (step_on a q l)
    stepped q l q_in l_in = sym (next_viewed t q l) ∙ table_next a t table q l q_in l_in

    other : (f : Formula) × FitsShape f (opposite_sets a.shape a.sets) (opposite a.shape)
    other = opposite_fits a.shape a.sets is.condition is.shape

    automaton : IsAutomaton c
    automaton = record {
      start_below = (let s = is.start_below in let e = table.states in omega (arith, s, e, starts));
      steps = λ q l s q_in l_in e.
          let q_in' : q < suc a.states = (let f = table.states in omega (arith, f, q_in)) in
          let l_in' : l < letters a = subst (λ (n : ℕ). l < n) many l_in in
          let same : step_on a q l ≡ s = some_of (step_on a q l) s (sym (stepped q l q_in' l_in') ∙ e) in
          subst (λ (n : ℕ). IsStepOf n sets s) (sym table.states)
          (subst (λ (n : ℕ). IsStepOf (suc a.states) n s) (sym sets_are)
          (subst (IsStepOf (suc a.states) (opposite_sets a.shape a.sets)) same (step_good a q l is l_in')));
      names = subst (λ (ns : List (List ℕ)). AllByRecursion IsPropositionName ns) (sym named_so) is.names;
      marks = ap length marked_so ∙ length-map a.controllable not ∙ is.marks ∙ sym (ap length named_so);
      condition = other.0;
      shape = subst (λ (n : ℕ). FitsShape other.0 n shape) (sym sets_are)
          (subst (λ (s : Shape). FitsShape other.0 (opposite_sets a.shape a.sets) s) (sym shape_is) other.1);
      few_states = (let e = table.states in let f = table.few in omega (arith, e, f));
      few_propositions = subst (λ (ns : List (List ℕ)). length ns ≤ 16) (sym named_so) is.few_propositions;
      few_sets = subst (λ (n : ℕ). n ≤ 4096) (sym sets_are) (few_sets a.shape a.sets is.condition is.shape is.few_sets);
      few_steps = subst (λ (n : ℕ). t.states * n ≤ 16777216) (sym many)
          (subst (λ (n : ℕ). n * letters a ≤ 16777216) (sym table.states) table.few_steps);
    }
      where
        some_of : (x y : Step) → Some x ≡ Some y → x ≡ y
        some_of x y e = cc e

-- the counterpart has a condition
pub other_of : (a c : Automaton) → IsAutomaton a → IsCounterpart a c → (other : Formula) × FitsShape other c.sets c.shape
other_of a c is twin =
    let other = opposite_fits a.shape a.sets is.condition is.shape in (
      other.0,
      subst (λ (n : ℕ). FitsShape other.0 n c.shape) (sym twin.sets)
          (subst (λ (s : Shape). FitsShape other.0 (opposite_sets a.shape a.sets) s) (sym twin.shape) other.1),
    )

pub shifted : (n : ℕ) → n ≤ 16 → 1 * 2 ^ n % 4294967296 ≡ 2 ^ n
shifted n le =
    let l : 2 ^ n ≤ 2 ^ 16 = pow_mono le in
    let one : 1 * 2 ^ n ≡ 2 ^ n = omega arith in
    ap (λ m. m % 4294967296) one ∙ mod-eq_of_lt (omega (arith, l))

-- the table that is made
pub made_table : (a : Automaton) (t : Table) (n : ℕ) → IsAutomaton a → t.states ≡ a.states + 1 → n ≡ length a.propositions
    → t.letters ≡ 1 * 2 ^ n % 4294967296 → AreFilled a ((a.states + 1) * t.letters) t.slots.items t.steps.items (map (λ v. v.items) t.lists.items)
    → a.states < 65535 → (a.states + 1) * t.letters ≤ 16777216 → IsTableOf a t
made_table a t n is states many width filled few few_steps =
    let letters_are : t.letters ≡ letters a = width ∙ shifted n (let f = is.few_propositions in omega (arith, f, many)) ∙ ap (λ m. 2 ^ m) many in
    let more : a.states + 1 ≡ suc a.states = omega arith in
    record {
      states = states ∙ more;
      letters_are = letters_are;
      filled = subst (λ m. AreFilled a (m * letters a) t.slots.items t.steps.items (map (λ v. v.items) t.lists.items)) more
          (subst (λ m. AreFilled a ((a.states + 1) * m) t.slots.items t.steps.items (map (λ v. v.items) t.lists.items)) letters_are filled);
      few = omega arith;
      few_steps = subst (λ m. m * letters a ≤ 16777216) more (subst (λ m. (a.states + 1) * m ≤ 16777216) letters_are few_steps);
    }
