-- What the columns of a machine's replies make is its circuit.
use Rattle.pg_aiger.proofs.Common.{◌≡◌, ℕ, zero, suc, ◌+◌, ◌*◌, ◌/◌, ◌%◌, ◌^◌, ◌<◌, ◌≤◌, inl, inr, Bool, true, false, eqb, ◌&&◌, List, []}
use Rattle.pg_aiger.proofs.Common.{◌∷◌, length, get_or, arith, refl, sym, subst, ap, ◌∙◌, pow-add, slice_index, cases_lt, eq-eqb, eqb-true}
use Rattle.pg_aiger.proofs.Common.{length-map-range_with_len, get_or-map-range_with_len, mul-add-lt, pow_pos, digits_div, digits_mod}
use Rattle.pg_aiger.proofs.Common.{div-add-mod', mul-le-mul_left, Machine, IsMachine, reply, Gate, AreGatesFrom, IsNumbered, no_latch}
use Rattle.pg_aiger.proofs.Common.{Valuation, value, Satisfies, bit, IsWidth, IsTooLarge, count_ahead, Drafted, number_at, outputs_below}
use Rattle.pg_aiger.proofs.Common.{nexts_below, reply_of, IsAt, IsBuiltFor, is_minterm, MeanEach, column_bit, AreColumns, literals_from}
use Rattle.pg_aiger.proofs.Common.{latches_from, viewed, IsKept}
use Rattle.pg_aiger.specs.Laws.{NoneTooLarge}
use Rattle.std.proofs.lemmas.Nat.{mul-le}
use Rattle.pg_aiger.proofs.Places.{any_at, literal_more}

place_in : (s p i states : ℕ) → s < states → i < p → s * p + i < states * p
place_in s p i states a b = let h : s * p + i < p * states = mul-add-lt s p i states a b in grind (arith, h)

pub length_literals : (first count : ℕ) → length (literals_from first count) ≡ count
length_literals first count = length-map-range_with_len (λ variable. 2 * variable) first count

pub literal_at : (first count j : ℕ) → j < count → get_or (literals_from first count) j 0 ≡ 2 * (first + j)
literal_at first count j h = get_or-map-range_with_len (λ variable. 2 * variable) first count j (first + j) 0 h refl

pub length_latches : (first : ℕ) (nexts : List ℕ) → length (latches_from first nexts) ≡ length nexts
length_latches first [] = refl
length_latches first (next ∷ nexts) = ap suc (length_latches (suc first) nexts)

pub latch_literal : (first : ℕ) (nexts : List ℕ) (j : ℕ) → j < length nexts → (get_or (latches_from first nexts) j no_latch).literal ≡ 2 * (first + j)
latch_literal first [] j h = absurd (omega arith)
latch_literal first (next ∷ nexts) zero h = omega arith
latch_literal first (next ∷ nexts) (suc j) h = latch_literal (suc first) nexts j (omega arith) ∙ (omega arith)

pub latch_next : (first : ℕ) (nexts : List ℕ) (j : ℕ) → j < length nexts → (get_or (latches_from first nexts) j no_latch).next ≡ get_or nexts j 0
latch_next first [] j h = absurd (omega arith)
latch_next first (next ∷ nexts) zero h = refl
latch_next first (next ∷ nexts) (suc j) h = latch_next (suc first) nexts j (omega arith)

-- a column's literal is the bit of the valuation's place
column_at : (k b states : ℕ) (lits values : List ℕ) (d : Drafted) → MeanEach d (is_minterm k b) lits → length lits ≡ states * 2 ^ k
    → (v : Valuation) (s i j : ℕ) → v 0 ≡ false → Satisfies v d.gates → s < states → i < 2 ^ k → IsAt k b v s i
    → column_bit lits values j v ≡ bit (slice_index values (s * 2 ^ k + i)) j
column_at k b states lits values d mean len v s i j constant sat s_in i_in at =
    any_at v lits values j (s * 2 ^ k + i) (length lits) here mine others
  where
    inside : s * 2 ^ k + i < states * 2 ^ k
    inside = place_in s (2 ^ k) i states s_in i_in

    here : s * 2 ^ k + i < length lits
    here = omega (arith, inside, len)

    mine : value v (slice_index lits (s * 2 ^ k + i)) ≡ true
    mine = mean.meaning (s * 2 ^ k + i) here v constant sat
        ∙ ap (λ q. q && eqb (number_at v 1 k) ((s * 2 ^ k + i) % 2 ^ k))
        (eq-eqb (number_at v (1 + k) b) ((s * 2 ^ k + i) / 2 ^ k) (at.0 ∙ sym (digits_div s i_in)))
        ∙ eq-eqb (number_at v 1 k) ((s * 2 ^ k + i) % 2 ^ k) (at.1 ∙ sym (digits_mod s i_in))

    both : (p q : Bool) → (p ≡ true → q ≡ true → ⊥) → (p && q) ≡ false
    both true true h = absurd (h refl refl)
    both true false h = refl
    both false q h = refl

    others : (other : ℕ) → other < length lits → ¬ (other ≡ s * 2 ^ k + i) → value v (slice_index lits other) ≡ false
    others other l ne = mean.meaning other l v constant sat
        ∙ both (eqb (number_at v (1 + k) b) (other / 2 ^ k)) (eqb (number_at v 1 k) (other % 2 ^ k))
        (λ e f.
        let a : s ≡ other / 2 ^ k = sym at.0 ∙ eqb-true (number_at v (1 + k) b) (other / 2 ^ k) e in
        let c : i ≡ other % 2 ^ k = sym at.1 ∙ eqb-true (number_at v 1 k) (other % 2 ^ k) f in
        ne (sym (ap (λ x. x * 2 ^ k + i) a ∙ ap (λ x. other / 2 ^ k * 2 ^ k + x) c ∙ div-add-mod' other (2 ^ k))))

pub few_places : (machine : Machine) → IsMachine machine → machine.states * 2 ^ machine.inputs ≤ 16777216
few_places machine is =
    let more : machine.states * 2 ^ machine.inputs * 1 ≤ machine.states * 2 ^ machine.inputs * 2 ^ machine.outputs =
    mul-le-mul_left (machine.states * 2 ^ machine.inputs) (pow_pos machine.outputs) in
    let few = is.few_steps in
    let split : machine.states * 2 ^ (machine.inputs + machine.outputs) ≡ machine.states * 2 ^ machine.inputs * 2 ^ machine.outputs =
    rw (pow-add 2 machine.inputs machine.outputs) (grind arith) in
    omega (arith, more, few, split)

pub length_outputs : (machine : Machine) (places : ℕ) → length (outputs_below machine places) ≡ places
length_outputs machine places = length-map-range_with_len (λ place. (reply_of machine place).output) 0 places

pub length_nexts : (machine : Machine) (places : ℕ) → length (nexts_below machine places) ≡ places
length_nexts machine places = length-map-range_with_len (λ place. (reply_of machine place).next) 0 places

-- the reply at the place of a state and an input letter is theirs
reply_here : (machine : Machine) (s i : ℕ) → i < 2 ^ machine.inputs → reply_of machine (s * 2 ^ machine.inputs + i) ≡ reply machine s i
reply_here machine s i h =
    ap (λ x. reply machine x ((s * 2 ^ machine.inputs + i) % 2 ^ machine.inputs)) (digits_div s h)
    ∙ ap (reply machine s) (digits_mod s h)

output_here : (machine : Machine) (s i : ℕ) → s < machine.states → i < 2 ^ machine.inputs
    → slice_index (outputs_below machine (machine.states * 2 ^ machine.inputs)) (s * 2 ^ machine.inputs + i) ≡ (reply machine s i).output
output_here machine s i s_in i_in =
    let inside : s * 2 ^ machine.inputs + i < machine.states * 2 ^ machine.inputs = place_in s (2 ^ machine.inputs) i machine.states s_in i_in in
    get_or-map-range_with_len (λ place. (reply_of machine place).output) 0 (machine.states * 2 ^ machine.inputs) (s * 2 ^ machine.inputs + i)
    (s * 2 ^ machine.inputs + i) 0 inside (omega arith) ∙ ap (λ r. r.output) (reply_here machine s i i_in)

next_here : (machine : Machine) (s i : ℕ) → s < machine.states → i < 2 ^ machine.inputs
    → slice_index (nexts_below machine (machine.states * 2 ^ machine.inputs)) (s * 2 ^ machine.inputs + i) ≡ (reply machine s i).next
next_here machine s i s_in i_in =
    let inside : s * 2 ^ machine.inputs + i < machine.states * 2 ^ machine.inputs = place_in s (2 ^ machine.inputs) i machine.states s_in i_in in
    get_or-map-range_with_len (λ place. (reply_of machine place).next) 0 (machine.states * 2 ^ machine.inputs) (s * 2 ^ machine.inputs + i)
    (s * 2 ^ machine.inputs + i) 0 inside (omega arith) ∙ ap (λ r. r.next) (reply_here machine s i i_in)

numbered : (machine : Machine) (ns os : List ℕ) (gates : List Gate) → AreColumns machine ns os gates → IsNumbered (viewed machine.inputs ns os gates)
numbered machine ns os gates are = record {
  greatest = omega (arith, inputs, latches);
  inputs = λ j h. literal_at 1 machine.inputs j (omega (arith, h, inputs)) ∙ (omega arith);
  latches = λ j h. latch_literal (1 + machine.inputs) ns j (omega (arith, h, latches)) ∙ ap (λ i. 2 * (1 + i + j)) (sym inputs);
  gates = subst (AreGatesFrom (1 + length (literals_from 1 machine.inputs) + length (latches_from (1 + machine.inputs) ns))) are.last
      (subst (λ i. AreGatesFrom i are.drafts.2.gates) first are.is_draft.ordered);
  nexts = λ j h.
      let l : j < length ns = omega (arith, h, latches) in
      let e = latch_next (1 + machine.inputs) ns j l in
      let n = literal_more are.more_outputs are.drafts.1 are.drafts.2 (get_or ns j 0) are.extends_more (are.mean_nexts.literal j l) in
      omega (arith, e, n, are.base, count);
  outputs = λ j h.
      let n = are.mean_outputs.literal j h in omega (arith, n, are.base, count);
}
  where
    inputs : length (literals_from 1 machine.inputs) ≡ machine.inputs
    inputs = length_literals 1 machine.inputs

    latches : length (latches_from (1 + machine.inputs) ns) ≡ length ns
    latches = length_latches (1 + machine.inputs) ns

    count : length are.drafts.2.gates ≡ length gates
    count = ap length are.last

    first : are.drafts.2.base ≡ 1 + length (literals_from 1 machine.inputs) + length (latches_from (1 + machine.inputs) ns)
    first = omega (arith, are.base, inputs, latches)

pub built_for : (machine : Machine) (ns os : List ℕ) (gates : List Gate) → AreColumns machine ns os gates
    → IsBuiltFor machine (viewed machine.inputs ns os gates)
built_for machine ns os gates are = record {
  numbered = numbered machine ns os gates are;
  inputs = length_literals 1 machine.inputs;
  outputs = are.width;
  next_bits = λ v s i j constant sat s_in i_in at h.
      let l : j < length ns = omega (arith, h, latches) in
      ap (value v) (latch_next (1 + machine.inputs) ns j l) ∙ are.mean_nexts.meaning j l v constant (are.extends_more.kept v (back v sat))
      ∙ column_at machine.inputs (length ns) machine.states are.minterms _ are.drafts.0 are.mean_minterms are.whole v s i j constant
      (are.extends.kept v (are.extends_more.kept v (back v sat))) s_in i_in (here v s i at)
      ∙ ap (λ n. bit n j) (next_here machine s i s_in i_in);
  output_bits = λ v s i j constant sat s_in i_in at h.
      let w = are.width in
      are.mean_outputs.meaning j (omega (arith, h, w)) v constant (back v sat)
      ∙ column_at machine.inputs (length ns) machine.states are.minterms _ are.drafts.0 are.mean_minterms are.whole v s i j constant
      (are.extends.kept v (are.extends_more.kept v (back v sat))) s_in i_in (here v s i at)
      ∙ ap (λ n. bit n j) (output_here machine s i s_in i_in);
}
  where
    latches : length (latches_from (1 + machine.inputs) ns) ≡ length ns
    latches = length_latches (1 + machine.inputs) ns

    back : (v : Valuation) → Satisfies v gates → Satisfies v are.drafts.2.gates
    back v sat = subst (Satisfies v) (sym are.last) sat

    here : (v : Valuation) (s i : ℕ) → IsAt machine.inputs (length (latches_from (1 + machine.inputs) ns)) v s i → IsAt machine.inputs (length ns) v s i
    here v s i at = subst (λ b. IsAt machine.inputs b v s i) latches at

pub kept : (machine : Machine) (ns os : List ℕ) (gates : List Gate) → AreColumns machine ns os gates → machine.inputs ≤ 16
    → length ns ≤ 16 → length os ≤ 16 → IsKept machine.inputs ns os gates
kept machine ns os gates are inputs latches outputs = record {
  few_inputs = inputs;
  few_latches = latches;
  few_outputs = outputs;
  within = (let w = are.is_draft.within in let e : length are.drafts.2.gates ≡ length gates = ap length are.last in omega (arith, w, e, are.base));
  numbered = numbered machine ns os gates are;
}

pub rows_fit : (states b k : ℕ) → states ≤ 2 ^ b → states * 2 ^ k ≤ 2 ^ (k + b)
rows_fit states b k h =
    let g : 2 ^ k * states ≤ 2 ^ k * 2 ^ b = mul-le-mul_left (2 ^ k) h in
    rw (pow-add 2 k b) (grind (arith, g))

-- there is room for the minterms, then for the columns of the next states, and then for those of the outputs
pub room_first : (base gates p k b m bound : ℕ) → base ≡ 1 + k + b → gates ≡ 0
    → k + b + p * (k + 2 * b + m) < bound → base + gates + p * (k + b) ≤ bound
room_first base gates p k b m bound e a room = grind (arith, e, a, room)

pub room_second : (base gates p k b m bound : ℕ) → base ≡ 1 + k + b → gates ≤ p * (k + b)
    → k + b + p * (k + 2 * b + m) < bound → base + gates + b * p ≤ bound
room_second base gates p k b m bound e a room = grind (arith, e, a, room)

pub room_third : (base gates gates' p k b m bound : ℕ) → base ≡ 1 + k + b → gates ≤ p * (k + b) → gates' ≤ gates + b * p
    → k + b + p * (k + 2 * b + m) < bound → base + gates' + m * p ≤ bound
room_third base gates gates' p k b m bound e a c room = grind (arith, e, a, c, room)

-- only one number of latches is the least
pub one_width : (states a b : ℕ) → IsWidth states a → IsWidth states b → a ≤ b
one_width states a b first second = elim (cases_lt b a) [
  | inl l ↦ absurd (let more = first.least b l in let enough = second.enough in omega (arith, more, enough))
  | inr l ↦ l
]

pub too_large : (machine : Machine) (latches : ℕ) → IsWidth machine.states latches → IsTooLarge machine → 1073741823 < count_ahead machine latches
too_large machine latches width (other, other_width, over) =
    let le = one_width machine.states other latches other_width width in
    let ge = one_width machine.states latches other width other_width in
    let same : other ≡ latches = omega (arith, le, ge) in
    subst (λ b. 1073741823 < count_ahead machine b) same over

few_latches : (states latches : ℕ) → states ≤ 65535 → IsWidth states latches → latches ≤ 16
few_latches states latches few width = elim (cases_lt 16 latches) [
  | inl l ↦ absurd (let more = width.least 16 l in omega (arith, more, few))
  | inr l ↦ l
]

few_variables : (k b p : ℕ) → k ≤ 16 → b ≤ 16 → p ≤ 805306368 → 1073741823 < k + b + p → ⊥
few_variables k b p few_inputs few width over = absurd (omega (arith, few_inputs, few, width, over))

pub none_too_large : NoneTooLarge
none_too_large machine is (latches, width, over) =
    let few = few_latches machine.states latches is.few_states width in
    let propositions = is.few_propositions in
    let most : machine.inputs + 2 * latches + machine.outputs ≤ 48 = omega (arith, few, propositions) in
    let inputs : machine.inputs ≤ 16 = omega (arith, propositions) in
    few_variables machine.inputs latches _ inputs few (mul-le _ _ 16777216 48 (few_places machine is) most) over
