-- Inputs, outputs, latches and gates: what is read is spelt, and what is spelt is read.
use Rattle.pg_aiger_reader.proofs.Common.{◌≡◌, ◌≢◌, ℕ, suc, zero, ◌+◌, ◌-◌, ◌*◌, ◌≤◌, ◌<◌, ◌^◌, ◌||◌, Bool, true, false, List, [], ◌∷◌, ◌++◌}
use Rattle.pg_aiger_reader.proofs.Common.{length, Option, Some, None, refl, sym, ap, subst, ◌∙◌, arith, inl, inr, ◌>>=◌, eqb, ltb}
use Rattle.pg_aiger_reader.proofs.Common.{eqb-false, ltb-true, lt-ltb, le-ltb, ltb-false, ne_eqb, chosen, some, some_is, none}
use Rattle.pg_aiger_reader.proofs.Common.{none_is_some, if◌then◌else◌, line_at, literal_at, input_at, latch_at, ascii_gate_at, groups_at, binary_gate_at, gate_at}
use Rattle.pg_aiger_reader.proofs.Lines.{line_found, line_only}
use Rattle.pg_aiger.specs.declared.gate.Gate.{Gate}
use Rattle.pg_aiger_reader.specs.declared.item.AigerFormat.{AigerFormat}
use Rattle.pg_aiger_reader.specs.declared.item.AigerFormat.TheVariants.{Ascii, Binary}
use Rattle.pg_aiger_reader.specs.declared.item.LatchLine.{LatchLine}
use Rattle.pg_aiger_reader.specs.Texts.{BeginsLine, IsInput, IsLatch, IsGate, IsBinaryGate, AreGroups, IsDifference}
use Rattle.pg_aiger_reader.specs.Mirrors.Items.{only_number, latch_of, latch_line, gate_of, three_numbers}

abbrev Line : Type 0
Line = List ℕ × List ℕ

-- ---- inputs and outputs

pub input_found : (form : AigerFormat) (v : ℕ) (bytes : List ℕ) (x : ℕ × List ℕ) → input_at form v bytes ≡ Some x → IsInput form v bytes x.0 x.1
unfolding input_at literal_at
input_found Binary v bytes x e = subst (λ (y : ℕ × List ℕ). (y.0 ≡ 2 * v) × (bytes ≡ y.1)) (some_is (2 * v, bytes) x e) (refl, refl)
input_found Ascii v bytes x e = of_line (line_at 1 bytes) refl e
  where
    of_line : (read : Option Line) → line_at 1 bytes ≡ read → (read >>= only_number) ≡ Some x → BeginsLine bytes (x.0 ∷ []) x.1
    of_line None same e = absurd (none_is_some x e)
    of_line (Some ([], rest)) same e = absurd (none_is_some x e)
    of_line (Some (n ∷ [], rest)) same e =
        subst (λ (y : ℕ × List ℕ). BeginsLine bytes (y.0 ∷ []) y.1) (some_is (n, rest) x e) (line_found 1 bytes (n ∷ [], rest) same).1
    of_line (Some (n ∷ m ∷ ns, rest)) same e = absurd (none_is_some x e)

pub input_only : (form : AigerFormat) (v : ℕ) (bytes : List ℕ) (n : ℕ) (rest : List ℕ) → IsInput form v bytes n rest → input_at form v bytes ≡ Some (n, rest)
unfolding input_at literal_at
input_only Binary v bytes n rest is = rw (is.0, is.1) refl
input_only Ascii v bytes n rest is = rw (line_only 1 bytes n [] rest is (omega arith)) refl

-- ---- latches

pub latch_found : (form : AigerFormat) (v : ℕ) (bytes : List ℕ) (x : LatchLine × List ℕ) → latch_at form v bytes ≡ Some x → IsLatch form v bytes x.0 x.1
unfolding latch_at
latch_found form v bytes x e = of_line form (line_at 3 bytes) refl e
  where
    of_line : (form : AigerFormat) (read : Option Line) → line_at 3 bytes ≡ read → (read >>= λ y. latch_of form v y.0 >>= λ l. Some (l, y.1)) ≡ Some x
        → IsLatch form v bytes x.0 x.1
    of_line form None same e = absurd (none_is_some x e)
    of_line Ascii (Some ([], rest)) same e = absurd (none_is_some x e)
    of_line Ascii (Some (a ∷ [], rest)) same e = absurd (none_is_some x e)
    of_line Ascii (Some (a ∷ b ∷ [], rest)) same e =
        subst (λ (y : LatchLine × List ℕ). IsLatch Ascii v bytes y.0 y.1) (some_is (latch_line a b 0, rest) x e)
        ([], inl (refl, refl), (line_found 3 bytes (a ∷ b ∷ [], rest) same).1)
    of_line Ascii (Some (a ∷ b ∷ c ∷ [], rest)) same e =
        subst (λ (y : LatchLine × List ℕ). IsLatch Ascii v bytes y.0 y.1) (some_is (latch_line a b c, rest) x e)
        (c ∷ [], inr refl, (line_found 3 bytes (a ∷ b ∷ c ∷ [], rest) same).1)
    of_line Ascii (Some (a ∷ b ∷ c ∷ d ∷ ns, rest)) same e = absurd (none_is_some x e)
    of_line Binary (Some ([], rest)) same e = absurd (none_is_some x e)
    of_line Binary (Some (b ∷ [], rest)) same e =
        subst (λ (y : LatchLine × List ℕ). IsLatch Binary v bytes y.0 y.1) (some_is (latch_line (2 * v) b 0, rest) x e)
        ([], inl (refl, refl), (line_found 3 bytes (b ∷ [], rest) same).1, refl)
    of_line Binary (Some (b ∷ c ∷ [], rest)) same e =
        subst (λ (y : LatchLine × List ℕ). IsLatch Binary v bytes y.0 y.1) (some_is (latch_line (2 * v) b c, rest) x e)
        (c ∷ [], inr refl, (line_found 3 bytes (b ∷ c ∷ [], rest) same).1, refl)
    of_line Binary (Some (b ∷ c ∷ d ∷ ns, rest)) same e = absurd (none_is_some x e)

pub latch_only : (form : AigerFormat) (v : ℕ) (bytes : List ℕ) (l : LatchLine) (rest : List ℕ) → IsLatch form v bytes l rest → latch_at form v bytes ≡ Some (l, rest)
unfolding latch_at
latch_only Ascii v bytes l rest (ns, inl h, line) =
    let shape : BeginsLine bytes (l.literal ∷ l.next ∷ []) rest = subst (λ ms. BeginsLine bytes (l.literal ∷ l.next ∷ ms) rest) h.0 line in
    rw (line_only 3 bytes l.literal (l.next ∷ []) rest shape (omega arith)) (ap (λ r. some (latch_line l.literal l.next r, rest)) (sym h.1))
latch_only Ascii v bytes l rest (ns, inr h, line) =
    let shape : BeginsLine bytes (l.literal ∷ l.next ∷ l.reset ∷ []) rest = subst (λ ms. BeginsLine bytes (l.literal ∷ l.next ∷ ms) rest) h line in
    rw (line_only 3 bytes l.literal (l.next ∷ l.reset ∷ []) rest shape (omega arith)) refl
latch_only Binary v bytes l rest (ns, inl h, line, own) =
    let shape : BeginsLine bytes (l.next ∷ []) rest = subst (λ ms. BeginsLine bytes (l.next ∷ ms) rest) h.0 line in
    rw (line_only 3 bytes l.next [] rest shape (omega arith))
    (ap (λ r. some (latch_line (2 * v) l.next r, rest)) (sym h.1) ∙ ap (λ k. some (latch_line k l.next l.reset, rest)) (sym own))
latch_only Binary v bytes l rest (ns, inr h, line, own) =
    let shape : BeginsLine bytes (l.next ∷ l.reset ∷ []) rest = subst (λ ms. BeginsLine bytes (l.next ∷ ms) rest) h line in
    rw (line_only 3 bytes l.next (l.reset ∷ []) rest shape (omega arith)) (ap (λ k. some (latch_line k l.next l.reset, rest)) (sym own))

-- ---- gates in ASCII

ascii_gate_found : (v : ℕ) (bytes : List ℕ) (x : Gate × List ℕ) → ascii_gate_at bytes ≡ Some x → IsGate Ascii v bytes x.0 x.1
unfolding ascii_gate_at
ascii_gate_found v bytes x e = of_line (line_at 3 bytes) refl e
  where
    of_line : (read : Option Line) → line_at 3 bytes ≡ read → (read >>= three_numbers) ≡ Some x → IsGate Ascii v bytes x.0 x.1
    of_line None same e = absurd (none_is_some x e)
    of_line (Some ([], rest)) same e = absurd (none_is_some x e)
    of_line (Some (a ∷ [], rest)) same e = absurd (none_is_some x e)
    of_line (Some (a ∷ b ∷ [], rest)) same e = absurd (none_is_some x e)
    of_line (Some (a ∷ b ∷ c ∷ [], rest)) same e =
        subst (λ (y : Gate × List ℕ). IsGate Ascii v bytes y.0 y.1) (some_is (gate_of a b c, rest) x e) (line_found 3 bytes (a ∷ b ∷ c ∷ [], rest) same).1
    of_line (Some (a ∷ b ∷ c ∷ d ∷ ns, rest)) same e = absurd (none_is_some x e)

ascii_gate_only : (v : ℕ) (bytes : List ℕ) (g : Gate) (rest : List ℕ) → IsGate Ascii v bytes g rest → ascii_gate_at bytes ≡ Some (g, rest)
unfolding ascii_gate_at
ascii_gate_only v bytes g rest is = rw (line_only 3 bytes g.lhs (g.rhs0 ∷ g.rhs1 ∷ []) rest is (omega arith)) refl

-- ---- groups of bits

record Grouped (most : ℕ) (bytes : List ℕ) (n : ℕ) (rest : List ℕ) : Type 0 where
  pub text : List ℕ
  pub parts : bytes ≡ text ++ rest
  pub groups : AreGroups text n
  pub few : length text ≤ most

abbrev Number : Type 0
Number = ℕ × List ℕ

more_groups : (most b n high : ℕ) (bytes rest text : List ℕ) → 128 ≤ b → n ≡ b - 128 + 128 * high → bytes ≡ text ++ rest → AreGroups text high
    → length text ≤ most → Grouped (suc most) (b ∷ bytes) n rest
more_groups most b n high bytes rest [] large is parts groups few = absurd groups
more_groups most b n high bytes rest (c ∷ text) large is parts groups few = record {
  text = b ∷ c ∷ text;
  parts = ap (λ t. b ∷ t) parts;
  groups = (large, high, omega arith, groups);
  few = omega arith;
}

groups_found : (most : ℕ) (bytes : List ℕ) (x : Number) → groups_at most bytes ≡ Some x → Grouped most bytes x.0 x.1
unfolding groups_at
groups_found zero bytes x e = absurd (none_is_some x e)
groups_found (suc n) [] x e = absurd (none_is_some x e)
groups_found (suc n) (b ∷ bytes) x e =
    elim (chosen (ltb b 128) (some (b, bytes)) _ (some x) e) [
      | inl w ↦
          subst (λ (y : Number). Grouped (suc n) (b ∷ bytes) y.0 y.1) (some_is (b, bytes) x w.1)
          (record { text = b ∷ []; parts = refl; groups = (ltb-true b 128 w.0, refl); few = omega arith })
      | inr w ↦ of_rest (λ y same. groups_found n bytes y same) (groups_at n bytes) refl (ltb-false b 128 w.0) w.1
    ]
  where
    of_rest : ((y : Number) → groups_at n bytes ≡ Some y → Grouped n bytes y.0 y.1) → (read : Option Number) → groups_at n bytes ≡ read → 128 ≤ b
        → (read >>= λ y. if ltb (b - 128 + 128 * y.0) (2 ^ 32) then Some (b - 128 + 128 * y.0, y.1) else None) ≡ Some x
        → Grouped (suc n) (b ∷ bytes) x.0 x.1
    of_rest again None same large e = absurd (none_is_some x e)
    of_rest again (Some y) same large e =
        elim (chosen (ltb (b - 128 + 128 * y.0) (2 ^ 32)) (some (b - 128 + 128 * y.0, y.1)) none (some x) e) [
          | inl w ↦
              let below = again y same in
              subst (λ (z : Number). Grouped (suc n) (b ∷ bytes) z.0 z.1) (some_is (b - 128 + 128 * y.0, y.1) x w.1)
              (more_groups n b (b - 128 + 128 * y.0) y.0 bytes y.1 below.text large refl below.parts below.groups below.few)
          | inr w ↦ absurd (none_is_some x w.1)
        ]

groups_only : (most : ℕ) (text : List ℕ) (n : ℕ) (rest : List ℕ) → AreGroups text n → length text ≤ most → n < 2 ^ 32
    → groups_at most (text ++ rest) ≡ Some (n, rest)
unfolding groups_at
groups_only most [] n rest are few small = absurd are
groups_only zero (b ∷ text) n rest are few small = absurd (omega arith)
groups_only (suc most) (b ∷ []) n rest are few small = rw (lt-ltb b 128 are.0) (ap (λ k. some (k, rest)) (sym are.1))
groups_only (suc most) (b ∷ c ∷ text) n rest (large, high, is, are) few small =
    let same : b - 128 + 128 * high ≡ n = omega arith in
    rw (le-ltb b 128 large, groups_only most (c ∷ text) high rest are (omega arith) (omega arith), same, lt-ltb n (2 ^ 32) small) refl

-- what groups write is small if they are read
groups_small : (most : ℕ) (bytes : List ℕ) (x : Number) → groups_at most bytes ≡ Some x → x.0 < 2 ^ 32
unfolding groups_at
groups_small zero bytes x e = absurd (none_is_some x e)
groups_small (suc n) [] x e = absurd (none_is_some x e)
groups_small (suc n) (b ∷ bytes) x e =
    elim (chosen (ltb b 128) (some (b, bytes)) _ (some x) e) [
      | inl w ↦
          let lt : b < 128 = ltb-true b 128 w.0 in
          subst (λ (y : Number). y.0 < 2 ^ 32) (some_is (b, bytes) x w.1) (omega arith)
      | inr w ↦ of_rest (groups_at n bytes) w.1
    ]
  where
    of_rest : (read : Option Number)
        → (read >>= λ y. if ltb (b - 128 + 128 * y.0) (2 ^ 32) then Some (b - 128 + 128 * y.0, y.1) else None) ≡ Some x → x.0 < 2 ^ 32
    of_rest None e = absurd (none_is_some x e)
    of_rest (Some y) e =
        elim (chosen (ltb (b - 128 + 128 * y.0) (2 ^ 32)) (some (b - 128 + 128 * y.0, y.1)) none (some x) e) [
          | inl w ↦ subst (λ (z : Number). z.0 < 2 ^ 32) (some_is (b - 128 + 128 * y.0, y.1) x w.1) (ltb-true _ _ w.0)
          | inr w ↦ absurd (none_is_some x w.1)
        ]

-- ---- gates in the binary form

abbrev behind_first : ℕ → Number → Option (Gate × List ℕ)
behind_first v x =
    if eqb x.0 0 || ltb (2 * v) x.0 then None
    else (groups_at 5 x.1 >>= λ y. if ltb (2 * v - x.0) y.0 then None else Some (gate_of (2 * v) (2 * v - x.0) (2 * v - x.0 - y.0), y.1))

either_false : (a b : Bool) → a || b ≡ false → (a ≡ false) × (b ≡ false)
either_false true b e = absurd cc
either_false false b e = (refl, e)

difference : (most n : ℕ) (bytes rest : List ℕ) (g : Grouped 5 bytes n rest) → n < 2 ^ 32 → (m : ℕ) → n ≡ m → IsDifference g.text m
difference most n bytes rest g small m same =
    subst (IsDifference g.text) same (record { groups = g.groups; few = g.few; small = small })

binary_gate_found : (v : ℕ) (bytes : List ℕ) (x : Gate × List ℕ) → binary_gate_at v bytes ≡ Some x → IsBinaryGate v bytes x.0 x.1
unfolding binary_gate_at
binary_gate_found v bytes x e = of_first (groups_at 5 bytes) refl e
  where
    made : (a b : Number) → groups_at 5 bytes ≡ Some a → groups_at 5 a.1 ≡ Some b → (a.0 ≢ 0) → a.0 ≤ 2 * v → b.0 ≤ 2 * v - a.0
        → IsBinaryGate v bytes (gate_of (2 * v) (2 * v - a.0) (2 * v - a.0 - b.0)) b.1
    made a b first second full most below =
        let f = groups_found 5 bytes a first in
        let s = groups_found 5 a.1 b second in
        let d : a.0 ≡ 2 * v - (2 * v - a.0) = omega arith in
        let d' : b.0 ≡ 2 * v - a.0 - (2 * v - a.0 - b.0) = omega arith in
        record {
          first = f.text;
          second = s.text;
          parts = f.parts ∙ ap (λ t. f.text ++ t) s.parts;
          own = refl;
          below = omega arith;
          order = omega arith;
          differ = difference 5 a.0 bytes a.1 f (groups_small 5 bytes a first) _ d;
          differ_again = difference 5 b.0 a.1 b.1 s (groups_small 5 a.1 b second) _ d';
        }

    of_second : (a : Number) → groups_at 5 bytes ≡ Some a → (a.0 ≢ 0) → a.0 ≤ 2 * v → (read : Option Number) → groups_at 5 a.1 ≡ read
        → (read >>= λ y. if ltb (2 * v - a.0) y.0 then None else Some (gate_of (2 * v) (2 * v - a.0) (2 * v - a.0 - y.0), y.1)) ≡ Some x
        → IsBinaryGate v bytes x.0 x.1
    of_second a first full most None same e = absurd (none_is_some x e)
    of_second a first full most (Some b) same e =
        elim (chosen (ltb (2 * v - a.0) b.0) none _ (Some x) e) [
          | inl w ↦ absurd (none_is_some x w.1)
          | inr w ↦
              subst (λ (y : Gate × List ℕ). IsBinaryGate v bytes y.0 y.1) (some_is _ x w.1)
              (made a b first same full most (ltb-false _ _ w.0))
        ]

    of_first : (read : Option Number) → groups_at 5 bytes ≡ read → (read >>= behind_first v) ≡ Some x → IsBinaryGate v bytes x.0 x.1
    of_first None same e = absurd (none_is_some x e)
    of_first (Some a) same e =
        elim (chosen (eqb a.0 0 || ltb (2 * v) a.0) none _ (Some x) e) [
          | inl w ↦ absurd (none_is_some x w.1)
          | inr w ↦
              let both = either_false (eqb a.0 0) (ltb (2 * v) a.0) w.0 in
              of_second a same (eqb-false _ _ both.0) (ltb-false _ _ both.1) (groups_at 5 a.1) refl w.1
        ]

same_gate : (g : Gate) (a b c : ℕ) → g.lhs ≡ a → g.rhs0 ≡ b → g.rhs1 ≡ c → gate_of a b c ≡ g
same_gate g a b c e f h = ap (λ k. gate_of k b c) (sym e) ∙ ap (λ k. gate_of g.lhs k c) (sym f) ∙ ap (λ k. gate_of g.lhs g.rhs0 k) (sym h)

binary_gate_only : (v : ℕ) (bytes : List ℕ) (g : Gate) (rest : List ℕ) → IsBinaryGate v bytes g rest → binary_gate_at v bytes ≡ Some (g, rest)
unfolding binary_gate_at
binary_gate_only v bytes g rest is =
    let own = is.own in
    let below = is.below in
    let order = is.order in
    let d = g.lhs - g.rhs0 in
    let d' = g.rhs0 - g.rhs1 in
    let first : groups_at 5 (is.first ++ (is.second ++ rest)) ≡ Some (d, is.second ++ rest) =
    groups_only 5 is.first d (is.second ++ rest) is.differ.groups is.differ.few is.differ.small in
    let second : groups_at 5 (is.second ++ rest) ≡ Some (d', rest) =
    groups_only 5 is.second d' rest is.differ_again.groups is.differ_again.few is.differ_again.small in
    let some_below : eqb d 0 ≡ false = ne_eqb d 0 (λ z. omega arith) in
    let within : ltb (2 * v) d ≡ false = le-ltb (2 * v) d (omega arith) in
    let within' : ltb (2 * v - d) d' ≡ false = le-ltb (2 * v - d) d' (omega arith) in
    rw (is.parts, first, some_below, within, second, within')
    (ap (λ h. some (h, rest)) (same_gate g (2 * v) (2 * v - d) (2 * v - d - d') own (omega arith) (omega arith)))

pub gate_found : (form : AigerFormat) (v : ℕ) (bytes : List ℕ) (x : Gate × List ℕ) → gate_at form v bytes ≡ Some x → IsGate form v bytes x.0 x.1
unfolding gate_at
gate_found Ascii v bytes x e = ascii_gate_found v bytes x e
gate_found Binary v bytes x e = binary_gate_found v bytes x e

pub gate_only : (form : AigerFormat) (v : ℕ) (bytes : List ℕ) (g : Gate) (rest : List ℕ) → IsGate form v bytes g rest → gate_at form v bytes ≡ Some (g, rest)
unfolding gate_at
gate_only Ascii v bytes g rest is = ascii_gate_only v bytes g rest is
gate_only Binary v bytes g rest is = binary_gate_only v bytes g rest is
