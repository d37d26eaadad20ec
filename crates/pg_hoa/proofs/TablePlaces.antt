-- Which slots a step goes to: bit by bit, block by block, edge by edge and line by line.
use Rattle.pg_hoa.proofs.Common.{◌≡◌, ℕ, suc, ◌+◌, ◌-◌, ◌*◌, ◌/◌, ◌%◌, ◌^◌, ◌<◌, ◌≤◌, Bool, true, false, cond, ◌&&◌, ◌||◌, ◌==◌, leb, ltb}
use Rattle.pg_hoa.proofs.Common.{min, List, [], ◌∷◌, ◌++◌, length, map, take, get_or, set, refl, sym, ap, subst, ◌∙◌, arith, lit<, lit≤}
use Rattle.pg_hoa.proofs.Common.{inl, inr, ◌⊎◌, Decides, filter, bit_and, bit_at, trailing_zeros, w64, bit_or, false≢true, Decides-eqb}
use Rattle.pg_hoa.proofs.Common.{Decides-ltb, Decides-and, leb_tells, nat_tests, div-add-mod', mod_below, mul-le, pow-add, pow_pos}
use Rattle.pg_hoa.proofs.Common.{pow_below, shr-shr, shr_le, bit_at-zero, bit_at-trailing_zeros, map-append, flat_map_more, take_more}
use Rattle.pg_hoa.proofs.Common.{get_or-set_same, get_or-set_other, filter-append, Op, Step, step, deciding, Covered, Way, rising, KeptEdge}
use Rattle.pg_hoa.proofs.Common.{KeptLine, says, truth, truth_in, on_at, Shape, both_true, SpeaksOf, Stage, HasKey, Adds, IsCovered}
use Rattle.pg_hoa.proofs.Common.{IsDecided, IsOf, IsRow, when, within, way_step, at_slot, at_word, at_letters, at_line, at_lines, IsSplit}
use Rattle.pg_hoa.proofs.Common.{says_at, edge_step, kept_edge_steps}
use Rattle.pg_hoa.proofs.TableFilling.{adds_then, adds_covered, adds_wider, adds_noted, own_key, has_first, has_behind}
use Rattle.pg_hoa.proofs.TableWords.{truth_and, truth_or, truth_not, truth_none}

-- ---- tests

when_same : (b d : Bool) (s : Step) (P R : Type 0) → Decides b P → Decides d R → (P → R) → (R → P) → when b s ≡ when d s
when_same true d s P R p r a back = ap (λ d. when d s) (sym (r.1 (a (p.0 refl))))
when_same false true s P R p r a back = absurd (false≢true (p.1 (back (r.0 refl))))
when_same false false s P R p r a back = refl

when_none : (b : Bool) (s : Step) (P : Type 0) → Decides b P → (P → ⊥) → when b s ≡ []
when_none true s P p n = absurd (n (p.0 refl))
when_none false s P p n = refl

decides_le : (a b : ℕ) → Decides (leb a b) (a ≤ b)
decides_le a b =
    elim (leb_tells a b) [ inl p ↦ (λ _. p.1, λ _. p.0) | inr p ↦ (λ e. absurd (false≢true (sym p.0 ∙ e)), λ h. absurd (omega arith)) ]

decides_true : (b : Bool) → Decides b (b ≡ true)
decides_true b = (λ e. e, λ e. e)

same_or_other : (a b : ℕ) → (a ≡ b) ⊎ (a ≡ b → ⊥)
same_or_other a b = elim (leb_tells a b) [
  | inl p ↦ (elim (leb_tells b a) [ inl q ↦ inl (omega (arith, p.1, q.1)) | inr q ↦ inr (λ e. absurd (omega (arith, q.1, e))) ])
  | inr p ↦ inr (λ e. absurd (omega (arith, p.1, e)))
]

abbrev Within : ℕ → ℕ → ℕ → Type 0
Within first width i = (first ≤ i) × (i < first + width)

decides_within : (first width i : ℕ) → Decides (within first width i) (Within first width i)
decides_within first width i = Decides-and (leb first i) (ltb i (first + width)) (decides_le first i) (Decides-ltb i (first + width))

pub before_or_behind : (a b : ℕ) → (a < b) ⊎ (b ≤ a)
before_or_behind a b = elim (leb_tells (suc a) b) [ inl p ↦ inl p.1 | inr p ↦ inr (omega (arith, p.1)) ]

-- ---- bits

abbrev AtBit : ℕ → ℕ → ℕ → ℕ → Type 0
AtBit first width word i = Within first width i × (bit_at word (i - first) ≡ 1)

decides_bit : (first width word i : ℕ) → Decides (within first width i && (bit_at word (i - first) == 1)) (AtBit first width word i)
decides_bit first width word i = Decides-and (within first width i) (bit_at word (i - first) == 1) (decides_within first width i)
    (Decides-eqb (bit_at word (i - first)) 1)

pub no_bits : (first word : ℕ) (s : Step) (i : ℕ) → at_word first 0 word s i ≡ []
no_bits first word s i = when_none (within first 0 i && (bit_at word (i - first) == 1)) s (AtBit first 0 word i)
    (decides_bit first 0 word i) (λ p. absurd (omega (arith, p.0.0, p.0.1)))

pub set_bit : (first j word : ℕ) (s : Step) (i : ℕ) → bit_at word j ≡ 1
    → at_word first j word s i ++ at_slot (first + j) s i ≡ at_word first (j + 1) word s i
set_bit first j word s i bit = grind (
  arith,
  nat_tests,
  decides_bit first j word i,
  Decides-eqb i (first + j),
  decides_bit first
      (j + 1) word i,
  before_or_behind i (first + j),
)

pub unset_bits : (first a b word : ℕ) (s : Step) (i : ℕ) → a ≤ b → ((k : ℕ) → a ≤ k → k < b → bit_at word k ≡ 1 → ⊥)
    → at_word first a word s i ≡ at_word first b word s i
unset_bits first a b word s i h none =
    grind (arith, nat_tests, decides_bit first a word i, decides_bit first b word i, before_or_behind i (first + a))

bit_of_rest : (word at k : ℕ) → at ≤ k → bit_at (word / 2 ^ at) (k - at) ≡ bit_at word k
bit_of_rest word at k h = grind (arith, nat_tests, shr-shr word at (k - at))

-- the bits from one place on, where nothing is left
pub none_left : (word at : ℕ) → word / 2 ^ at ≡ 0 → (k : ℕ) → at ≤ k → bit_at word k ≡ 1 → ⊥
none_left word at none k h e = grind (arith, nat_tests, bit_of_rest word at k h, bit_at-zero (k - at))

-- the next bit, and none before it
pub next_bit : (word at skip : ℕ) → word < 2 ^ 64 → (word / 2 ^ at ≡ 0 → ⊥) → skip ≡ trailing_zeros w64 (word / 2 ^ at)
    → (bit_at word (at + skip) ≡ 1) × ((k : ℕ) → at ≤ k → k < at + skip → bit_at word k ≡ 1 → ⊥)
next_bit word at skip h some e =
    let small : word / 2 ^ at < 18446744073709551616 = omega (arith, h, shr_le word at) in
    let z = bit_at-trailing_zeros w64 (word / 2 ^ at) (omega (arith, some)) small in
    let here : at + skip - at ≡ trailing_zeros w64 (word / 2 ^ at) = omega (arith, e) in (
      sym (bit_of_rest word at (at + skip) (omega arith)) ∙ ap (bit_at (word / 2 ^ at)) here ∙ z.1,
      λ k low high one.
          let zero_there : bit_at word k ≡ 0 = sym (bit_of_rest word at k low) ∙ z.2 (k - at) (omega (arith, low, high, e)) in
          omega (arith, sym zero_there ∙ one),
    )

-- ---- blocks

abbrev says_behind : List Op → ℕ → ℕ → Bool
says_behind label first i = says label (λ a. bit_at (i - first) a == 1)

abbrev AtLetter : ℕ → ℕ → List Op → ℕ → Type 0
AtLetter first width label i = Within first width i × (says_behind label first i ≡ true)

decides_letter : (first width : ℕ) (label : List Op) (i : ℕ)
    → Decides (within first width i && says_behind label first i) (AtLetter first width label i)
decides_letter first width label i = Decides-and (within first width i) (says_behind label first i) (decides_within first width i)
    (decides_true (says_behind label first i))

abbrev Tells : ℕ → List Op → ℕ → Type 0
Tells word label block = (j : ℕ) → j < 64 → truth word j ≡ says label (on_at block j)

pub no_letters : (first : ℕ) (label : List Op) (s : Step) (i : ℕ) → at_letters first 0 label s i ≡ []
no_letters first label s i = when_none (within first 0 i && says_behind label first i) s (AtLetter first 0 label i)
    (decides_letter first 0 label i) (λ p. absurd (omega (arith, p.0.0, p.0.1)))

pub more_letters : (first block width word : ℕ) (label : List Op) (s : Step) (i : ℕ) → Tells word label block → width ≤ 64
    → block * width ≡ block * 64
    → at_letters first (block * width) label s i ++ at_word (first + block * width) width word s i
    ≡ at_letters first ((block + 1) * width) label s i
more_letters first block width word label s i tells narrow whole = grind (
  arith,
  nat_tests,
  decides_letter first (block * width) label i,
  decides_bit (first + block * width) width word i,
  decides_letter first ((block + 1) * width) label i,
  Decides-eqb (bit_at word (i - (first + block * width))) 1,
  before_or_behind i (first + block * width),
)

more_within : (first n m : ℕ) (label : List Op) (s : Step) (i : ℕ)
    → at_letters first n label s i ++ when (within (first + n) m i && says_behind label first i) s ≡ at_letters first (n + m) label s i
more_within first n m label s i = grind (
  arith,
  nat_tests,
  decides_letter first n label i,
  decides_within (first + n) m i,
  decides_letter first (n + m) label i,
  before_or_behind i (first + n),
)

-- a word without bits gives nothing
pub empty_word : (first width : ℕ) (s : Step) (i : ℕ) → at_word first width 0 s i ≡ []
empty_word first width s i = grind (arith, nat_tests, decides_bit first width 0 i)

-- the step at the bits of a word that are known, and at the others
abbrev pub at_known : ℕ → ℕ → ℕ → ℕ → Step → ℕ → List Step
at_known first width word known s i = when (within first width i && (truth word (i - first) && truth known (i - first))) s

rest_truth : (word known j : ℕ) → known < 2 ^ 64 → j < 64
    → truth (bit_and word (18446744073709551615 - known)) j ≡ (truth word j && cond (truth known j) false true)
rest_truth word known j h k = truth_and word (18446744073709551615 - known) j ∙ ap (λ b. truth word j && b) (truth_not known j h k)

pieces : (w x y z : Bool) (s : Step) → (w ≡ true → z ≡ (x && cond y false true))
    → when (w && (x && y)) s ++ when (w && z) s ≡ when (w && x) s
pieces false x y z s e = refl
pieces true true true z s e = ap (λ b. (s ∷ []) ++ when b s) (e refl)
pieces true true false z s e = ap (λ b. when b s) (e refl)
pieces true false y z s e = ap (λ b. when b s) (e refl)

pub known_and_rest : (first width word known : ℕ) (s : Step) (i : ℕ) → known < 2 ^ 64 → width ≤ 64
    → at_known first width word known s i ++ at_word first width (bit_and word (18446744073709551615 - known)) s i
    ≡ at_word first width word s i
known_and_rest first width word known s i h narrow = pieces (within first width i) (truth word (i - first)) (truth known (i - first))
    (truth (bit_and word (18446744073709551615 - known)) (i - first)) s
    (λ e. let there = (decides_within first width i).0 e in rest_truth word known (i - first) h (omega (arith, there.0, there.1, narrow)))

pub known_part : (w : Way) (t : Stage) (first width word known : ℕ) → IsDecided w → width ≤ 64
    → ((j : ℕ) → j < 64 → truth known j ≡ true → IsCovered w t (first + j))
    → Adds w.shape (at_known first width word known (way_step w)) t t
known_part w t first width word known d narrow has =
    adds_covered w t (λ i. within first width i && (truth word (i - first) && truth known (i - first))) d
    (λ i e.
    let parts = both_true (within first width i) (truth word (i - first) && truth known (i - first)) e in
    let there = (decides_within first width i).0 parts.0 in
    let place : first + (i - first) ≡ i = omega (arith, there.0) in
    subst (IsCovered w t) place (has (i - first) (omega (arith, there.0, there.1, narrow))
    (both_true (truth word (i - first)) (truth known (i - first)) parts.1).1))

none_lacking : (a b : Bool) → (a && cond b false true) ≡ false → a ≡ true → b ≡ true
none_lacking a true e h = refl
none_lacking true false e h = sym e
none_lacking false false e h = h

pub bits_within : (word known j : ℕ) → known < 2 ^ 64 → j < 64 → bit_and word (18446744073709551615 - known) ≡ 0 → truth word j ≡ true
    → truth known j ≡ true
bits_within word known j h k none = none_lacking (truth word j) (truth known j)
    (sym (rest_truth word known j h k) ∙ ap (λ n. truth n j) none ∙ truth_none j)

one_of_two : (P : Type 0) (a b : Bool) → (a || b) ≡ true → (a ≡ true → P) → (b ≡ true → P) → P
one_of_two P true b e p q = p refl
one_of_two P false b e p q = q e

-- the letters of a block are covered as they are given
pub covers_given : (w : Way) (t u v : Stage) (c : Covered) (block word : ℕ) → w.row.width ≡ 64 → IsDecided w → IsOf u.covered w
    → c.first ≡ u.covered.first → c.target ≡ u.covered.target → c.counts ≡ u.covered.counts
    → c.words.items ≡ set u.covered.words.items block (bit_or (get_or u.covered.words.items block 0) word)
    → block < length u.covered.words.items
    → Adds w.shape (at_word (w.row.first + block * w.row.width) w.row.width word (way_step w)) t u → v ≡ record u { covered = c }
    → Adds w.shape (at_word (w.row.first + block * w.row.width) w.row.width word (way_step w)) t v
covers_given w t u v c block word wide d of first target counts words below a is =
    adds_noted w.shape (at_word at w.row.width word s) t u v c a is
    (λ given old b j small bit.
    subst (λ n. HasKey w.shape n c.counts (all given (c.first + (b * 64 + j)))) (sym target)
    (subst (λ n. HasKey w.shape u.covered.target n (all given (c.first + (b * 64 + j)))) (sym counts)
    (subst (λ n. HasKey w.shape u.covered.target u.covered.counts (all given (n + (b * 64 + j)))) (sym first)
    (elim (same_or_other b block) [
      | inr other ↦ old b j small (sym (ap (λ l. truth (get_or l b 0) j) words ∙ ap (λ n. truth n j)
          (get_or-set_other u.covered.words.items block b
          (bit_or (get_or u.covered.words.items block 0) word) 0 other)) ∙ bit)
      | inl same ↦
          let new : truth (bit_or (get_or u.covered.words.items block 0) word) j ≡ true =
          sym (ap (λ l. truth (get_or l b 0) j) words ∙ ap (λ n. truth (get_or (set u.covered.words.items block
          (bit_or (get_or u.covered.words.items block 0) word)) n 0) j) same
          ∙ ap (λ n. truth n j) (get_or-set_same u.covered.words.items block (bit_or (get_or u.covered.words.items block 0) word) 0 below))
          ∙ bit in
          one_of_two (HasKey w.shape u.covered.target u.covered.counts (all given (u.covered.first + (b * 64 + j))))
          (truth (get_or u.covered.words.items block 0) j) (truth word j)
          (sym (truth_or (get_or u.covered.words.items block 0) word j) ∙ new)
          (λ e. old b j small (ap (λ n. truth (get_or u.covered.words.items n 0) j) same ∙ e))
          (λ e. given_now given b j small same e)
    ]))))
  where
    s : Step
    s = way_step w

    at : ℕ
    at = w.row.first + block * w.row.width

    all : (ℕ → List Step) → ℕ → List Step
    all given i = given i ++ at_word at w.row.width word s i

    given_now : (given : ℕ → List Step) (b j : ℕ) → j < 64 → b ≡ block → truth word j ≡ true
        → HasKey w.shape u.covered.target u.covered.counts (all given (u.covered.first + (b * 64 + j)))
    given_now given b j small same e =
        let i : ℕ = u.covered.first + (b * 64 + j) in
        let place : i ≡ at + j = ap (λ n. n + (b * 64 + j)) of.first ∙ ap (λ n. w.row.first + (n * 64 + j)) same
        ∙ ap (λ n. w.row.first + (block * n + j)) (sym wide)
        ∙ omega arith in
        let inside : (within at w.row.width i && (bit_at word (i - at) == 1)) ≡ true = (decides_bit at w.row.width word i).1 (
          (omega (arith, place), omega (arith, place, small, wide)),
          ap (bit_at word) (omega (arith, place))
              ∙ (Decides-eqb (bit_at word j) 1).0 e,
        ) in
        has_behind w.shape u.covered.target u.covered.counts (given i) (at_word at w.row.width word s i)
        (subst (λ x. HasKey w.shape u.covered.target u.covered.counts (when x s)) (sym inside)
        (subst (λ n. HasKey w.shape n u.covered.counts (s ∷ [])) (sym of.target)
        (subst (λ n. HasKey w.shape w.target n (s ∷ [])) (sym (of.counts ∙ d))
        (has_first w.shape w.target (deciding w.shape s.sets) s [] (own_key w.shape s)))))

sum_spread : (a e width : ℕ) → (a + e) * width ≡ a * width + e * width
sum_spread a e width = omega arith

rest_of : (a c width : ℕ) → a ≤ c → a * width + (c - a) * width ≡ c * width
rest_of a c width h =
    let sum : c ≡ a + (c - a) = omega (arith, h) in
    sym (ap (λ l. l * width) sum ∙ sum_spread a (c - a) width)

-- the letters of a run, where all to which the label says yes are covered
pub covered_run : (w : Way) (t u : Stage) (run slots : ℕ) (label : List Op) (words : List ℕ) → IsDecided w → IsRow slots w.row
    → run * 16 < w.row.blocks
    → SpeaksOf label run words
    → ((k j : ℕ) → k < 16 → j < 64 → truth_in words k j ≡ true → IsCovered w u (w.row.first + ((run * 16 + k) * 64 + j)))
    → Adds w.shape (at_letters w.row.first (run * 16 * w.row.width) label (way_step w)) t u
    → Adds w.shape (at_letters w.row.first (min w.row.blocks (run * 16 + 16) * w.row.width) label (way_step w)) t u
covered_run w t u run slots label words d row some speaks has a =
    let first = w.row.first in
    let n : ℕ = run * 16 * w.row.width in
    let m : ℕ = (min w.row.blocks (run * 16 + 16) - run * 16) * w.row.width in
    let b = λ (i : ℕ). within (first + n) m i && says_behind label first i in
    let before : n ≡ run * 1024 = row.whole (run * 16) some ∙ omega arith in
    let all : n + m ≡ min w.row.blocks (run * 16 + 16) * w.row.width =
    rest_of (run * 16) (min w.row.blocks (run * 16 + 16)) w.row.width (omega (arith, some)) in
    let few : m ≤ 1024 = mul-le (min w.row.blocks (run * 16 + 16) - run * 16) w.row.width 16 64 (omega arith) row.narrow in
    adds_then w.shape (at_letters first n label (way_step w)) (λ i. when (b i) (way_step w))
    (at_letters first (min w.row.blocks (run * 16 + 16) * w.row.width) label (way_step w)) t u u a
    (adds_covered w u b d (λ i e.
    let parts = both_true (within (first + n) m i) (says_behind label first i) e in
    let there = (decides_within (first + n) m i).0 parts.0 in
    let q : ℕ = i - first in
    let k : ℕ = q / 64 - run * 16 in
    let place : (run * 16 + k) * 64 + q % 64 ≡ q = omega (arith, there.0, before) in
    let slot : first + ((run * 16 + k) * 64 + q % 64) ≡ i = omega (arith, there.0, place) in
    let below : k < 16 = omega (arith, there.0, there.1, before, few) in
    let small : q % 64 < 64 = omega arith in
    subst (IsCovered w u) slot (has k (q % 64) below small
    (speaks k (q % 64) below small ∙ ap (λ l. says label (λ a. bit_at l a == 1)) place ∙ parts.1))))
    (λ i. more_within first n m label (way_step w) i ∙ ap (λ l. at_letters first l label (way_step w) i) all)

-- the letters from the conflict on
pub stopped_letters : (shape : Shape) (first n m : ℕ) (label : List Op) (s : Step) (t u : Stage) → n ≤ m → u.conflict ≤ first + n
    → Adds shape (at_letters first n label s) t u → Adds shape (at_letters first m label s) t u
stopped_letters shape first n m label s t u h late a = adds_wider shape (λ i. within first n i && says_behind label first i)
    (λ i. within first m i && says_behind label first i) s t u a
    (λ i early. ap (λ b. (leb first i && b) && says_behind label first i)
    ((Decides-ltb i (first + n)).1 (omega (arith, early, late)) ∙ sym ((Decides-ltb i (first + m)).1 (omega (arith, early, late, h)))))
    (λ i e. let p = (decides_letter first n label i).0 e in (decides_letter first m label i).1 ((p.0.0, omega (arith, p.0.1, h)), p.1))

-- ---- edges

-- a line of these edges; the greatest state counts for no step
abbrev pub line_of : ℕ → List ℕ → List KeptEdge → KeptLine
line_of state own edges = record { state = state; greatest = state; sets = own; edges = edges }

at_row : (letters state i : ℕ) → 0 < letters → i / letters ≡ state
    → Within (state * letters) letters i × (i - state * letters ≡ i % letters)
at_row letters state i h e = grind (arith, nat_tests, div-add-mod' i letters, mod_below i letters h)

row_at : (letters state i : ℕ) → Within (state * letters) letters i → i / letters ≡ state
row_at letters state i h = grind (arith, nat_tests)

-- the slots of a state, by its letters
letters_at : (letters state i : ℕ) (own : List ℕ) (e : KeptEdge) → 0 < letters
    → at_letters (state * letters) letters e.label (edge_step own e) i
    ≡ when (state == i / letters && says_at (i % letters) e) (edge_step own e)
letters_at letters state i own e h =
    when_same (within (state * letters) letters i && says_behind e.label (state * letters) i)
    (state == i / letters && says_at (i % letters) e) (edge_step own e)
    (AtLetter (state * letters) letters e.label i) ((state ≡ i / letters) × (says_at (i % letters) e ≡ true))
    (decides_letter (state * letters) letters e.label i) (Decides-and (state == i / letters) (says_at (i % letters) e)
    (Decides-eqb state (i / letters)) (decides_true (says_at (i % letters) e)))
    (λ p. let row = row_at letters state i p.0 in (sym row, ap (λ m. says_at m e) (sym (at_row letters state i h row).1) ∙ p.1))
    (λ q. let there = at_row letters state i h (sym q.0) in (there.0, ap (λ m. says_at m e) there.1 ∙ q.1))

pub no_edges : (letters state : ℕ) (own : List ℕ) (i : ℕ) → at_line letters (line_of state own []) i ≡ []
no_edges letters state own i = elim (state == i / letters) as (λ b. cond {A = List Step} b [] [] ≡ []) [ true ↦ refl | false ↦ refl ]

alone : (own : List ℕ) (e : KeptEdge) (b : Bool) → map (edge_step own) (cond b (e ∷ []) []) ≡ when b (edge_step own e)
alone own e true = refl
alone own e false = refl

pub more_edges : (letters state : ℕ) (own : List ℕ) (edges : List KeptEdge) (e : KeptEdge) (i : ℕ) → 0 < letters
    → at_line letters (line_of state own edges) i ++ at_letters (state * letters) letters e.label (edge_step own e) i
    ≡ at_line letters (line_of state own (edges ++ (e ∷ []))) i
more_edges letters state own edges e i h = ap (λ l. at_line letters (line_of state own edges) i ++ l) (letters_at letters state i own e h)
    ∙ by_state (state == i / letters)
  where
    by_state : (b : Bool)
        → cond b (map (edge_step own) (filter (says_at (i % letters)) edges)) [] ++ when (b && says_at (i % letters) e)
        (edge_step own e) ≡ cond b (map (edge_step own) (filter (says_at (i % letters)) (edges ++ (e ∷ [])))) []
    by_state true =
        sym (ap (map (edge_step own)) (filter-append (says_at (i % letters)) edges (e ∷ []))
        ∙ map-append (edge_step own) (filter (says_at (i % letters)) edges) (filter (says_at (i % letters)) (e ∷ []))
        ∙ ap (λ l. map (edge_step own) (filter (says_at (i % letters)) edges) ++ l) (alone own e (says_at (i % letters) e)))
    by_state false = refl

pub more_items : {A B : Type 0} (f : A → B) (xs : List A) (i : ℕ) (x : A) → i < length xs → x ≡ get_or xs i x
    → map f (take i xs) ++ (f x ∷ []) ≡ map f (take (i + 1) xs)
more_items f xs i x h is = grind (arith, nat_tests, take_more xs i x h, map-append f (take i xs) (get_or xs i x ∷ []))

-- an edge as it is given, with its sets put into those of the state
pub edge_added : (letters state first : ℕ) (own : List ℕ) (edges more : List KeptEdge) (e : KeptEdge) (label : List Op) (sets : List ℕ)
    (i : ℕ)
    → 0 < letters → first ≡ state * letters → label ≡ e.label → sets ≡ rising (own ++ e.sets) → edges ++ (e ∷ []) ≡ more
    → at_line letters (line_of state own edges) i ++ at_letters first letters label (step e.target sets) i
    ≡ at_line letters (line_of state own more) i
edge_added letters state first own edges more e label sets i h a b c d = grind (arith, nat_tests, more_edges letters state own edges e i h)

-- ---- lines

pub more_lines : (letters : ℕ) (lines : List KeptLine) (l : KeptLine) (i : ℕ)
    → at_lines letters lines i ++ at_line letters l i ≡ at_lines letters (lines ++ (l ∷ [])) i
more_lines letters lines l i = flat_map_more (kept_edge_steps (i / letters) (i % letters)) [] lines l

-- ---- how letters fall into blocks

pub one_block : (propositions width : ℕ) → propositions < 6 → width ≡ 2 ^ propositions → IsSplit propositions 1 width
one_block propositions width h e =
    let small : 2 ^ propositions < 64 = pow_below propositions 6 h in
    record {
      all = omega (arith, e);
      few = lit≤ tt;
      narrow = omega (arith, e, small);
      some = lit< tt;
      whole = λ block b. let none : block ≡ 0 = omega (arith, b) in ap (λ n. n * width) none ∙ nothing width ∙ ap (λ n. n * 64) (sym none);
    }
  where
    nothing : (n : ℕ) → 0 * n ≡ 0 * 64
    nothing n = omega arith

pub many_blocks : (propositions blocks : ℕ) → 6 ≤ propositions → propositions ≤ 16 → blocks ≡ 2 ^ (propositions - 6)
    → IsSplit propositions blocks 64
many_blocks propositions blocks h k e =
    let there : propositions - 6 + 6 ≡ propositions = omega (arith, h) in
    let product : 2 ^ (propositions - 6) * 64 ≡ 2 ^ propositions = sym (pow-add 2 (propositions - 6) 6) ∙ ap (λ n. 2 ^ n) there in
    let bound : 2 ^ (propositions - 6) ≤ 1024 = at_most_ten (propositions - 6) (omega (arith, h, k)) in
    record {
      all = ap (λ n. n * 64) e ∙ product;
      few = omega (arith, e, bound);
      narrow = lit≤ tt;
      some = omega (arith, e, pow_pos (propositions - 6));
      whole = λ block b. refl;
    }
  where
    at_most_ten : (n : ℕ) → n ≤ 10 → 2 ^ n ≤ 1024
    at_most_ten n h = elim (before_or_behind n 10) [
      | inl less ↦ (let below : 2 ^ n < 1024 = pow_below n 10 less in omega (arith, below))
      | inr same ↦ (let is : n ≡ 10 = omega (arith, h, same) in let there : 2 ^ n ≡ 1024 = ap (λ n. 2 ^ n) is in omega (arith, there))
    ]
