use Rattle.pg_hoa.proofs.Common.{◌≡◌, ◌∙◌, ◌+◌, ◌*◌, ◌%◌, ◌/◌, ◌^◌, ◌<◌, ◌≤◌, ℕ, map, take, length, get_or, replicate, List, Fits, w32, sym}
use Rattle.pg_hoa.proofs.Common.{refl, ap, subst, arith, nat_tests, one_shl, pow_pos, take_all, length-replicate, All-get_or, pow_mono}
use Rattle.pg_hoa.proofs.Common.{mod-le, div-le_self, mul-le-mul_right, All, ReadState, line_in, stage, at_line, at_lines, IsFirstConflict}
use Rattle.std.proofs.Common.{w64}
use Rattle.pg_hoa.proofs.TableFilling.{adds_then}
use Rattle.pg_hoa.proofs.TablePlaces.{more_lines, more_items}
use Rattle.pg_hoa.proofs.TableAnswers.{found_table, first_conflict, all_filled, nothing_covered}
use Rattle.pg_hoa.proofs.table.table_of.Goals as goal

-- the letters and the slots are as many as there are, without a bit lost
letters_few : (p : ℕ) → p ≤ 16 → 1 * 2 ^ p % 18446744073709551616 ≤ 65536
letters_few p h = subst (λ n. n ≤ 65536) (sym (one_shl p 64 (omega arith))) (pow_mono {i = p} {j = 16} h)

slots_few : (states p : ℕ) → p ≤ 16 → states * 2 ^ p ≤ 16777216 → states * (1 * 2 ^ p % 18446744073709551616) ≤ 16777216
slots_few states p h few = subst (λ n. states * n ≤ 16777216) (sym (one_shl p 64 (omega arith))) few

fits_32 : (n m slots : ℕ) → n ≤ m → m < slots → slots ≤ 16777216 → Fits w32 n
fits_32 n m slots h k few = omega arith

fits_letters : (n : ℕ) → n ≤ 65536 → Fits w32 n
fits_letters n h = omega arith

fits_64 : (n : ℕ) → n ≤ 16777216 → Fits w64 n
fits_64 n h = omega arith

within : (state states n m : ℕ) → state < states → m ≡ states * n → state * n + n ≤ m
within state states n m h e =
    let most : (state + 1) * n ≤ states * n = mul-le-mul_right n (omega arith) in
    grind arith

-- the slots of a state below the count stand within those of all
slots_within :
    (lines : List ReadState) (states p at : ℕ) (line : ReadState) (slots zeros : List ℕ)
    → p ≤ 16 → All (λ l. l.state < states) lines → at < length lines → line ≡ get_or lines at line
    → length slots ≡ length zeros → zeros ≡ replicate (states * (1 * 2 ^ p % 18446744073709551616)) 0
    → line.state * 2 ^ p + 2 ^ p ≤ length slots
slots_within lines states p at line slots zeros few below h is same made =
    let n : ℕ = 2 ^ p in
    let letters : 1 * 2 ^ p % 18446744073709551616 ≡ n = one_shl p 64 (omega arith) in
    let all : length slots ≡ states * n = same ∙ ap length made ∙ length-replicate _ 0 ∙ ap (λ m. states * m) letters in
    let state : line.state < states =
    subst (λ (l : ReadState). l.state < states) (sym is) (All-get_or (λ (l : ReadState). l.state < states) lines at line h below) in
    within line.state states n (length slots) state all

pub overflow_mul-total : goal.overflow_mul-total
overflow_mul-total c =
    grind (arith, nat_tests, fits_64 _ (slots_few c.args.states c.args.propositions c.requires.few_propositions c.requires.few_steps))

pub add_line-requires-clause-within : goal.add_line-requires-clause-within
add_line-requires-clause-within c = grind (arith, nat_tests)

pub overflow_cast-state : goal.overflow_cast-state
overflow_cast-state c =
    fits_32 _ c.loop-line.filling.conflict _ (div-le_self c.loop-line.filling.conflict _) c.if-filling-total.true
    (slots_few c.args.states c.args.propositions c.requires.few_propositions c.requires.few_steps)

pub overflow_cast-letter : goal.overflow_cast-letter
overflow_cast-letter c =
    fits_32 _ c.loop-line.filling.conflict _ (mod-le c.loop-line.filling.conflict _) c.if-filling-total.true
    (slots_few c.args.states c.args.propositions c.requires.few_propositions c.requires.few_steps)

pub overflow_cast-result : goal.overflow_cast-result
overflow_cast-result c = fits_letters _ (letters_few c.args.propositions c.requires.few_propositions)

pub loop-line-preserved : goal.loop-line-preserved
loop-line-preserved c =
    adds_then c.args.shape (at_lines (2 ^ c.args.propositions) (map line_in (take c.loop-line.line-index c.args.lines.now)))
    (at_line (2 ^ c.args.propositions) (line_in c.line-item.result))
    (at_lines (2 ^ c.args.propositions) (map line_in (take (c.loop-line.line-index + 1) c.args.lines.now)))
    _ (stage c.loop-line.filling) (stage c.add_line.new.filling) c.loop-line.invariant c.in_ok-add_line.ensures
    (λ i. more_lines (2 ^ c.args.propositions) (map line_in (take c.loop-line.line-index c.args.lines.now))
    (line_in c.line-item.result) i
    ∙ ap (λ l. at_lines (2 ^ c.args.propositions) l i) (more_items line_in c.args.lines.now c.loop-line.line-index c.line-item.result
    (omega arith) c.line-item.is))

pub returns-then-filling-total-clause-refused : goal.returns-then-filling-total-clause-refused
returns-then-filling-total-clause-refused c =
    let p : ℕ = c.args.propositions in
    let letters : 1 * 2 ^ p % 18446744073709551616 ≡ 2 ^ p = one_shl p 64 (omega arith) in
    let all : map line_in (take c.loop-line.line-index c.args.lines.now) ≡ map line_in c.args.lines.now =
    ap (map line_in) (take_all c.loop-line.line-index c.args.lines.now c.loop-line-test.false) in
    let filled = all_filled c.args.shape (2 ^ p) (c.args.states * (1 * 2 ^ p % 18446744073709551616)) (map line_in c.args.lines.now)
    (map line_in (take c.loop-line.line-index c.args.lines.now)) _ (stage c.loop-line.filling)
    (c.in_ok-vec.ensures.items_if_clones_equal (λ y same. same)) refl
    (nothing_covered _ _ (c.in_ok-vec-2.ensures.items_if_clones_equal (λ y same. same))) all c.loop-line.invariant in
    let many : length c.loop-line.filling.slots.items ≡ c.args.states * 2 ^ p = filled.1 ∙ ap (λ n. c.args.states * n) letters in
    subst (λ n. IsFirstConflict c.args.shape (map line_in c.args.lines.now) c.args.states (2 ^ p) (c.loop-line.filling.conflict / n)
    (c.loop-line.filling.conflict % n)) (sym letters)
    (first_conflict c.args.shape (map line_in c.args.lines.now) c.args.states (2 ^ p) (stage c.loop-line.filling) filled.0
    (pow_pos p) many (omega (arith, c.if-filling-total.true, filled.1)))

pub returns-clause-found : goal.returns-clause-found
returns-clause-found c =
    let p : ℕ = c.args.propositions in
    let letters : 1 * 2 ^ p % 18446744073709551616 ≡ 2 ^ p = one_shl p 64 (omega arith) in
    let all : map line_in (take c.loop-line.line-index c.args.lines.now) ≡ map line_in c.args.lines.now =
    ap (map line_in) (take_all c.loop-line.line-index c.args.lines.now c.loop-line-test.false) in
    let filled = all_filled c.args.shape (2 ^ p) (c.args.states * (1 * 2 ^ p % 18446744073709551616)) (map line_in c.args.lines.now)
    (map line_in (take c.loop-line.line-index c.args.lines.now)) _ (stage c.loop-line.filling)
    (c.in_ok-vec.ensures.items_if_clones_equal (λ y same. same)) refl
    (nothing_covered _ _ (c.in_ok-vec-2.ensures.items_if_clones_equal (λ y same. same))) all c.loop-line.invariant in
    let many : length c.loop-line.filling.slots.items ≡ c.args.states * 2 ^ p = filled.1 ∙ ap (λ n. c.args.states * n) letters in
    found_table c.args.shape (map line_in c.args.lines.now) c.args.states (2 ^ p) (stage c.loop-line.filling) _ filled.0 many
    (omega (arith, c.if-filling-total.false, filled.1)) refl letters refl refl refl
