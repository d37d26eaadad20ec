-- Terms, and instructions one behind another.
use Rattle.pg_hoa.proofs.Common.{◌≡◌, ℕ, suc, zero, ◌+◌, ◌-◌, ◌*◌, ◌/◌, ◌^◌, ◌<◌, ◌≤◌, min, max, Bool, true, false, cond, ◌&&◌, ◌||◌, ◌==◌}
use Rattle.pg_hoa.proofs.Common.{List, [], ◌∷◌, ◌++◌, length, take, drop, get_or, refl, sym, ap, ◌∙◌, arith, bit_and, bit_at, bit_or}
use Rattle.pg_hoa.proofs.Common.{and_assoc, and_comm, or_comm, and_or_self, and_shr, shr_high, pow_pos, bit_at_and, bit_at_or, and_pow}
use Rattle.pg_hoa.proofs.Common.{bit_at-lt, bit_at_cat_low, same_from_bits, take-append_seam, false≢true, Decides-eqb, nat_tests}
use Rattle.pg_hoa.proofs.Common.{at_drop_more, Op, Term, Instruction, Put, Not, Both, Either, BothTerm, EitherTerm, top, under, perform}
use Rattle.pg_hoa.proofs.Common.{run, truth, on_at, fits, execute, execute_all, executed}
use Rattle.pg_hoa.proofs.TableWords.{truth_and, truth_or, truth_not, truth_all, on_high}

-- ---- bits of a block's number

spread : (l a b : ℕ) → min l (max a b) ≡ max (min l a) (min l b)
spread l a b = omega arith

and_of_or : (l a b : ℕ) → bit_and l (bit_or a b) ≡ bit_or (bit_and l a) (bit_and l b)
and_of_or l a b = same_from_bits (bit_and l (bit_or a b)) (bit_or (bit_and l a) (bit_and l b))
    (λ i. bit_at_and l (bit_or a b) i ∙ ap (min (bit_at l i)) (bit_at_or a b i) ∙ spread (bit_at l i) (bit_at a i) (bit_at b i)
    ∙ ap (λ x. max x (min (bit_at l i) (bit_at b i))) (sym (bit_at_and l a i)) ∙ ap (max (bit_at (bit_and l a) i)) (sym (bit_at_and l b i))
    ∙ sym (bit_at_or (bit_and l a) (bit_and l b) i))

same_test : (a b c d : ℕ) → (a ≡ b → c ≡ d) → (c ≡ d → a ≡ b) → (a == b) ≡ (c == d)
same_test a b c d p q = grind (arith, nat_tests, Decides-eqb a b, Decides-eqb c d)

and_both : (b c : Bool) → b ≡ true → (c && b) ≡ c
and_both true true e = refl
and_both true false e = refl
and_both false c e = absurd (false≢true e)

pub fits_whole : (b word j : ℕ) → (truth word j && (bit_and b 0 == 0)) ≡ truth word j
fits_whole b word j = and_both (bit_and b 0 == 0) (truth word j) (ap (λ n. n == 0) (and_comm b 0))

-- the test of one bit
one_bit : (b p : ℕ) → (bit_and b (2 ^ p) == 2 ^ p) ≡ (bit_at b p == 1)
one_bit b p = grind (arith, nat_tests, and_pow b p, Decides-eqb (bit_at b p) 1, bit_at-lt b p, pow_pos p)

no_bit : (b p : ℕ) → (bit_and b (2 ^ p) == 0) ≡ cond (bit_at b p == 1) false true
no_bit b p = grind (arith, nat_tests, and_pow b p, Decides-eqb (bit_at b p) 1, bit_at-lt b p, pow_pos p)

pub fits_high : (b j a bit : ℕ) → 6 ≤ a → j < 64 → bit ≡ 2 ^ (a - 6)
    → (truth 18446744073709551615 j && (bit_and b bit == bit)) ≡ on_at b j a
fits_high b j a bit high small is =
    ap (λ t. t && (bit_and b bit == bit)) (truth_all j small) ∙ ap (λ n. bit_and b n == n) is ∙ one_bit b (a - 6)
    ∙ sym (on_high b j a high small)

pub fits_there : (b j : ℕ) (t : Term) → bit_and b t.care ≡ t.value → truth t.word j ≡ fits b j t
fits_there b j t e = sym (and_both (bit_and b t.care == t.value) (truth t.word j) ((Decides-eqb (bit_and b t.care) t.value).1 e))

and_none : (b c : Bool) → (b ≡ true → ⊥) → false ≡ (c && b)
and_none true c n = absurd (n refl)
and_none false true n = refl
and_none false false n = refl

pub fits_none : (b j : ℕ) (t : Term) → (bit_and b t.care ≡ t.value → ⊥) → false ≡ fits b j t
fits_none b j t n = and_none (bit_and b t.care == t.value) (truth t.word j) (λ e. n ((Decides-eqb (bit_and b t.care) t.value).0 e))

-- a block of a run has the run's number above its low four bits
pub none_meets : (run : ℕ) (t : Term) → (bit_and run (t.care / 2 ^ 4) ≡ t.value / 2 ^ 4 → ⊥) → (k : ℕ) → k < 16
    → bit_and (run * 16 + k) t.care ≡ t.value → ⊥
none_meets run t n k h e = grind (arith, nat_tests, shr_high run 4 k h, and_shr (run * 16 + k) t.care 4)

-- ---- a term turned round

pub turned_whole : (b word j : ℕ) (t : Term) → word ≡ t.word → t.care ≡ 0 → t.value ≡ 0 → word < 2 ^ 64 → j < 64
    → truth (18446744073709551615 - word) j ≡ cond (fits b j t) false true
turned_whole b word j t w c v h small =
    truth_not word j h small ∙ ap (λ x. cond x false true)
    (sym (ap (λ n. truth word j && (bit_and b n == t.value)) c ∙ ap (λ n. truth word j && (bit_and b 0 == n)) v ∙ fits_whole b word j)
    ∙ ap (λ n. truth n j && (bit_and b t.care == t.value)) w)

pub turned_high : (b j p : ℕ) (t : Term) → t.word ≡ 18446744073709551615 → t.care ≡ 2 ^ p → j < 64 → t.value ≡ t.care
    → (truth t.word j && (bit_and b t.care == 0)) ≡ cond (fits b j t) false true
turned_high b j p t w c small v =
    ap (λ n. truth n j && (bit_and b t.care == 0)) w ∙ ap (λ x. x && (bit_and b t.care == 0)) (truth_all j small)
    ∙ ap (λ n. bit_and b n == 0) c ∙ no_bit b p
    ∙ ap (λ x. cond x false true) (sym (ap (λ n. truth n j && (bit_and b t.care == t.value)) w ∙ ap
    (λ x. x && (bit_and b t.care == t.value)) (truth_all j small) ∙ ap (λ n. bit_and b t.care == n) v ∙ ap (λ n. bit_and b n == n) c
    ∙ one_bit b p))

pub turned_low : (b j p : ℕ) (t : Term) → t.word ≡ 18446744073709551615 → t.care ≡ 2 ^ p → j < 64 → t.value ≡ 0
    → (truth t.word j && (bit_and b t.care == t.care)) ≡ cond (fits b j t) false true
turned_low b j p t w c small v =
    ap (λ n. truth n j && (bit_and b t.care == t.care)) w ∙ ap (λ x. x && (bit_and b t.care == t.care)) (truth_all j small)
    ∙ ap (λ n. bit_and b n == n) c ∙ one_bit b p ∙ twice (bit_at b p == 1)
    ∙ ap (λ x. cond x false true) (sym (ap (λ n. truth n j && (bit_and b t.care == t.value)) w ∙ ap
    (λ x. x && (bit_and b t.care == t.value)) (truth_all j small) ∙ ap (λ n. bit_and b t.care == n) v ∙ ap (λ n. bit_and b n == 0) c
    ∙ no_bit b p))
  where
    twice : (x : Bool) → x ≡ cond (cond x false true) false true
    twice true = refl
    twice false = refl

-- ---- two terms

-- what both values say, the whole says
part_of : (b c d v w : ℕ) → bit_and b (bit_or c d) ≡ v → bit_and v c ≡ w → bit_and b c ≡ w
part_of b c d v w e f =
    let all : bit_and (bit_or c d) c ≡ c = ap (λ n. bit_and n c) (or_comm c d) ∙ and_or_self c d in
    ap (bit_and b) (sym all) ∙ sym (and_assoc c b (bit_or c d)) ∙ ap (λ n. bit_and n c) e ∙ f

both_tests : (b c d v w : ℕ) → bit_and (bit_or v w) c ≡ v → bit_and (bit_or v w) d ≡ w
    → (bit_and b (bit_or c d) == bit_or v w) ≡ ((bit_and b c == v) && (bit_and b d == w))
both_tests b c d v w e f = grind (
  arith,
  nat_tests,
  Decides-eqb (bit_and b (bit_or c d)) (bit_or v w),
  Decides-eqb (bit_and b c) v,
  Decides-eqb (bit_and b d) w,
  there,
  left,
  right,
)
  where
    there : bit_and b c ≡ v → bit_and b d ≡ w → bit_and b (bit_or c d) ≡ bit_or v w
    there p q = and_of_or b c d ∙ ap (λ x. bit_or x (bit_and b d)) p ∙ ap (bit_or v) q

    left : bit_and b (bit_or c d) ≡ bit_or v w → bit_and b c ≡ v
    left h = part_of b c d (bit_or v w) v h e

    right : bit_and b (bit_or c d) ≡ bit_or v w → bit_and b d ≡ w
    right h = part_of b d c (bit_or v w) w (ap (bit_and b) (or_comm d c) ∙ h) f

four : (a b c d : Bool) → ((a && b) && (c && d)) ≡ ((a && c) && (b && d))
four true b true d = refl
four true true false d = refl
four true false false d = refl
four false b c d = refl

pub fits_joined : (b j : ℕ) (l r : Term) → bit_and (bit_or l.value r.value) l.care ≡ l.value
    → bit_and (bit_or l.value r.value) r.care ≡ r.value
    → (truth (bit_and l.word r.word) j && (bit_and b (bit_or l.care r.care) == bit_or l.value r.value)) ≡ (fits b j l && fits b j r)
fits_joined b j l r e f =
    ap (λ x. x && (bit_and b (bit_or l.care r.care) == bit_or l.value r.value)) (truth_and l.word r.word j)
    ∙ ap (λ x. (truth l.word j && truth r.word j) && x) (both_tests b l.care r.care l.value r.value e f)
    ∙ four (truth l.word j) (truth r.word j) (bit_and b l.care == l.value) (bit_and b r.care == r.value)

either_tested : (a b c : Bool) → ((a || b) && c) ≡ ((a && c) || (b && c))
either_tested true true true = refl
either_tested true true false = refl
either_tested true false true = refl
either_tested true false false = refl
either_tested false b c = refl

-- the letters of two terms of the same blocks
pub fits_added : (b j : ℕ) (t u : Term) → t.care ≡ u.care → t.value ≡ u.value
    → (truth (bit_or t.word u.word) j && (bit_and b t.care == t.value)) ≡ (fits b j t || fits b j u)
fits_added b j t u c v =
    ap (λ x. x && (bit_and b t.care == t.value)) (truth_or t.word u.word j)
    ∙ either_tested (truth t.word j) (truth u.word j) (bit_and b t.care == t.value)
    ∙ ap (λ x. fits b j t || (truth u.word j && x)) (ap (λ n. bit_and b n == t.value) c ∙ ap (λ n. bit_and b u.care == n) v)

-- ---- instructions

grouped : (x y z : Bool) → (x || (y || z)) ≡ ((x || y) || z)
grouped true y z = refl
grouped false y z = refl

swapped : (x y z : Bool) → ((x || y) || z) ≡ ((x || z) || y)
swapped true y z = refl
swapped false true true = refl
swapped false true false = refl
swapped false false true = refl
swapped false false false = refl

execute_all_more : (instructions : List Instruction) (a : Instruction) (b j : ℕ) (stack : List Bool)
    → execute_all (instructions ++ (a ∷ [])) b j stack ≡ execute a b j (execute_all instructions b j stack)
execute_all_more [] a b j stack = refl
execute_all_more (x ∷ instructions) a b j stack = execute_all_more instructions a b j (execute x b j stack)

pub executed_none : (b j : ℕ) → executed [] b j ≡ []
unfolding executed
executed_none b j = refl

pub executed_more : (instructions more : List Instruction) (a : Instruction) (b j : ℕ) → more ≡ instructions ++ (a ∷ [])
    → executed more b j ≡ execute a b j (executed instructions b j)
unfolding executed
executed_more instructions more a b j e = ap (λ l. execute_all l b j []) e ∙ execute_all_more instructions a b j []

pub plain : (a : Instruction) (old same new : List Instruction) (b j : ℕ) → same ≡ old → new ≡ same ++ (a ∷ [])
    → executed new b j ≡ execute a b j (executed old b j)
plain a old same new b j e n = executed_more same new a b j n ∙ ap (λ l. execute a b j (executed l b j)) e

pub not_term : (old rest new : List Instruction) (t u : Term) (b j : ℕ) → old ≡ rest ++ (Put t ∷ []) → new ≡ rest ++ (Put u ∷ [])
    → fits b j u ≡ cond (fits b j t) false true → executed new b j ≡ cond (top (executed old b j)) false true ∷ under (executed old b j)
not_term old rest new t u b j o n e =
    executed_more rest new (Put u) b j n ∙ ap (λ x. x ∷ executed rest b j) e
    ∙ sym (ap (λ s. cond (top s) false true ∷ under s) (executed_more rest old (Put t) b j o))

pub not_apart : (old rest mid new : List Instruction) (t : Term) (b j : ℕ) → old ≡ rest ++ (Put t ∷ []) → mid ≡ rest ++ (Put t ∷ [])
    → new ≡ mid ++ (Not ∷ []) → executed new b j ≡ cond (top (executed old b j)) false true ∷ under (executed old b j)
not_apart old rest mid new t b j o m n = plain Not old mid new b j (m ∙ sym o) n

pub both_term : (old rest new : List Instruction) (t : Term) (b j : ℕ) → old ≡ rest ++ (Put t ∷ []) → new ≡ rest ++ (BothTerm t ∷ [])
    → executed new b j ≡ (top (under (executed old b j)) && top (executed old b j)) ∷ under (under (executed old b j))
both_term old rest new t b j o n = executed_more rest new (BothTerm t) b j n
    ∙ sym (ap (λ s. (top (under s) && top s) ∷ under (under s)) (executed_more rest old (Put t) b j o))

pub both_joined : (old rest less new : List Instruction) (l r t : Term) (b j : ℕ) → old ≡ rest ++ (Put r ∷ []) → rest ≡ less ++ (Put l ∷ [])
    → new ≡ less ++ (Put t ∷ []) → fits b j t ≡ (fits b j l && fits b j r)
    → executed new b j ≡ (top (under (executed old b j)) && top (executed old b j)) ∷ under (under (executed old b j))
both_joined old rest less new l r t b j o m n e =
    executed_more less new (Put t) b j n ∙ ap (λ x. x ∷ executed less b j) e
    ∙ sym (ap (λ s. (top (under s) && top s) ∷ under (under s)) (executed_more rest old (Put r) b j o ∙ ap (λ s. fits b j r ∷ s)
    (executed_more less rest (Put l) b j m)))

pub either_term : (old rest new : List Instruction) (t : Term) (b j : ℕ) → old ≡ rest ++ (Put t ∷ []) → new ≡ rest ++ (EitherTerm t ∷ [])
    → executed new b j ≡ (top (under (executed old b j)) || top (executed old b j)) ∷ under (under (executed old b j))
either_term old rest new t b j o n = executed_more rest new (EitherTerm t) b j n
    ∙ sym (ap (λ s. (top (under s) || top s) ∷ under (under s)) (executed_more rest old (Put t) b j o))

-- a term of the sum that the instructions end in takes the letters of another
pub sum_put : (instructions rest : List Instruction) (last : Instruction) (o t u : Term) (b j : ℕ) → instructions ≡ rest ++ (last ∷ [])
    → last ≡ Put o
    → fits b j u ≡ (fits b j o || fits b j t)
    → executed (rest ++ (Put u ∷ [])) b j ≡ (top (executed instructions b j) || fits b j t) ∷ under (executed instructions b j)
sum_put instructions rest last o t u b j a l e =
    executed_more rest (rest ++ (Put u ∷ [])) (Put u) b j refl ∙ ap (λ x. x ∷ executed rest b j) e
    ∙ sym (ap (λ s. (top s || fits b j t) ∷ under s) (executed_more rest instructions (Put o) b j (a ∙ ap (λ x. rest ++ (x ∷ [])) l)))

pub sum_term : (instructions rest : List Instruction) (last : Instruction) (o t u : Term) (b j : ℕ) → instructions ≡ rest ++ (last ∷ [])
    → last ≡ EitherTerm o
    → fits b j u ≡ (fits b j o || fits b j t)
    → executed (rest ++ (EitherTerm u ∷ [])) b j ≡ (top (executed instructions b j) || fits b j t) ∷ under (executed instructions b j)
sum_term instructions rest last o t u b j a l e =
    executed_more rest (rest ++ (EitherTerm u ∷ [])) (EitherTerm u) b j refl
    ∙ ap (λ x. x ∷ under (executed rest b j)) (ap (λ x. top (executed rest b j) || x) e
    ∙ grouped (top (executed rest b j)) (fits b j o) (fits b j t))
    ∙ sym (ap (λ s. (top s || fits b j t) ∷ under s)
    (executed_more rest instructions (EitherTerm o) b j (a ∙ ap (λ x. rest ++ (x ∷ [])) l)))

-- or one further down does
pub sum_under : (instructions rest less : List Instruction) (last : Instruction) (o t u : Term) (b j : ℕ)
    → instructions ≡ rest ++ (last ∷ []) → last ≡ EitherTerm o
    → u ≡ o → executed less b j ≡ (top (executed rest b j) || fits b j t) ∷ under (executed rest b j)
    → executed (less ++ (EitherTerm u ∷ [])) b j ≡ (top (executed instructions b j) || fits b j t) ∷ under (executed instructions b j)
sum_under instructions rest less last o t u b j a l same e =
    executed_more less (less ++ (EitherTerm u ∷ [])) (EitherTerm u) b j refl
    ∙ ap (λ x. (top (executed less b j) || fits b j x) ∷ under (executed less b j)) same
    ∙ ap (λ s. (top s || fits b j o) ∷ under s) e
    ∙ ap (λ x. x ∷ under (executed rest b j)) (swapped (top (executed rest b j)) (fits b j t) (fits b j o))
    ∙ sym (ap (λ s. (top s || fits b j t) ∷ under s)
    (executed_more rest instructions (EitherTerm o) b j (a ∙ ap (λ x. rest ++ (x ∷ [])) l)))

pub either_joined : (old rest now new : List Instruction) (t : Term) (b j : ℕ) → old ≡ rest ++ (Put t ∷ []) → now ≡ rest
    → executed new b j ≡ (top (executed now b j) || fits b j t) ∷ under (executed now b j)
    → executed new b j ≡ (top (under (executed old b j)) || top (executed old b j)) ∷ under (under (executed old b j))
either_joined old rest now new t b j o n e = e ∙ ap (λ l. (top (executed l b j) || fits b j t) ∷ under (executed l b j)) n
    ∙ sym (ap (λ s. (top (under s) || top s) ∷ under (under s)) (executed_more rest old (Put t) b j o))

-- items that were lent as a slice
pub given_back : {A : Type 0} (many : ℕ) (items behind : List A) → length items ≡ many → take many (items ++ behind) ≡ items
given_back many items behind e = ap (λ n. take n (items ++ behind)) (sym e) ∙ take-append_seam items behind

-- one operation more
pub next_op : (label : List Op) (i : ℕ) (op d : Op) (on : ℕ → Bool) (stack more : List Bool) → i < length label → op ≡ get_or label i d
    → more ≡ perform op on stack → run (drop (i + 1) label) on more ≡ run (drop i label) on stack
next_op label i op d on stack more lt is e = ap (run (drop (i + 1) label) on) e
    ∙ ap (λ o. run (drop (i + 1) label) on (perform o on stack)) is ∙ sym (at_drop_more (λ ops. run ops on stack) label i d lt)

-- one instruction more
pub next_instruction : (instructions : List Instruction) (i : ℕ) (a d : Instruction) (b j : ℕ) (stack more : List Bool)
    → i < length instructions → a ≡ get_or instructions i d
    → more ≡ execute a b j stack → execute_all (drop (i + 1) instructions) b j more ≡ execute_all (drop i instructions) b j stack
next_instruction instructions i a d b j stack more lt is e = ap (execute_all (drop (i + 1) instructions) b j) e
    ∙ ap (λ o. execute_all (drop (i + 1) instructions) b j (execute o b j stack)) is
    ∙ sym (at_drop_more (λ l. execute_all l b j stack) instructions i d lt)

-- the truth so many places below the top
abbrev below : ℕ → List Bool → Bool
below zero stack = top stack
below (suc n) stack = below n (under stack)

same_instruction : (a : Instruction) (b j : ℕ) (s t : List Bool) → ((n : ℕ) → below n s ≡ below n t)
    → (n : ℕ) → below n (execute a b j s) ≡ below n (execute a b j t)
same_instruction (Put u) b j s t h zero = refl
same_instruction (Put u) b j s t h (suc n) = h n
same_instruction Not b j s t h zero = ap (λ x. cond x false true) (h 0)
same_instruction Not b j s t h (suc n) = h (suc n)
same_instruction Both b j s t h zero = ap (λ x. x && top s) (h 1) ∙ ap (λ x. top (under t) && x) (h 0)
same_instruction Both b j s t h (suc n) = h (suc (suc n))
same_instruction Either b j s t h zero = ap (λ x. x || top s) (h 1) ∙ ap (λ x. top (under t) || x) (h 0)
same_instruction Either b j s t h (suc n) = h (suc (suc n))
same_instruction (BothTerm u) b j s t h zero = ap (λ x. x && fits b j u) (h 0)
same_instruction (BothTerm u) b j s t h (suc n) = h (suc n)
same_instruction (EitherTerm u) b j s t h zero = ap (λ x. x || fits b j u) (h 0)
same_instruction (EitherTerm u) b j s t h (suc n) = h (suc n)

same_instructions : (instructions : List Instruction) (b j : ℕ) (s t : List Bool) → ((n : ℕ) → below n s ≡ below n t)
    → top (execute_all instructions b j s) ≡ top (execute_all instructions b j t)
same_instructions [] b j s t h = h 0
same_instructions (a ∷ instructions) b j s t h =
    same_instructions instructions b j (execute a b j s) (execute a b j t) (same_instruction a b j s t h)

-- a stack of one truth that is false does as well as none
pub from_false : (instructions : List Instruction) (b j : ℕ) (s : List Bool) → s ≡ false ∷ []
    → top (execute_all instructions b j s) ≡ top (executed instructions b j)
unfolding executed
from_false instructions b j s e = same_instructions instructions b j s [] (λ n. ap (below n) e ∙ no_more n)
  where
    no_more : (n : ℕ) → below n (false ∷ []) ≡ below n []
    no_more zero = refl
    no_more (suc n) = refl

pub on_low : (b j a : ℕ) → a < 6 → on_at 0 j a ≡ on_at b j a
on_low b j a low = ap (λ n. n == 1) (bit_at_cat_low 0 6 j a low ∙ sym (bit_at_cat_low b 6 j a low))
