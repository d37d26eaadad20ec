-- Literals and latches one after another.
use Rattle.std.proofs.Common.{◌≡◌, ◌∙◌, ℕ, zero, suc, ◌+◌, ◌*◌, ◌<◌, ◌≤◌, List, [], ◌∷◌, ◌++◌, length, get_or, take, refl, ap, sym, arith}
use Rattle.std.specs.Prelude.{map}
use Rattle.std.specs.List.{range_with_len}
use Rattle.std.proofs.lemmas.List.{length-take-le, take_all, take_more}
use Rattle.std.proofs.lemmas.List.FromFn.{map-range_with_len_more}
use Rattle.pg_aiger.specs.declared.gate.Latch.{Latch}
use Rattle.pg_aiger.specs.Circuits.{literals_from, latches_from}

pub literals_more : (first count : ℕ) → literals_from first count ++ 2 * (first + count) ∷ [] ≡ literals_from first (count + 1)
literals_more first count = sym (map-range_with_len_more (λ variable. 2 * variable) first count (first + count) refl)

abbrev pub latch_of : ℕ → ℕ → Latch
latch_of variable next = record { literal = 2 * variable; next = next }

latches_push : (first : ℕ) (nexts : List ℕ) (next : ℕ) → latches_from first nexts ++ latch_of (first + length nexts) next ∷ [] ≡ latches_from first (nexts ++ next ∷ [])
latches_push first [] next = let at : first + 0 ≡ first = omega arith in ap (λ n. latch_of n next ∷ []) at
latches_push first (other ∷ nexts) next =
    let at : first + suc (length nexts) ≡ suc first + length nexts = omega arith in
    ap (λ n. latch_of first other ∷ (latches_from (suc first) nexts ++ latch_of n next ∷ [])) at
    ∙ ap (λ list. latch_of first other ∷ list) (latches_push (suc first) nexts next)

pub latches_more : (first : ℕ) (nexts : List ℕ) (place next : ℕ) → place < length nexts → get_or nexts place 0 ≡ next
    → latches_from first (take place nexts) ++ latch_of (first + place) next ∷ [] ≡ latches_from first (take (place + 1) nexts)
latches_more first nexts place next below is =
    let n : length (take place nexts) ≡ place = length-take-le place nexts (omega arith) in
    ap (λ k. latches_from first (take place nexts) ++ latch_of (first + k) next ∷ []) (sym n) ∙ latches_push first (take place nexts) next
    ∙ ap (λ x. latches_from first (take place nexts ++ x ∷ [])) (sym is) ∙ ap (latches_from first) (sym (take_more nexts place 0 below))

pub latches_all : (first : ℕ) (nexts : List ℕ) (place : ℕ) → length nexts ≤ place → latches_from first (take place nexts) ≡ latches_from first nexts
latches_all first nexts place past = ap (latches_from first) (take_all place nexts past)
