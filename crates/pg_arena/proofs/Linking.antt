-- Steps of the loops that write a list from its front on: so far it is as wanted, and behind that as it was.
use Rattle.pg_arena.proofs.Common.{◌≡◌, ◌<◌, ◌+◌, ◌++◌, ◌∷◌, [], ℕ, List, length, map, take, drop, ◌∙◌, sym, ap, subst, arith, nat_tests}
use Rattle.pg_arena.proofs.Common.{set, slice_index, All, get_or-drop, drop-drop, drop-set-lt, take_more, take_more_set, map-append}
use Rattle.pg_arena.proofs.Common.{All-push, AreLinked}

-- what isn't reached yet is read as it was
pub read_left : (old now : List ℕ) (k : ℕ) → drop k now ≡ drop k old → slice_index now k ≡ slice_index old k
read_left old now k left = grind (arith, nat_tests, get_or-drop k now 0 0, get_or-drop k old 0 0)

-- and the rest stays so when the next one is written
pub left_next : (old now : List ℕ) (k y : ℕ) → drop k now ≡ drop k old → drop (k + 1) (set now k y) ≡ drop (k + 1) old
left_next old now k y left = drop-set-lt (k + 1) now k y (omega arith) ∙ sym (drop-drop 1 k now) ∙ ap (drop 1) left ∙ drop-drop 1 k old

pub mapped_next : (f : ℕ → ℕ) (old now : List ℕ) (k : ℕ) → k < length now → k < length old → take k now ≡ map f (take k old)
    → take (k + 1) (set now k (f (slice_index old k))) ≡ map f (take (k + 1) old)
mapped_next f old now k within within-old done =
    let x : ℕ = slice_index old k in
    take_more_set now k (f x) within
    ∙ ap (λ (l : List ℕ). l ++ f x ∷ []) done
    ∙ sym (map-append f (take k old) (x ∷ []))
    ∙ ap (map f) (sym (take_more old k 0 within-old))

pub linked_next : (ids old now : List ℕ) (k y : ℕ) → k < length now → k < length old → y < length ids → slice_index ids y ≡ slice_index now k
    → drop k now ≡ drop k old → AreLinked ids (take k old) (take k now) → AreLinked ids (take (k + 1) old) (take (k + 1) (set now k y))
linked_next ids old now k y within within-old known is left done =
    let f : ℕ → ℕ = slice_index ids in
    let written : take (k + 1) (set now k y) ≡ take k now ++ y ∷ [] = take_more_set now k y within in (
      ap (map f) written
          ∙ map-append f (take k now) (y ∷ [])
          ∙ ap (λ (l : List ℕ). l ++ f y ∷ []) done.0
          ∙ ap (λ (z : ℕ). take k old ++ z ∷ []) (is ∙ read_left old now k left)
          ∙ sym (take_more old k 0 within-old),
      subst (All (λ v. v < length ids)) (sym written) (All-push (λ v. v < length ids) (take k now) y done.1 known),
    )
