-- Membership in lists that are made from others.
use Rattle.pg_synth.proofs.Common.{◌≡◌, ℕ, ◌+◌, ◌<◌, List, [], ◌∷◌, ◌++◌, map, append_assoc, map-id, arith, sym, ap, ◌∙◌}
use Rattle.pg_synth.proofs.Common.{Contains, flat_map, range_with_len, flat_map_more}
use Rattle.pg_synth.proofs.Common.{length-range_with_len, get_or-range_with_len, map-range_with_len_more}
use Rattle.pg_synth.proofs.Common.{contains_map, contains_mapped}

pub in_range : (n i : ℕ) → Contains (range_with_len 0 n) i → i < n
in_range n i (k, lt, is) =
    let l = length-range_with_len 0 n in
    let e = get_or-range_with_len 0 n k i (omega arith) in omega (arith, e, is)

pub range_contains : (n i : ℕ) → i < n → Contains (range_with_len 0 n) i
range_contains n i lt =
    let l = length-range_with_len 0 n in
    let e = get_or-range_with_len 0 n i i lt in (i, omega (arith, l), omega (arith, e))

-- the numbers of a list made from those below n
pub contains_from_range : (f : ℕ → ℕ) (n y : ℕ) → Contains (map f (range_with_len 0 n)) y → (i : ℕ) × (i < n) × (f i ≡ y)
contains_from_range f n y c =
    let p = contains_map f (range_with_len 0 n) y c in (p.0, in_range n p.0 p.1, p.2)

pub range_contained : (f : ℕ → ℕ) (n i : ℕ) → i < n → Contains (map f (range_with_len 0 n)) (f i)
range_contained f n i lt = contains_mapped f (range_with_len 0 n) i (range_contains n i lt)

-- one more element of a list made from numbers
pub pushed : (f : ℕ → ℕ) (base before after : List ℕ) (i v : ℕ) → before ≡ base ++ map f (range_with_len 0 i) → after ≡ before ++ v ∷ [] → v ≡ f i
    → after ≡ base ++ map f (range_with_len 0 (i + 1))
pushed f base before after i v e d is =
    d ∙ rw (e, is) (append_assoc base (map f (range_with_len 0 i)) (f i ∷ [])
    ∙ ap (λ (xs : List ℕ). base ++ xs) (sym (map-range_with_len_more f 0 i i (omega arith))))

pub flat_more : (f : ℕ → List ℕ) (base before after : List ℕ) (i : ℕ) → before ≡ base ++ flat_map f (range_with_len 0 i) → after ≡ before ++ f i
    → after ≡ base ++ flat_map f (range_with_len 0 (i + 1))
flat_more f base before after i e d =
    d ∙ rw e (flat_map_more f base (range_with_len 0 i) i ∙ ap (λ (xs : List ℕ). base ++ flat_map f xs) (sym more))
  where
    more : range_with_len 0 (i + 1) ≡ range_with_len 0 i ++ i ∷ []
    more = sym (map-id (range_with_len 0 (i + 1))) ∙ map-range_with_len_more (λ x. x) 0 i i (omega arith)
        ∙ ap (λ (xs : List ℕ). xs ++ i ∷ []) (map-id (range_with_len 0 i))
