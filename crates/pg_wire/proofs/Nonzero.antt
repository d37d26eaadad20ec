-- The components that aren't 0, and how many bytes measures take.
use Rattle.pg_wire.proofs.Common.{◌≡◌, ◌≢◌, ℕ, suc, ◌+◌, ◌*◌, ◌<◌, List, [], ◌∷◌, ◌++◌, length, get_or, take, refl, ap, ◌∙◌, arith, inl}
use Rattle.pg_wire.proofs.Common.{inr, ◌==◌, flat_map, cases_Bool, eqb-true, append-nil, take_more, length-append, length-take-le}
use Rattle.pg_wire.proofs.Common.{flat_map-cons, word, pair, nonzero_from, nonzero}
use Rattle.pg_wire.proofs.Append.{spelled_behind}

pub nonzero-append : (at : ℕ) (xs ys : List ℕ) → nonzero_from at (xs ++ ys) ≡ nonzero_from at xs ++ nonzero_from (at + length xs) ys
nonzero-append at [] ys = ap (λ (n : ℕ). nonzero_from n ys) (omega arith)
nonzero-append at (x ∷ xs) ys =
    let k : at + 1 + length xs ≡ at + suc (length xs) = omega arith in
    let rest : nonzero_from (at + 1) (xs ++ ys) ≡ nonzero_from (at + 1) xs ++ nonzero_from (at + suc (length xs)) ys =
    nonzero-append (at + 1) xs ys ∙ ap (λ (n : ℕ). nonzero_from (at + 1) xs ++ nonzero_from n ys) k in
    elim (cases_Bool (x == 0)) [
      | inl t ↦ rw t rest
      | inr t ↦ rw t (ap (λ (zs : List (ℕ × ℕ)). (at, x) ∷ zs) rest)
    ]

more : (xs : List ℕ) (i : ℕ) → i < length xs → nonzero (take (i + 1) xs) ≡ nonzero (take i xs) ++ nonzero_from i (get_or xs i 0 ∷ [])
more xs i lt =
    let len : length (take i xs) ≡ i = length-take-le i xs (omega arith) in
    ap nonzero (take_more xs i 0 lt) ∙ nonzero-append 0 (take i xs) (get_or xs i 0 ∷ [])
    ∙ ap (λ (n : ℕ). nonzero (take i xs) ++ nonzero_from n (get_or xs i 0 ∷ [])) (omega arith)

pub nonzero_zero : (xs : List ℕ) (i : ℕ) → i < length xs → get_or xs i 0 ≡ 0 → nonzero (take (i + 1) xs) ≡ nonzero (take i xs)
nonzero_zero xs i lt zero = more xs i lt ∙ rw zero (append-nil (nonzero (take i xs)))

some_alone : (i x : ℕ) → x ≢ 0 → nonzero_from i (x ∷ []) ≡ (i, x) ∷ []
some_alone i x some =
    elim (cases_Bool (x == 0)) [
      | inl t ↦ absurd (some (eqb-true x 0 t))
      | inr t ↦ rw t refl
    ]

pub nonzero_some : (xs : List ℕ) (i : ℕ) → i < length xs → get_or xs i 0 ≢ 0 → nonzero (take (i + 1) xs) ≡ nonzero (take i xs) ++ (i, get_or xs i 0) ∷ []
nonzero_some xs i lt some = more xs i lt ∙ ap (λ (ps : List (ℕ × ℕ)). nonzero (take i xs) ++ ps) (some_alone i (get_or xs i 0) some)

pub words_size : (ns : List ℕ) → length (flat_map word ns) ≡ 4 * length ns
words_size [] = refl
words_size (n ∷ ns) = ap length (flat_map-cons word n ns) ∙ length-append (word n) (flat_map word ns) ∙ omega (arith, words_size ns)

pub pairs_size : (ps : List (ℕ × ℕ)) → length (flat_map pair ps) ≡ 8 * length ps
pairs_size [] = refl
pairs_size (p ∷ ps) = ap length (flat_map-cons pair p ps) ∙ length-append (pair p) (flat_map pair ps) ∙ omega (arith, pairs_size ps)

pub pairs_more : (xs : List ℕ) (i : ℕ) → i < length xs → get_or xs i 0 ≢ 0
    → flat_map pair (nonzero (take (i + 1) xs)) ≡ flat_map pair (nonzero (take i xs)) ++ pair (i, get_or xs i 0)
pairs_more xs i lt some =
    ap (flat_map pair) (nonzero_some xs i lt some) ∙ spelled_behind pair (nonzero (take i xs)) (i, get_or xs i 0)
