-- What is written piece by piece is the layout.
use Rattle.pg_text.proofs.Common.{◌≡◌, ℕ, zero, suc, ◌-◌, ◌+◌, ◌<◌, ◌*◌, ◌≤◌, List, [], ◌∷◌, ◌++◌, length, map, take, drop, replicate}
use Rattle.pg_text.proofs.Common.{get_or, Option, All, codes, decimal, arith, refl, sym, ap, subst, ◌∙◌, take-append-drop, nat_tests}
use Rattle.pg_text.proofs.Common.{flat_map, take-map, Appends, Appends-trans, take_more, take_at, take_all, length-map, map-append}
use Rattle.pg_text.proofs.Common.{flat_map_more, length-append, replicate-append-replicate, decimal_digit, Contains-get_or, GameVertex}
use Rattle.pg_text.proofs.Common.{IsGame, identifier, successors, vertex_at, nowhere, Line, line_of, lines_of, comma_number, line_text}
use Rattle.pg_text.proofs.Common.{game_text}
use Rattle.std.proofs.lemmas.List.Concat.{flat_map-append}

-- successors are vertices
pub successors_within : (game : List GameVertex) (v : ℕ) → IsGame game → All (λ w. w < length game) (successors game v)
successors_within game v is_game = λ i d lt. is_game.in_range v (get_or (successors game v) i d) (Contains-get_or (successors game v) i d lt)

-- a line more
pub line_push : (a b c : Option (List ℕ)) (game : List GameVertex) (v : ℕ) → v < length game
    → Appends a b (flat_map line_text (take v (lines_of game))) → Appends b c (line_text (line_of game (vertex_at game v)))
    → Appends a c (flat_map line_text (take (v + 1) (lines_of game)))
line_push a b c game v lt so_far more =
    let x = vertex_at game v in
    let longer : take (v + 1) (lines_of game) ≡ take v (lines_of game) ++ line_of game x ∷ [] =
    take-map (line_of game) (v + 1) game ∙ ap (map (line_of game)) (take_more game v nowhere lt)
    ∙ map-append (line_of game) (take v game) (x ∷ []) ∙ ap (λ (ls : List Line). ls ++ line_of game x ∷ [])
    (sym (take-map (line_of game) v game)) in
    subst (Appends a c) (flat_map_more line_text [] (take v (lines_of game)) (line_of game x) ∙ ap (flat_map line_text) (sym longer))
    (Appends-trans a b c _ _ so_far more)

-- the header, and then all lines
pub game_written : (a b c d e : Option (List ℕ)) (game : List GameVertex) (len n v : ℕ)
    → len ≡ length game → n ≡ identifier game (len - 1) → len ≤ v
    → Appends a b (codes "parity ") → Appends b c (decimal n) → Appends c d (codes ";\n")
    → Appends d e (flat_map line_text (take v (lines_of game))) → Appends a e (game_text game)
game_written a b c d e game len n v is number whole word greatest closing lines =
    let many : length (lines_of game) ≡ length game = length-map game (line_of game) in
    let all : take v (lines_of game) ≡ lines_of game = take_all v (lines_of game) (omega arith) in
    let last : n ≡ identifier game (length game - 1) = number ∙ ap (λ (k : ℕ). identifier game (k - 1)) is in
    let behind : Appends c e (codes ";\n" ++ flat_map line_text (lines_of game)) =
    Appends-trans c d e _ _ closing (subst (λ (ls : List Line). Appends d e (flat_map line_text ls)) all lines) in
    let numbered : Appends b c (decimal (identifier game (length game - 1))) = subst (λ (k : ℕ). Appends b c (decimal k)) last greatest in
    Appends-trans a b e _ _ word (Appends-trans b c e _ _ numbered behind)

-- ---- numbers behind commas

-- what was written, with these numbers behind it, is all numbers
pub record Completes (old new : Option (List ℕ)) (all rest : List ℕ) : Type 0 where
  pub by : (c : Option (List ℕ)) → Appends new c (flat_map comma_number rest) → Appends old c (flat_map comma_number all)

-- some of the numbers more
pub completes_rest : (old a b : Option (List ℕ)) (all rest : List ℕ) (k : ℕ) → Completes old a all rest
    → Appends a b (flat_map comma_number (take k rest)) → Completes old b all (drop k rest)
completes_rest old a b all rest k so_far more =
    let parts : flat_map comma_number (take k rest) ++ flat_map comma_number (drop k rest) ≡ flat_map comma_number rest =
    sym (flat_map-append comma_number (take k rest) (drop k rest)) ∙ ap (flat_map comma_number) (take-append-drop k rest) in
    record { by = λ c p. so_far.by c (subst (Appends a c) parts (Appends-trans a b c _ _ more p)) }

-- ---- zeros

-- zeros take two bytes each
zeros_long : (n : ℕ) → length (flat_map comma_number (replicate n 0)) ≡ 2 * n
zeros_long zero = refl
zeros_long (suc n) = grind (
  arith,
  nat_tests,
  length-append (comma_number 0) (flat_map comma_number (replicate n 0)),
  decimal_digit 0 (omega arith),
  zeros_long n,
)

-- the bytes of fewer zeros stand in front of those of more
pub zeros_text : (n m : ℕ) → n ≤ m → take (2 * n) (flat_map comma_number (replicate m 0)) ≡ flat_map comma_number (replicate n 0)
zeros_text n m le =
    let parts : flat_map comma_number (replicate m 0) ≡ flat_map comma_number (replicate n 0) ++ flat_map comma_number (replicate (m - n) 0) =
    ap (λ (k : ℕ). flat_map comma_number (replicate k 0)) (omega arith)
    ∙ ap (flat_map comma_number) (sym (replicate-append-replicate n (m - n) 0))
    ∙ flat_map-append comma_number (replicate n 0) (replicate (m - n) 0) in
    ap (take (2 * n)) parts
    ∙ take_at (flat_map comma_number (replicate n 0)) (flat_map comma_number (replicate (m - n) 0)) (2 * n) (zeros_long n)
