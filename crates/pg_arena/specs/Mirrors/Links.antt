-- How successors given by identifier become vertices.
use Rattle.std.specs.Prelude.{◌≡◌, ℕ, ◌<◌, ◌==◌, Bool, not, false, List, [], ◌∷◌, length, map, Option, None, slice_range, slice_index}
use Rattle.std.specs.Prelude.{option_map, All, Contains}
use Rattle.std.specs.List.{list_any, find}
use Rattle.std.specs.Option.{option_or}
use Rattle.pg_arena.specs.Mirrors.Entries.{Row}

abbrev pub is_among : List ℕ → ℕ → Bool
is_among identifiers n = list_any (λ x. n == x) identifiers

-- the vertices have these identifiers
abbrev pub AreLinked : List ℕ → List ℕ → List ℕ → Type 0
AreLinked identifiers targets vertices = (map (slice_index identifiers) vertices ≡ targets)
    × All (λ v. v < length identifiers) vertices

-- one of the targets is no identifier
abbrev pub HasUnknown : List ℕ → List ℕ → Type 0
HasUnknown identifiers targets = (n : ℕ) × Contains targets n × (is_among identifiers n ≡ false)

-- the first of the numbers that is no identifier
abbrev pub unknown_in : List ℕ → List ℕ → Option ℕ
unknown_in identifiers numbers = find (λ n. not (is_among identifiers n)) numbers

-- the first vertex's identifier with its first successor that is no identifier
abbrev pub first_unknown_in : List ℕ → List ℕ → List Row → Option (ℕ × ℕ)
first_unknown_in identifiers targets [] = None
first_unknown_in identifiers targets (r ∷ rows) = option_or
    (option_map (λ n. (r.identifier, n)) (unknown_in identifiers (slice_range targets r.from r.to)))
    (first_unknown_in identifiers targets rows)
