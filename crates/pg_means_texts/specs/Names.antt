-- The propositions of an automaton and of a formula together, identified by name.
use Rattle.std.specs.Prelude.{ℕ, List, map}
use Rattle.std.specs.List.{fold}
use Rattle.pg_ltl.specs.Texts.{number_of, with_name}

-- the automaton's names, followed by those of the formula's names that the automaton lacks
abbrev pub all_names : List (List ℕ) → List (List ℕ) → List (List ℕ)
all_names propositions own = fold (λ names name. with_name name names) propositions own

-- for each of the formula's propositions its place: that of the first proposition with its name
abbrev pub places_of : List (List ℕ) → List (List ℕ) → List ℕ
places_of names own = map (λ name. number_of name names) own
