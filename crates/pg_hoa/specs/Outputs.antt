-- Automata whose outputs are named apart from their text.
use Rattle.std.specs.Prelude.{◌≡◌, ℕ, ◌==◌, ◌<◌, Bool, true, false, List, [], length, map, get_or, Contains, codes}
use Rattle.std.specs.List.{All, filter, list_any, range_with_len}
use Rattle.std.specs.Str.{bytes_eq}
use Rattle.pg_hoa_automaton.specs.Automata.{Automaton}
use Rattle.pg_hoa_syntax.specs.Headers.{has_header}
use Rattle.pg_hoa.specs.AutomatonText.{Spelt, IsRefused}
use Rattle.pg_hoa.specs.declared.outputs.OutputsFault.{OutputsFault}
use Rattle.pg_hoa.specs.declared.outputs.OutputsFault.TheVariants.{Text, Controlled, NoProposition}

-- the proposition of this number has one of the names
abbrev pub is_named : List (List ℕ) → Automaton → ℕ → Bool
is_named names a p = list_any (λ name. bytes_eq name (get_or a.propositions p [])) names

-- the numbers of the propositions that have one of the names
abbrev pub outputs : List (List ℕ) → Automaton → List ℕ
outputs names a = filter (is_named names a) (range_with_len 0 (length a.propositions))

-- the same automaton, except that the controller sets the propositions of these names and no others
abbrev pub with_outputs : List (List ℕ) → Automaton → Automaton
with_outputs names a =
    record a { controllable = map (λ p. list_any (λ n. n == p) (outputs names a)) (range_with_len 0 (length a.propositions)) }

-- The first text spells an automaton that has a proposition of each name, and has no header that says what the
-- controller sets. The second text spells the same automaton, except that the controller sets the propositions of these
-- names.
pub record HasOutputs (bytes : List ℕ) (names : List (List ℕ)) (text : List ℕ) : Type 0 where
  pub automaton : Automaton
  pub spelt : Spelt bytes automaton
  pub free : has_header (codes "controllable-AP") spelt.written ≡ false
  pub known : All (λ name. Contains automaton.propositions name) names
  pub given : Spelt text (with_outputs names automaton)

-- the name at this place is the first that isn't among the propositions
pub record IsFirstUnknown (propositions names : List (List ℕ)) (place : ℕ) : Type 0 where
  pub within : place < length names
  pub unknown : Contains propositions (get_or names place []) → ⊥
  pub first : (k : ℕ) → k < place → Contains propositions (get_or names k [])

-- the text spells an automaton, and has a header that says what the controller sets
pub record HasControls (bytes : List ℕ) : Type 0 where
  pub automaton : Automaton
  pub spelt : Spelt bytes automaton
  pub header : has_header (codes "controllable-AP") spelt.written ≡ true

-- the text spells an automaton and has no such header, and the name at this place is the first that no proposition has
pub record LacksOutput (bytes : List ℕ) (names : List (List ℕ)) (place : ℕ) : Type 0 where
  pub automaton : Automaton
  pub spelt : Spelt bytes automaton
  pub free : has_header (codes "controllable-AP") spelt.written ≡ false
  pub lacks : IsFirstUnknown automaton.propositions names place

-- Why there is no such second text. Memory may run out for any text.
abbrev pub RefusesOutputs : List ℕ → List (List ℕ) → OutputsFault → Type 0
RefusesOutputs bytes names (Text fault) = IsRefused bytes fault
RefusesOutputs bytes names Controlled = HasControls bytes
RefusesOutputs bytes names (NoProposition place) = LacksOutput bytes names place
