-- What `measure` prints.
use Rattle.std.specs.Prelude.{◌≡◌, ℕ, List, [], ◌∷◌, ◌++◌, length, Some, None, decimal}
use Rattle.std.specs.List.{flat_map, zip}
use Rattle.pg_arena.specs.Games.{GameVertex}
use Rattle.pg_measure.specs.Measures.{MeasureValue}
use Rattle.pg_measure.specs.Games.{IsBoundsOf}
use Rattle.pg_map.specs.Lines.{game_line}
use Rattle.pg_map.specs.Maps.{MapValue, IsMap, IsClosed, IsLeastProgressMeasure}
use Rattle.pg_text.specs.Numbers.{numbers_text}
use Rattle.pg_text.specs.GameText.{IsGameText}
use Rattle.pg_cli_command.specs.Texts.{IsNoGame}
use Rattle.pg_cli_command.specs.declared.fault.CliFault.{CliFault}
use Rattle.pg_cli_command.specs.declared.fault.CliFault.TheVariants.{Text}

-- `T` for top, `-` for the list without components, and otherwise the components separated by commas
abbrev pub measure_text : MeasureValue → List ℕ
measure_text None = 84 ∷ []
measure_text (Some []) = 45 ∷ []
measure_text (Some (n ∷ ns)) = numbers_text (n ∷ ns)

-- the identifier, a space, the measure, a semicolon and a newline
abbrev pub measure_line : ℕ → MeasureValue → List ℕ
measure_line identifier m = decimal identifier ++ 32 ∷ (measure_text m ++ 59 ∷ 10 ∷ [])

-- a line for each vertex, in rising order of identifiers
abbrev pub measures_text : List GameVertex → List MeasureValue → List ℕ
measures_text game f = flat_map (λ x. measure_line x.0.identifier x.1) (zip game f)

-- the map is closed for the game, over the game's bounds
pub record IsClosedMapOf (game : List GameVertex) (map : MapValue) : Type 0 where
  pub bounds : IsBoundsOf game map.bounds
  pub fits : IsMap map.bounds (length game) map.measures
  pub closed : IsClosed map.bounds (game_line game) map.measures

-- the map is the least progress measure of the game, over the game's bounds
pub record IsMeasureOf (game : List GameVertex) (map : MapValue) : Type 0 where
  pub bounds : IsBoundsOf game map.bounds
  pub least : IsLeastProgressMeasure map.bounds (length game) (game_line game) map.measures

-- a kind of maps of a game: only the least progress measure, or every closed map
abbrev pub MapKind : Type 1
MapKind = List GameVertex → MapValue → Type 0

-- The input spells a game, and the output is the text of a map of the game of this kind.
pub record IsMeasured (Kind : MapKind) (input output : List ℕ) : Type 0 where
  pub game : List GameVertex
  pub spelt : IsGameText input game
  pub map : MapValue
  pub found : Kind game map
  pub printed : output ≡ measures_text game map.measures

-- why an input has no such output: it spells no game
abbrev pub RefusesMeasure : List ℕ → CliFault → Type 0
RefusesMeasure input (Text fault) = IsNoGame input fault
RefusesMeasure input _ = ⊥
