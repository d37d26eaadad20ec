-- What `replay` prints.
use Rattle.std.specs.Prelude.{◌≡◌, ◌≢◌, ℕ, ◌+◌, ◌≤◌, List, [], ◌∷◌, ◌++◌, length, slice_index_or, codes, decimal}
use Rattle.std.specs.List.{flat_map, enumerate_from}
use Rattle.pg_arena.specs.Games.{GameVertex, identifier}
use Rattle.pg_measure.specs.Measures.{MeasureValue}
use Rattle.pg_measure.specs.Games.{IsBoundsOf}
use Rattle.pg_text.specs.Numbers.{numbers_text}
use Rattle.pg_text.specs.GameText.{IsGameText}
use Rattle.pg_coord_partition.specs.Cuts.{CutValue}
use Rattle.pg_world.specs.Updates.{UpdateValue}
use Rattle.pg_world.specs.Worlds.{WorldValue, new_world, taken_of, IsMapOf, Runs, StopsAt}
use Rattle.pg_world.specs.ScriptText.{IsScriptText}
use Rattle.pg_world.specs.declared.event.Event.{Event}
use Rattle.pg_world.specs.declared.fault.WorldFault.{WorldFault}
use Rattle.pg_world.specs.declared.fault.WorldFault.TheVariants as world_fault
use Rattle.pg_world.specs.declared.script_fault.ScriptFault.{ScriptFault}
use Rattle.pg_world.specs.declared.script_fault.ScriptFault.TheVariants as script_fault
use Rattle.pg_cli_command.specs.Parts.{Parting}
use Rattle.pg_cli_command.specs.Texts.{FailsFirst, FailsSecond}
use Rattle.pg_cli_command.specs.Measuring.{measure_line, measures_text}
use Rattle.pg_cli_command.specs.declared.fault.CliFault.{CliFault}
use Rattle.pg_cli_command.specs.declared.fault.CliFault.TheVariants.{Text, NoSeparator, Script, World}

-- `update`, its number, and the line of its vertex: the identifier and the measure to which it rose
abbrev pub update_line : List GameVertex → ℕ → UpdateValue → List ℕ
update_line game n u = codes "update " ++ (decimal n ++ 32 ∷ measure_line (identifier game u.vertex) u.measure)

-- the numbers of updates, separated by commas, or `-` if there are none
abbrev pub taken_text : List ℕ → List ℕ
taken_text [] = 45 ∷ []
taken_text (n ∷ ns) = numbers_text (n ∷ ns)

-- `replica`, its number, `taken` and the updates that it took; and then the lines of its map
abbrev pub replica_text : WorldValue → ℕ → List MeasureValue → List ℕ
replica_text w r f = codes "replica " ++ (decimal r ++ (codes " taken " ++ (taken_text (taken_of w r) ++ 59 ∷ 10 ∷
    measures_text w.game f)))

-- the updates, and then the replicas from 0 on
abbrev pub world_text : WorldValue → List (List MeasureValue) → List ℕ
world_text w maps =
    flat_map (λ x. update_line w.game x.0 x.1) (enumerate_from 0 w.updates)
    ++ flat_map (λ x. replica_text w x.0 x.1) (enumerate_from 0 maps)

-- the maps of the replicas, from 0 on
pub record AreMapsOf (w : WorldValue) (maps : List (List MeasureValue)) : Type 0 where
  pub count : length maps ≡ 1 + w.cut.workers
  pub each : (r : ℕ) → r ≤ w.cut.workers → IsMapOf w r (slice_index_or maps r [])

-- Two texts, one of a game and one of a script for the game: the events of the script, and the world of the game and of the script's cut in
-- which nothing has happened yet.
pub record IsScripted (Parts : Parting) (start : WorldValue) (events : List Event) : Type 0 where
  pub first : List ℕ
  pub second : List ℕ
  pub parted : Parts first second
  pub spelt : IsGameText first start.game
  pub script : IsScriptText second start.game start.cut events
  pub bounds : IsBoundsOf start.game start.bounds
  pub new : start ≡ new_world start.game start.bounds start.cut

-- None of the events is refused, and this is the world after them.
pub record IsReplayedBy (Parts : Parting) (w : WorldValue) : Type 0 where
  pub start : WorldValue
  pub events : List Event
  pub scripted : IsScripted Parts start events
  pub runs : Runs start events w

-- The output is the text of that world and of its replicas' maps.
pub record IsReplayed (Parts : Parting) (output : List ℕ) : Type 0 where
  pub after : WorldValue
  pub replayed : IsReplayedBy Parts after
  pub maps : List (List MeasureValue)
  pub are : AreMapsOf after maps
  pub printed : output ≡ world_text after maps

-- The event at this place is the first that is refused, and the fault is the reason.
pub record IsStopped (Parts : Parting) (place : ℕ) (fault : WorldFault) : Type 0 where
  pub start : WorldValue
  pub events : List Event
  pub scripted : IsScripted Parts start events
  pub before : WorldValue
  pub stops : StopsAt start events place fault before
  pub reason : fault ≢ world_fault.OutOfMemory

-- the text spells no script for the game
abbrev pub IsNoScript : List ℕ → List GameVertex → ScriptFault → Type 0
IsNoScript text game script_fault.OutOfMemory = ⊥
IsNoScript text game fault = (cut : CutValue) (events : List Event) → ¬ IsScriptText text game cut events

-- why there is no such output: there aren't two texts, or the first text fails, or the second one does, or an event is refused
abbrev pub RefusesReplay : Parting → CliFault → Type 0
RefusesReplay Parts NoSeparator = (first second : List ℕ) → ¬ Parts first second
RefusesReplay Parts (Text fault) = FailsFirst Parts fault
RefusesReplay Parts (Script fault) = FailsSecond Parts (λ text game. IsNoScript text game fault)
RefusesReplay Parts (World place fault) = IsStopped Parts place fault
RefusesReplay Parts _ = ⊥
