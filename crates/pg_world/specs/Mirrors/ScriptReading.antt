-- Facts that hold while a script is read: helpers of proofs.
use Rattle.std.specs.Prelude.{◌≡◌, ◌≢◌, ℕ, ◌≤◌, List, [], All, Option}
use Rattle.pg_arena.specs.Games.{GameVertex, identifier}
use Rattle.pg_text.specs.Lexemes.{Spells}
use Rattle.pg_coord_partition.specs.Cuts.{CutValue}
use Rattle.pg_world.specs.declared.event.Event.{Event}
use Rattle.pg_world.specs.declared.event.Event.TheVariants as event
use Rattle.pg_world.specs.declared.script_line.ScriptLine.{ScriptLine}
use Rattle.pg_world.specs.declared.script_line.ScriptLine.TheVariants.{Lift, Deliver, Restart, Central}
use Rattle.pg_world.specs.declared.script_fault.ScriptFault.{ScriptFault}
use Rattle.pg_world.specs.declared.script_fault.ScriptFault.TheVariants.{OutOfMemory}
use Rattle.pg_world.specs.declared.script.TheConstants.{MAX_WORKERS}
use Rattle.pg_world.specs.Worlds.{IsEventOf}
use Rattle.pg_world.specs.ScriptText.{head_lexemes, events_lexemes, IsCutOf, IsScriptText}

-- the line of an event
abbrev pub line_of : List GameVertex → Event → ScriptLine
line_of game (event.Lift worker v) = Lift worker (identifier game v)
line_of game (event.Deliver replica n) = Deliver replica n
line_of game (event.Restart worker) = Restart worker
line_of game (event.CoordinatorLift v) = Central (identifier game v)

-- the event is the one of the line
pub record IsEventAt (game : List GameVertex) (line : ScriptLine) (e : Event) : Type 0 where
  pub vertex : IsEventOf game e
  pub same : line_of game e ≡ line

-- the bytes spell these events, up to the end of the text
pub record AreEvents (bytes : List ℕ) (game : List GameVertex) (events : List Event) : Type 0 where
  pub spelt : Spells bytes (events_lexemes game events) []
  pub vertices : All (IsEventOf game) events

-- the bytes begin with the lines before the events, which give the cut; the rest follows
pub record IsHead (bytes : List ℕ) (game : List GameVertex) (cut : CutValue) (rest : List ℕ) : Type 0 where
  pub numbers : Option (List ℕ)
  pub spelt : Spells bytes (head_lexemes cut.workers numbers) rest
  pub few : cut.workers ≤ MAX_WORKERS
  pub cut_is : IsCutOf game numbers cut

-- In each script that the bytes spell, the cut is this one, and the rest has the events.
abbrev pub IsOnlyHead : List ℕ → List GameVertex → CutValue → List ℕ → Type 0
IsOnlyHead bytes game cut rest = (other : CutValue) (events : List Event) → IsScriptText bytes game other events
    → (other ≡ cut) × AreEvents rest game events

-- memory ran out, or no script is spelt
abbrev pub IsNoScript : List ℕ → List GameVertex → ScriptFault → Type 0
IsNoScript bytes game fault = fault ≢ OutOfMemory
    → (cut : CutValue) (events : List Event) → ¬ IsScriptText bytes game cut events

-- memory ran out, or the bytes spell no events
abbrev pub AreNoEvents : List ℕ → List GameVertex → ScriptFault → Type 0
AreNoEvents bytes game fault = fault ≢ OutOfMemory → (events : List Event) → ¬ AreEvents bytes game events
