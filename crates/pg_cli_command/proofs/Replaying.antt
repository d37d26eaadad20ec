-- What a script makes of a game, and why a text or an event is refused.
use Rattle.pg_cli_command.proofs.Common.{◌≡◌, ◌≢◌, ℕ, List, refl, sym, subst, GameVertex, MeasureValue, IsBoundsOf, IsGameText, CutValue}
use Rattle.pg_cli_command.proofs.Common.{IsScriptText, WorldValue, new_world, Runs, StopsAt, NeverAbove, Event, WorldFault, ScriptFault}
use Rattle.pg_cli_command.proofs.Common.{Parting, AreMapsOf, IsScripted, IsReplayed, IsNoScript, RefusesReplay, world_text, Fails}
use Rattle.pg_cli_command.proofs.Common.{script_fault, event_fault, CliFault}
use Rattle.pg_world.specs.declared.fault.WorldFault.TheVariants as world
use Rattle.pg_world.specs.declared.script_fault.ScriptFault.TheVariants as script
use Rattle.pg_cli_command.specs.declared.fault.CliFault.TheVariants as cli
use Rattle.pg_cli_command.proofs.Ran.{maps_of}

-- memory aside, the reader of scripts refuses what spells none
pub no_script : (text : List ℕ) (game : List GameVertex) (fault : ScriptFault) → fault ≢ script.OutOfMemory
    → ((cut : CutValue) (events : List Event) → IsScriptText text game cut events → fault ≡ script.OutOfMemory) → IsNoScript text game fault
no_script text game script.OutOfMemory memory only = memory refl
no_script text game _ memory only = λ cut events spelt. memory (only cut events spelt)

-- What is so of want of memory, and of what a script says, is so of each fault of its reader.
pub script_told : (P : CliFault → Type 0) (fault : ScriptFault) → P cli.OutOfMemory → (fault ≢ script.OutOfMemory → P (cli.Script fault))
    → P (script_fault fault)
script_told P script.OutOfMemory memory said = memory
script_told P _ memory said = said (λ e. (cc))

-- and so it is of each fault of a world
pub event_told : (P : CliFault → Type 0) (place : ℕ) (fault : WorldFault) → P cli.OutOfMemory → (fault ≢ world.OutOfMemory → P (cli.World place fault))
    → P (event_fault place fault)
event_told P place world.OutOfMemory memory said = memory
event_told P place _ memory said = said (λ e. (cc))

-- a game and a script for it in two texts
abbrev pub AreTexts : Parting → List GameVertex → CutValue → List Event → Type 0
AreTexts Parts game cut events =
    (first : List ℕ) × (second : List ℕ) × Parts first second × IsGameText first game × IsScriptText second game cut events

-- the new world of a game and a cut
abbrev pub IsNew : List GameVertex → CutValue → WorldValue → Type 0
IsNew game cut w = IsBoundsOf game w.bounds × (w ≡ new_world game w.bounds cut)

scripted_by : (Parts : Parting) (game : List GameVertex) (cut : CutValue) (events : List Event) (w : WorldValue)
    → AreTexts Parts game cut events → IsNew game cut w → IsScripted Parts w events
scripted_by Parts game cut events w t n = subst (λ (x : WorldValue). IsScripted Parts x events) (sym n.1) (record {
  first = t.0;
  second = t.1;
  parted = t.2;
  spelt = t.3;
  script = t.4;
  bounds = n.0;
  new = refl;
})

runs_from_new : (game : List GameVertex) (cut : CutValue) (events : List Event) (w new : WorldValue) → IsNew game cut w → Runs w events new
    → Runs (new_world game w.bounds cut) events new
runs_from_new game cut events w new n runs = subst (λ (x : WorldValue). Runs x events new) n.1 runs

-- an event that is refused, memory aside, is the first
pub refuses_event : (Parts : Parting) (game : List GameVertex) (cut : CutValue) (events : List Event) (w new : WorldValue) (place : ℕ) (fault : WorldFault)
    → AreTexts Parts game cut events → IsNew game cut w → StopsAt w events place fault new → Fails (RefusesReplay Parts) (event_fault place fault)
refuses_event Parts game cut events w new place fault t n stops =
    event_told (Fails (RefusesReplay Parts)) place fault tt (λ memory. record {
      start = w;
      events = events;
      scripted = scripted_by Parts game cut events w t n;
      before = new;
      stops = stops;
      reason = memory;
    })

pub shows_world : NeverAbove → (Parts : Parting) (game : List GameVertex) (cut : CutValue) (events : List Event) (w new : WorldValue)
    → AreTexts Parts game cut events → IsNew game cut w → Runs w events new
    → (output : List ℕ) × ((maps : List (List MeasureValue)) × AreMapsOf new maps × (output ≡ world_text new maps)) × IsReplayed Parts output
shows_world never Parts game cut events w new t n runs =
    let maps = maps_of never game w.bounds cut events new t.3.game_of.well n.0 t.4.vertices (runs_from_new game cut events w new n runs) in (
      world_text new maps.0,
      (maps.0, maps.1, refl),
      record {
        after = new;
        replayed = record { start = w; events = events; scripted = scripted_by Parts game cut events w t n; runs = runs };
        maps = maps.0;
        are = maps.1;
        printed = refl;
      },
    )
