-- Laws of worlds and scripts, stated by the definitions alone.
use Rattle.std.specs.Prelude.{◌≡◌, ℕ, ◌≤◌, List, All, Contains}
use Rattle.pg_arena.specs.Games.{GameVertex, IsGame}
use Rattle.pg_measure.specs.Measures.{BoundList, MeasureValue}
use Rattle.pg_measure.specs.Games.{IsBoundsOf}
use Rattle.pg_map.specs.Lines.{game_line}
use Rattle.pg_map.specs.Maps.{IsNeverAbove}
use Rattle.pg_coord_partition.specs.Cuts.{CutValue}
use Rattle.pg_world.specs.Updates.{UpdateValue, update_at, IsJoinOf}
use Rattle.pg_world.specs.Worlds.{WorldValue, new_world, IsMapOf, IsEventOf, Runs}
use Rattle.pg_world.specs.ScriptText.{IsScriptText}
use Rattle.pg_world.specs.declared.event.Event.{Event}

-- each update that is taken here is taken there, if perhaps under another number
abbrev pub AreTakenToo : BoundList → List UpdateValue → List ℕ → List UpdateValue → List ℕ → Type 0
AreTakenToo bounds updates numbers updates' numbers' =
    (n : ℕ) → Contains numbers n → (m : ℕ) × Contains numbers' m × (update_at bounds updates' m ≡ update_at bounds updates n)

-- If the same updates are taken, the maps are equal, whatever the order, the repeats and the lists of updates.
abbrev pub SameTaken : Type 0
SameTaken =
    (bounds : BoundList) (count : ℕ) (updates updates' : List UpdateValue) (numbers numbers' : List ℕ) (f g : List MeasureValue)
    → AreTakenToo bounds updates numbers updates' numbers' → AreTakenToo bounds updates' numbers' updates numbers
    → IsJoinOf bounds count updates numbers f → IsJoinOf bounds count updates' numbers' g → f ≡ g

-- After any list of events, each replica has a map, the join of the updates that it took, and that map is never above the
-- least progress measure.
abbrev pub NeverAbove : Type 0
NeverAbove =
    (game : List GameVertex) (bounds : BoundList) (cut : CutValue) (events : List Event) (w : WorldValue) (r : ℕ)
    → IsGame game → IsBoundsOf game bounds → All (IsEventOf game) events → r ≤ cut.workers
    → Runs (new_world game bounds cut) events w
    → (f : List MeasureValue) × IsMapOf w r f × IsNeverAbove bounds (game_line game) f

-- For a given game, a text spells at most one script.
abbrev pub SpellsOneScript : Type 0
SpellsOneScript = (bytes : List ℕ) (game : List GameVertex) (cut other : CutValue) (events others : List Event)
    → IsGame game → IsScriptText bytes game cut events → IsScriptText bytes game other others
    → (other ≡ cut) × (others ≡ events)
