-- Facts about the links and their states.
use Rattle.std.specs.Prelude.{◌≡◌, ℕ, ◌<◌, true, List, length, slice_index_or}
use Rattle.pg_map.specs.Maps.{MapValue, MapAtMost}
use Rattle.pg_coord_rounds.specs.declared.link_state.LinkState.{LinkState}
use Rattle.pg_coord_rounds.specs.Mirrors.Tasks.{TaskValue, IsClosedMap}

-- a link in use is under every closed map that is at least the coordinator's
abbrev pub IsInStep : {L : Type 0} → (L → MapValue → Type 0) → TaskValue → MapValue → LinkState → L → Type 0
IsInStep under t map state link =
    state.in_use ≡ true → (h : MapValue) → IsClosedMap t h → MapAtMost map.measures h.measures → under link h

-- each link in use is under every closed map that is at least the coordinator's
abbrev pub AllInStep : {L : Type 0} → (L → MapValue → Type 0) → TaskValue → MapValue → List LinkState → List L → Type 0
AllInStep {L} under t map states links =
    (k : ℕ) (d : L) (e : LinkState) → k < length links → IsInStep under t map (slice_index_or states k e) (slice_index_or links k d)
