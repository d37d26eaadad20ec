-- Links to workers: the maps that a link is under, and the replies that it tells in advance.
use Rattle.std.specs.Prelude.{◌≡◌, ◌≢◌, ℕ, ◌^◌, ◌-◌, ◌<◌, ◌⊎◌, ◌==◌, if◌then◌else◌, List, [], ◌∷◌, Option, Result, None, Some, Err, OnOk, All}
use Rattle.pg_map.specs.Maps.{MapValue, IsMap}
use Rattle.pg_wire.specs.declared.frame.Frame.{Frame}
use Rattle.pg_wire.specs.declared.frame.Frame.TheVariants as frames
use Rattle.pg_wire.specs.Spelling.{spelling}
use Rattle.pg_wire.specs.Measured.{told_values, told_sparse}
use Rattle.pg_coord_partition.specs.Frames.{IsAtLeast, IsClosedAt}
use Rattle.pg_coord_partition.specs.declared.link.LinkFault.{LinkFault}
use Rattle.pg_coord_partition.specs.declared.link.LinkFault.TheVariants.{Failed}

-- ---- frames that are sent, and the maps that a link is under

-- Whether a link is under a map once a frame was sent, given whether it was before. A set-up puts it under every map over
-- the set-up's bounds and vertices. Of the maps that it was under, vertices leave those that are closed at them, and values
-- leave those that are at least the values.
abbrev pub IsUnderAfter : Frame → MapValue → Type 0 → Type 0
IsUnderAfter (frames.Setup s) h before = (h.bounds ≡ s.bounds) × IsMap s.bounds s.vertices h.measures
IsUnderAfter (frames.Vertices v) h before = before × All (IsClosedAt h) v.lines
IsUnderAfter (frames.Values v) h before = before × IsAtLeast h.measures (told_values v.values)
IsUnderAfter (frames.Sparse s) h before = before × IsAtLeast h.measures (told_sparse s.width s.values)
IsUnderAfter (frames.Go g) h before = before
IsUnderAfter (frames.Report r) h before = ⊥
IsUnderAfter frames.Halt h before = ⊥

-- ---- failures

-- a call that is Failed was counted, or the count is at its greatest value
abbrev pub CountsFailure : ℕ → ℕ → Result (Unit {0}) LinkFault → Type 0
CountsFailure old new r = r ≡ Err Failed → (old < new) ⊎ (new ≡ 2 ^ 64 - 1)

-- ---- links that tell the frames that they will still return; a link that tells none is bound to nothing here

-- the report that refuses a set-up of version 2
abbrev pub refusal : Frame
refusal = frames.Report (record { status = 2; code = 18 })

-- the frames that a link will return once a frame was sent: a set-up of version 2 is refused before everything else
abbrev pub told_after : Frame → List (List ℕ) → List (List ℕ)
told_after (frames.Setup s) left = if s.version == 2 then spelling refusal ∷ left else left
told_after (frames.Vertices v) left = left
told_after (frames.Values v) left = left
told_after (frames.Sparse s) left = left
told_after (frames.Go g) left = left
told_after (frames.Report r) left = left
told_after frames.Halt left = left

-- a send is never Failed, and takes nothing away
abbrev pub SendsTold : Frame → Option (List (List ℕ)) → Option (List (List ℕ)) → Result (Unit {0}) LinkFault → Type 0
SendsTold f None new r = Unit {0}
SendsTold f (Some left) new r = (r ≢ Err Failed) × OnOk r (new ≡ Some (told_after f left))

-- a restart is never Failed, and takes nothing away
abbrev pub RestartsTold : Option (List (List ℕ)) → Option (List (List ℕ)) → Result (Unit {0}) LinkFault → Type 0
RestartsTold None new r = Unit {0}
RestartsTold (Some left) new r = (r ≢ Err Failed) × OnOk r (new ≡ Some left)

-- a receive returns the next frame; past the last one it is Failed
abbrev pub HandsOver : Option (List (List ℕ)) → Option (List (List ℕ)) → Result (Unit {0}) LinkFault → List ℕ → Type 0
HandsOver None new r bytes = Unit {0}
HandsOver (Some []) new r bytes = (r ≡ Err Failed) × (new ≡ Some [])
HandsOver (Some (next ∷ left)) new r bytes = (r ≢ Err Failed) × OnOk r ((bytes ≡ next) × (new ≡ Some left))
