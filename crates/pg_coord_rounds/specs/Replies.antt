-- Solving over links that tell their replies.
use Rattle.std.specs.Prelude.{◌≡◌, ◌≢◌, ℕ, ◌+◌, ◌-◌, ◌^◌, min, ◌<◌, ◌⊎◌}
use Rattle.std.specs.Prelude.{◌==◌, if◌then◌else◌, Bool, true, false, List, [], ◌∷◌}
use Rattle.std.specs.Prelude.{◌++◌, length, map, take, All, Option, Some, slice_index_or}
use Rattle.std.specs.List.{flat_map}
use Rattle.pg_measure.specs.Measures.{BoundList, MeasureValue}
use Rattle.pg_map.specs.Lines.{Line}
use Rattle.pg_map.specs.Maps.{MapValue, MapAtMost, IsMap, IsClosed}
use Rattle.pg_wire.specs.declared.frame.Values.{Values}
use Rattle.pg_wire.specs.declared.frame.Report.{Report}
use Rattle.pg_wire.specs.declared.frame.Frame.TheVariants as frames
use Rattle.pg_wire.specs.declared.kind.ValueKind.TheVariants.{Dense}
use Rattle.pg_wire.specs.Spelling.{spelling}
use Rattle.pg_wire.specs.Bytes.{Spells}
use Rattle.pg_wire.specs.Measured.{Measured, told_values}
use Rattle.pg_coord_partition.specs.Cuts.{CutValue}
use Rattle.pg_coord_partition.specs.Frames.{IsAtLeast}
use Rattle.pg_coord_rounds.specs.PartMeasures.{AreOfPart}

-- ---- replies

-- the end of a reply: a report, a frame that is a failure of its link, or no frame
pub data Ending : Type 0 where
  reported : Report → Ending
  spoiled : List ℕ → Ending
  missing : Ending

-- a reply to a Go under version 1: frames of values, and its end
pub record Reply : Type 0 where
  pub values : List Values
  pub ending : Ending

-- the frame that ends a reply, as the bytes that a link returns
abbrev pub spelled_ending : Ending → List (List ℕ)
spelled_ending (reported r) = spelling (frames.Report r) ∷ []
spelled_ending (spoiled bytes) = bytes ∷ []
spelled_ending missing = []

-- the frames of a reply
abbrev pub spelled_reply : Reply → List (List ℕ)
spelled_reply r = map (λ v. spelling (frames.Values v)) r.values ++ spelled_ending r.ending

abbrev pub spelled_replies : List Reply → List (List ℕ)
spelled_replies rs = flat_map spelled_reply rs

-- the measures in replies; a frame that is a failure of its link gives none
abbrev pub measures_of : List Reply → List Measured
measures_of rs = flat_map (λ r. flat_map (λ v. told_values v.values) r.values) rs

-- a frame that is a failure of its link: it is neither values of the worker's part nor a report other than a refusal
pub record FailsLink (bounds : BoundList) (cut : CutValue) (worker : ℕ) (bytes : List ℕ) : Type 0 where
  pub values : (v : Values) → Spells (frames.Values v) bytes → ¬ (AreOfPart Dense bounds cut worker Dense v.width (told_values v.values))
  pub report : (r : Report) → Spells (frames.Report r) bytes → r.status ≡ 2

-- How a reply may end, after `count` frames of values and before these frames of the link. A reply has at most 65,536
-- frames; no frame ends it if it has that many frames of values, or if the link has no more frames to tell.
abbrev pub EndsSo : BoundList → CutValue → ℕ → ℕ → List (List ℕ) → Ending → Type 0
EndsSo bounds cut worker count behind (reported r) = (count < 65536) × Spells (frames.Report r) (spelling (frames.Report r))
    × (r.status ≢ 2)
EndsSo bounds cut worker count behind (spoiled bytes) = (count < 65536) × FailsLink bounds cut worker bytes
EndsSo bounds cut worker count behind missing = (count ≡ 65536) ⊎ ((count < 65536) × (behind ≡ []))

-- a reply, before these frames of the link: its values have a spelling, and belong to the worker's part
pub record IsReply (bounds : BoundList) (cut : CutValue) (worker : ℕ) (r : Reply) (behind : List (List ℕ)) : Type 0 where
  pub spelled : All (λ v. Spells (frames.Values v) (spelling (frames.Values v))) r.values
  pub values : All (λ v. AreOfPart Dense bounds cut worker Dense v.width (told_values v.values)) r.values
  pub ends : EndsSo bounds cut worker (length r.values) behind r.ending

-- replies, one after another
abbrev pub AreReplies : BoundList → CutValue → ℕ → List Reply → Type 0
AreReplies bounds cut worker [] = Unit {0}
AreReplies bounds cut worker (r ∷ rs) = IsReply bounds cut worker r (spelled_replies rs) × AreReplies bounds cut worker rs

-- ---- which replies are received

-- a reply that doesn't end with a report is a failure
abbrev pub is_failure : Ending → Bool
is_failure (reported r) = false
is_failure (spoiled bytes) = true
is_failure missing = true

-- the replies that are received from a link that may be restarted `restarts` times: all of them, or all up to the failure
-- after the last restart
abbrev pub received : ℕ → List Reply → List Reply
received restarts [] = []
received restarts (r ∷ rs) =
    r ∷ (if is_failure r.ending then (if restarts == 0 then [] else received (restarts - 1) rs) else received restarts rs)

-- ---- the result over links that tell such replies

-- link k tells the k-th list of replies; worker k + 1 is behind it
abbrev pub TellReplies : {L : Type 0} → (L → Option (List (List ℕ))) → BoundList → CutValue → List L → (ℕ → List Reply) → Type 0
TellReplies {L} told bounds cut links replies =
    (k : ℕ) (d : L) → k < length links
    → (told (slice_index_or links k d) ≡ Some (spelled_replies (replies k))) × AreReplies bounds cut (k + 1) (replies k)

-- The map after `rounds` rounds, whose count stops at 18,446,744,073,709,551,615. Each round took one reply from each of
-- `links` links, as long as the link had one left and had failed at most three times. The map is the least closed map that
-- is at least every measure in these replies.
pub record IsLeastOverReplies (lines : ℕ → Option Line) (rounds links : ℕ) (replies : ℕ → List Reply) (map : MapValue) : Type 0 where
  pub made : ℕ
  pub counted : rounds ≡ min made (2 ^ 64 - 1)
  pub closed : IsClosed map.bounds lines map.measures
  pub above : (k : ℕ) → k < links → IsAtLeast map.measures (measures_of (take made (received 3 (replies k))))
  pub least : (h : List MeasureValue) → IsMap map.bounds (length map.measures) h → IsClosed map.bounds lines h
      → ((k : ℕ) → k < links → IsAtLeast h (measures_of (take made (received 3 (replies k))))) → MapAtMost map.measures h
