-- The replies that are taken from links that tell them.
use Rattle.std.specs.Prelude.{◌≡◌, ◌≢◌, ℕ, ◌+◌, ◌-◌, ◌<◌, ◌≤◌}
use Rattle.std.specs.Prelude.{if◌then◌else◌, Bool, true, false, List, [], ◌∷◌, ◌++◌, map, length, Option, Some, Result, Ok, Err, IsErr, OnOk, slice_index_or}
use Rattle.std.specs.List.{flat_map}
use Rattle.pg_measure.specs.Measures.{MeasureValue}
use Rattle.pg_map.specs.Maps.{MapValue, MapAtMost}
use Rattle.pg_wire.specs.declared.frame.Values.{Values}
use Rattle.pg_wire.specs.declared.frame.Frame.{Frame}
use Rattle.pg_wire.specs.declared.frame.Frame.TheVariants as frames
use Rattle.pg_wire.specs.declared.kind.ValueKind.{ValueKind}
use Rattle.pg_wire.specs.declared.kind.ValueKind.TheVariants.{Dense, Sparse}
use Rattle.pg_wire.specs.Spelling.{spelling}
use Rattle.pg_wire.specs.Bytes.{Spells}
use Rattle.pg_wire.specs.Measured.{Measured, told_values}
use Rattle.pg_coord_partition.specs.Frames.{IsAtLeast, Joins}
use Rattle.pg_coord_partition.specs.declared.link.LinkFault.{LinkFault}
use Rattle.pg_coord_partition.specs.declared.link.LinkFault.TheVariants.{OutOfMemory, Failed}
use Rattle.pg_coord_rounds.specs.declared.link_state.LinkState.{LinkState}
use Rattle.pg_coord_partition.specs.Links.{refusal}
use Rattle.pg_coord_rounds.specs.Replies.{Ending, reported, spoiled, missing, Reply, AreReplies, spelled_ending, spelled_replies, received}
use Rattle.pg_coord_rounds.specs.Mirrors.Tasks.{TaskValue, IsClosedMap}

-- ---- one call

-- a call isn't Failed, and the link tells these frames after it
abbrev pub TellsAfter : {T : Type 0} → List (List ℕ) → Option (List (List ℕ)) → Result T LinkFault → Type 0
TellsAfter left new r = (r ≢ Err Failed) × OnOk r (new ≡ Some left)

-- a call isn't Failed, the link tells these frames after it, and values go dense from then on
abbrev pub TellsDense : {T : Type 0} → List (List ℕ) → Option (List (List ℕ)) → ValueKind → Result T LinkFault → Type 0
TellsDense left new kind r = (r ≢ Err Failed) × OnOk r ((new ≡ Some left) × (kind ≡ Dense))

-- a call isn't Failed but returns this, and the link tells these frames after it
abbrev pub AnswersAfter : {T : Type 0} → T → List (List ℕ) → Option (List (List ℕ)) → Result T LinkFault → Type 0
AnswersAfter x left new r = (r ≢ Err Failed) × OnOk r ((r ≡ Ok x) × (new ≡ Some left))

-- a call fails, and if it is Failed the link tells these frames after it
abbrev pub FailsAfter : {T : Type 0} → List (List ℕ) → Option (List (List ℕ)) → Result T LinkFault → Type 0
FailsAfter left new r = IsErr r × (r ≡ Err Failed → new ≡ Some left)

-- the report that accepts a set-up of version 2
abbrev pub acceptance : Frame
acceptance = frames.Report (record { status = 1; code = 0 })

-- the next frame of a link that tells its replies says of a set-up of version 2 that it is accepted, that it is refused, or
-- neither
pub record AnswersSetUp (next : List ℕ) (left : List (List ℕ)) (new : Option (List (List ℕ))) (r : Result Bool LinkFault) : Type 0 where
  pub accepted : Spells acceptance next → AnswersAfter true left new r
  pub refused : Spells refusal next → AnswersAfter false left new r
  pub neither : ¬ (Spells acceptance next) → ¬ (Spells refusal next) → FailsAfter left new r

-- the frames that the link will return once a set-up was sent
abbrev pub told_with : ValueKind → List (List ℕ) → List (List ℕ)
told_with Sparse left = spelling refusal ∷ left
told_with Dense left = left

-- ---- one reply

-- the measures in a reply
abbrev pub reply_measures : Reply → List Measured
reply_measures r = flat_map (λ v. told_values v.values) r.values

-- the frames that a link tells if it has a reply with these frames of values
abbrev pub told_reply : List Values → Ending → List (List ℕ) → List (List ℕ)
told_reply vs ending left = (map (λ v. spelling (frames.Values v)) vs ++ spelled_ending ending) ++ left

-- the result of receiving a reply, unless memory runs out
abbrev pub answer_to : Ending → Result (Unit {0}) LinkFault
answer_to (reported r) = Ok tt
answer_to (spoiled bytes) = Err Failed
answer_to missing = Err Failed

-- A reply was received, unless memory ran out: its measures are joined, and the link tells these frames after it.
abbrev pub ReceivesReply : Reply → List (List ℕ) → List MeasureValue → List MeasureValue → Option (List (List ℕ))
    → Result (Unit {0}) LinkFault → Type 0
ReceivesReply r left f g new result =
    result ≢ Err OutOfMemory → (result ≡ answer_to r.ending) × (new ≡ Some left) × Joins f (reply_measures r) g

-- ---- links and their states

-- the replies that are received, by the state of their link
abbrev pub received_by : LinkState → List Reply → List Reply
received_by state all = if state.in_use then received (3 - state.restarts) all else []

-- A link will still tell replies, and these of them are received. Values go dense.
pub record Tells (t : TaskValue) (worker : ℕ) (rs : List Reply) (state : LinkState) (told : Option (List (List ℕ))) : Type 0 where
  pub all : List Reply
  pub told_is : told ≡ Some (spelled_replies all)
  pub replies : AreReplies t.bounds t.cut worker all
  pub received_is : rs ≡ received_by state all
  pub kind : state.kind ≡ Dense

-- a link that failed was restarted if it had been restarted fewer than three times, and otherwise is no longer in use
pub record IsMended (restarts : ℕ) (state : LinkState) : Type 0 where
  pub again : restarts < 3 → (state.in_use ≡ true) × (state.restarts ≡ restarts + 1)
  pub given_up : 3 ≤ restarts → state.in_use ≡ false

-- a link in use was queried
abbrev pub IsQueried : LinkState → Type 0
IsQueried state = state.in_use ≡ true → state.queried ≡ true

-- replies of its own will still be received from each link
abbrev pub AllTell : {L : Type 0} → (L → Option (List (List ℕ))) → TaskValue → List LinkState → List L → (ℕ → List Reply) → Type 0
AllTell {L} told t states links replies =
    (k : ℕ) (d : L) (e : LinkState) → k < length links
    → Tells t (k + 1) (replies k) (slice_index_or states k e) (told (slice_index_or links k d))

-- each link in use was queried
abbrev pub AllQueried : {L : Type 0} → List LinkState → List L → Type 0
AllQueried {L} states links = (k : ℕ) (d : L) (e : LinkState) → k < length links → IsQueried (slice_index_or states k e)

-- g is at least each measure in the first `count` lists, and at most every closed map that is at least f and each of these
pub record IsRoundOver (t : TaskValue) (f : List MeasureValue) (count : ℕ) (measures : ℕ → List Measured) (g : List MeasureValue) : Type 0 where
  pub above : (k : ℕ) → k < count → IsAtLeast g (measures k)
  pub least : (h : MapValue) → IsClosedMap t h → MapAtMost f h.measures
      → ((k : ℕ) → k < count → IsAtLeast h.measures (measures k)) → MapAtMost g h.measures

-- g is the least map that is at least f and each measure in the first `count` lists
pub record JoinsEach (f : List MeasureValue) (count : ℕ) (measures : ℕ → List Measured) (g : List MeasureValue) : Type 0 where
  pub above : (k : ℕ) → k < count → IsAtLeast g (measures k)
  pub least : (h : List MeasureValue) → MapAtMost f h → ((k : ℕ) → k < count → IsAtLeast h (measures k)) → MapAtMost g h
