-- Serving: the frames that were read, the replies to them, and how it ended.
use Rattle.std.specs.Prelude.{◌≡◌, ◌≢◌, ℕ, ◌<◌, ◌⊎◌, List, [], ◌∷◌, ◌++◌, length, All, Option, None, Err, IfSome}
use Rattle.std.specs.List.{flat_map}
use Rattle.std.specs.Io.KnownBytes.{Consumes, Appends, IsAtEnd}
use Rattle.pg_wire.specs.declared.fault.WireFault.{WireFault}
use Rattle.pg_wire.specs.declared.fault.WireFault.TheVariants as wire
use Rattle.pg_wire.specs.declared.frame.Frame.{Frame}
use Rattle.pg_wire.specs.declared.frame.Frame.TheVariants as frames
use Rattle.pg_wire.specs.Spelling.{spelling}
use Rattle.pg_wire.specs.Bytes.{Spells, IsReadFrom}
use Rattle.pg_worker.specs.declared.fault.WorkerFault.{WorkerFault}
use Rattle.pg_worker.specs.declared.fault.WorkerFault.TheVariants.{OutOfMemory, Wire}
use Rattle.pg_worker.specs.declared.served.Served.{Served}
use Rattle.pg_worker.specs.declared.served.Served.TheVariants.{Halted, InputEnded, Bound}
use Rattle.pg_worker.specs.Faults.{code_of}
use Rattle.pg_worker.specs.Turns.{SessionValue, Turn, Refuses, IsOfBytes, report}

-- the replies to some frames, one turn after another
abbrev pub Replies : Option SessionValue → List Frame → Option SessionValue → List ℕ → Type 0
Replies before [] after bytes = (after ≡ before) × (bytes ≡ [])
Replies before (f ∷ fs) after bytes =
    (held : Option SessionValue) × (reply : List ℕ) × (rest : List ℕ)
    × Turn before f held reply × Replies held fs after rest × (bytes ≡ reply ++ rest)

-- from a new session on, these frames, each a well one, were read and the replies to them were written
pub record Exchanges (input input' output output' : Option (List ℕ)) (fs : List Frame) (held : Option SessionValue)
    : Type 0 where
  pub bytes : List ℕ
  pub well : All (λ f. Spells f (spelling f)) fs
  pub replies : Replies None fs held bytes
  pub read : Consumes input input' (flat_map spelling fs)
  pub written : Appends output output' bytes

-- after these frames serving ended: with Halt, because the input ended, or with the last frame that can be counted
abbrev pub EndsAfter : Served → List Frame → Option (List ℕ) → Type 0
EndsAfter (Halted n) fs left =
    (n ≡ length fs) × (front : List Frame) × (fs ≡ front ++ frames.Halt ∷ []) × All (λ f. f ≢ frames.Halt) front
EndsAfter (InputEnded n) fs left = (n ≡ length fs) × All (λ f. f ≢ frames.Halt) fs × IsAtEnd left
EndsAfter Bound fs left = (length fs ≡ 4294967295) × All (λ f. f ≢ frames.Halt) fs

-- if the input ended, reading on may have changed the reader
abbrev pub IsLeft : Served → Option (List ℕ) → Option (List ℕ) → Type 0
IsLeft (InputEnded n) left input' = Unit {0}
IsLeft served left input' = left ≡ input'

pub record Serves (served : Served) (input input' output output' : Option (List ℕ)) : Type 0 where
  pub fs : List Frame
  pub held : Option SessionValue
  pub left : Option (List ℕ)
  pub exchanges : Exchanges input left output output' fs held
  pub ends : EndsAfter served fs left
  pub left_is : IsLeft served left input'

-- the bytes of the report of a fault; none if the input or the output failed or was cut short
abbrev pub report_bytes : WorkerFault → List ℕ
report_bytes (Wire wire.Read) = []
report_bytes (Wire wire.Write) = []
report_bytes (Wire wire.Truncated) = []
report_bytes e = report 2 (code_of e)

-- why no turn was done with the rest of the input: memory ran out, a read failed, the bytes are no frame, or a well frame
-- is refused
abbrev pub IsFaultAt : Option (List ℕ) → Option SessionValue → WorkerFault → Type 0
IsFaultAt left held e =
    (e ≡ OutOfMemory) ⊎ (e ≡ Wire wire.Read)
    ⊎ ((fault : WireFault) × (e ≡ Wire fault) × IsOfBytes fault × IfSome left (λ bytes. IsReadFrom bytes (Err fault)))
    ⊎ ((f : Frame) × (rest : Option (List ℕ)) × Spells f (spelling f) × Consumes left rest (spelling f)
    × Refuses 2 held f e)

-- the frames before the fault were answered, none of them Halt and fewer than can be counted, and the fault was reported
pub record Breaks (e : WorkerFault) (input output output' : Option (List ℕ)) : Type 0 where
  pub fs : List Frame
  pub held : Option SessionValue
  pub left : Option (List ℕ)
  pub before : Option (List ℕ)
  pub exchanges : Exchanges input left output before fs held
  pub going : All (λ f. f ≢ frames.Halt) fs
  pub few : length fs < 4294967295
  pub fault : IsFaultAt left held e
  pub told_is : Appends before output' (report_bytes e)
