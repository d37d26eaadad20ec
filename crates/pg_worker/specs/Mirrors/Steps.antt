-- One step of serving.
use Rattle.std.specs.Prelude.{◌≡◌, ◌≢◌, ℕ, List, Option}
use Rattle.std.specs.Io.KnownBytes.{Consumes, Appends, IsAtEnd}
use Rattle.pg_wire.specs.declared.frame.Frame.{Frame}
use Rattle.pg_wire.specs.declared.frame.Frame.TheVariants as frames
use Rattle.pg_wire.specs.Spelling.{spelling}
use Rattle.pg_wire.specs.Bytes.{Spells}
use Rattle.pg_worker.specs.declared.served.Step.{Step}
use Rattle.pg_worker.specs.declared.served.Step.TheVariants as steps
use Rattle.pg_worker.specs.Turns.{SessionValue, Turn}

-- a well frame was read and answered
pub record Answers (f : Frame) (held held' : Option SessionValue) (input input' output output' : Option (List ℕ))
    : Type 0 where
  pub well : Spells f (spelling f)
  pub reply : List ℕ
  pub turn : Turn held f held' reply
  pub read : Consumes input input' (spelling f)
  pub written : Appends output output' reply

-- what a step did to the session's state, to the bytes that are left to read, and to the bytes that were written
abbrev pub IsStep : Step → Option SessionValue → Option SessionValue → Option (List ℕ) → Option (List ℕ)
    → Option (List ℕ) → Option (List ℕ) → Type 0
IsStep steps.Ended held held' input input' output output' = IsAtEnd input × (held' ≡ held) × (output' ≡ output)
IsStep steps.Halted held held' input input' output output' = Answers frames.Halt held held' input input' output output'
IsStep steps.Answered held held' input input' output output' =
    (f : Frame) × (f ≢ frames.Halt) × Answers f held held' input input' output output'
