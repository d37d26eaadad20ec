-- The frames that bytes spell.
use Rattle.std.specs.Prelude.{◌≡◌, ◌≢◌, ℕ, ◌+◌, ◌<◌, ◌≤◌, ◌⊎◌, ◌↔◌, List, [], ◌++◌, length, take, Option, Some, None, Result, Ok, Err}
use Rattle.std.specs.Int.{w32, from_be_bytes}
use Rattle.pg_wire.specs.declared.fault.WireFault.{WireFault}
use Rattle.pg_wire.specs.declared.fault.WireFault.TheVariants.{TooLong, Truncated}
use Rattle.pg_wire.specs.declared.frame.Frame.{Frame}
use Rattle.pg_wire.specs.Spelling.{body, spelling, longest}
use Rattle.pg_wire.specs.Well.{IsWell}

-- the bytes are the spelling of this frame, which is well
pub record Spells (f : Frame) (bytes : List ℕ) : Type 0 where
  pub well : IsWell f
  pub within : length (body f) ≤ longest
  pub spelled : bytes ≡ spelling f

-- the number that the first four bytes spell
abbrev pub length_field : List ℕ → ℕ
length_field bytes = from_be_bytes w32 (take 4 bytes)

-- the first four bytes spell a number over the limit
pub record IsTooLong (bytes : List ℕ) : Type 0 where
  pub whole : 4 ≤ length bytes
  pub over : longest < length_field bytes

-- the first four bytes spell a length in range, and fewer bytes follow
pub record IsCut (bytes : List ℕ) : Type 0 where
  pub some : 1 ≤ length_field bytes
  pub within : length_field bytes ≤ longest
  pub fewer : length bytes < 4 + length_field bytes

-- the bytes end within the length or within the bytes that it counts
abbrev pub IsTruncated : List ℕ → Type 0
IsTruncated bytes = (length bytes < 4) ⊎ IsCut bytes

-- the first four bytes spell a length in range, and exactly as many bytes follow
pub record IsWhole (bytes : List ℕ) : Type 0 where
  pub whole : 4 ≤ length bytes
  pub within : length_field bytes ≤ longest
  pub size : length bytes ≡ 4 + length_field bytes

-- the answers that reading a frame may give if these bytes are left, unless memory runs out or a read fails
pub record IsReadFrom (bytes : List ℕ) (answer : Result (Option Frame) WireFault) : Type 0 where
  pub ended : (bytes ≡ []) ↔ (answer ≡ Ok None)
  pub too_long : IsTooLong bytes ↔ (answer ≡ Err TooLong)
  pub truncated : ((bytes ≢ []) × IsTruncated bytes) ↔ (answer ≡ Err Truncated)
  pub frame : (f : Frame) (rest : List ℕ) → Spells f (spelling f) → bytes ≡ spelling f ++ rest → answer ≡ Ok (Some f)
