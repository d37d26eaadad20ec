-- The length before the bytes of a frame.
use Rattle.std.specs.Prelude.{◌≡◌, ℕ, ◌≤◌, List, ◌++◌, length}
use Rattle.pg_wire.specs.Spelling.{word, longest}

-- the bytes are a length within the limit, and as many bytes as it counts
pub record IsCounted (bytes rest : List ℕ) : Type 0 where
  pub within : length rest ≤ longest
  pub whole : bytes ≡ word (length rest) ++ rest
