-- Links to programs that were started on this host.
use Rattle.std.specs.Prelude.{◌≡◌, ℕ, ◌⊎◌, Bool, false, List, length}
use Rattle.pg_wire.specs.Bytes.{IsWhole, IsTooLong}

-- A link: whether it has a program, running or ended; whether it is connected to it; and the number of calls that were
-- Failed.
pub record SocketValue : Type 0 where
  pub has_program : Bool
  pub is_connected : Bool
  pub failures : ℕ

-- a link that has done nothing yet
abbrev pub idle_link : SocketValue
idle_link = record { has_program = false; is_connected = false; failures = 0 }

-- the bytes that are received: a length within the limit and as many bytes as it says, or a length over the limit alone
abbrev pub IsFramedByLength : List ℕ → Type 0
IsFramedByLength bytes = IsWhole bytes ⊎ (IsTooLong bytes × (length bytes ≡ 4))
