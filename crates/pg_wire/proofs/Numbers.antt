-- Numbers of four bytes, in the words of `byteorder` and in those of std.
use Rattle.pg_wire.proofs.Common.{◌≡◌, ℕ, List, arith, from_be_bytes, w32}
use Rattle.byteorder.specs.Endian.{big_number}

-- both look at the first four bytes alone
pub number_is : (bytes : List ℕ) → big_number 4 bytes ≡ from_be_bytes w32 bytes
number_is bytes = omega arith
