-- How a link counts its failures.
use Rattle.std.specs.Prelude.{ℕ, ◌+◌, ◌-◌, ◌^◌, min, Result, Ok, Err}
use Rattle.pg_coord_partition.specs.declared.link.LinkFault.{LinkFault}
use Rattle.pg_coord_partition.specs.declared.link.LinkFault.TheVariants.{OutOfMemory, Failed}

-- the count after a call: one more if the call was Failed, up to 18,446,744,073,709,551,615
abbrev pub count_after : Result (Unit {0}) LinkFault → ℕ → ℕ
count_after (Ok u) failures = failures
count_after (Err OutOfMemory) failures = failures
count_after (Err Failed) failures = min (failures + 1) (2 ^ 64 - 1)
