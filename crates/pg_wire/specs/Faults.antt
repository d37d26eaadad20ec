-- The numbers that reports use for the faults of a frame.
use Rattle.std.specs.Prelude.{ℕ}
use Rattle.pg_wire.specs.declared.fault.WireFault.{WireFault}
use Rattle.pg_wire.specs.declared.fault.WireFault.TheVariants.{OutOfMemory, TooLong, Truncated, BadKind, BadField, Read, Write, Version}

-- the code in a report is this number plus 10
abbrev pub number_of : WireFault → ℕ
number_of OutOfMemory = 1
number_of TooLong = 2
number_of Truncated = 3
number_of BadKind = 4
number_of (BadField offset) = 5
number_of Read = 6
number_of Write = 7
number_of Version = 8
