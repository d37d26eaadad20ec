-- The codes that reports use for the faults of a worker.
use Rattle.std.specs.Prelude.{ℕ, ◌+◌}
use Rattle.pg_wire.specs.Faults.{number_of}
use Rattle.pg_worker.specs.declared.fault.WorkerFault.{WorkerFault}
use Rattle.pg_worker.specs.declared.fault.WorkerFault.TheVariants.{OutOfMemory, NotMine, BadUpdate, Order, Wire}

abbrev pub code_of : WorkerFault → ℕ
code_of OutOfMemory = 1
code_of NotMine = 2
code_of BadUpdate = 3
code_of Order = 4
code_of (Wire f) = 10 + number_of f
