-- Faults of frames as faults of a worker.
use Rattle.pg_wire.specs.declared.fault.WireFault.{WireFault}
use Rattle.pg_wire.specs.declared.fault.WireFault.TheVariants as wire
use Rattle.pg_worker.specs.declared.fault.WorkerFault.{WorkerFault}
use Rattle.pg_worker.specs.declared.fault.WorkerFault.TheVariants.{OutOfMemory, Wire}

-- running out of memory is the worker's own fault
abbrev pub own_fault : WireFault → WorkerFault
own_fault wire.OutOfMemory = OutOfMemory
own_fault f = Wire f
