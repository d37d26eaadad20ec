-- Why a worker program ends with a fault.
use Rattle.std.specs.Prelude.{◌≡◌, ◌≢◌, ℕ, ◌⊎◌, List, Option}
use Rattle.pg_wire.specs.declared.fault.WireFault.TheVariants as wire
use Rattle.pg_worker.specs.declared.fault.WorkerFault.{WorkerFault}
use Rattle.pg_worker.specs.declared.fault.WorkerFault.TheVariants as worker
use Rattle.pg_worker.specs.Serving.{Breaks}
use Rattle.pg_cli_command.specs.declared.fault.CliFault.{CliFault}
use Rattle.pg_cli_command.specs.declared.fault.CliFault.TheVariants.{OutOfMemory, Connect, Worker}

-- serving ended with the fault: a write failed, or the fault came after the frames that were answered
abbrev pub EndsServing : WorkerFault → Option (List ℕ) → Option (List ℕ) → Option (List ℕ) → Type 0
EndsServing fault input output output' = (fault ≡ worker.Wire wire.Write) ⊎ Breaks fault input output output'

-- memory ran out, nobody answers at the port, or serving ended with another fault that it may end with, whatever comes from there
abbrev pub RefusesWork : ℕ → CliFault → Type 0
RefusesWork port OutOfMemory = Unit {0}
RefusesWork port (Connect p) = p ≡ port
RefusesWork port (Worker fault) =
    (fault ≢ worker.OutOfMemory) × (input : Option (List ℕ)) × (output : Option (List ℕ)) × (output' : Option (List ℕ))
    × EndsServing fault input output output'
RefusesWork port fault = ⊥
