use Rattle.std.proofs.Common.{true}
use Rattle.pg_aiger.specs.Runs.{Satisfies}
use Rattle.pg_satisfies_check.specs.Mirrors.Known.{Learns}
use Rattle.pg_satisfies_check.proofs.propagation.settle.Given as goal

abbrev pub invariant-loop-step : goal.invariant-loop-step
invariant-loop-step l = Learns (λ u. Satisfies u l.gates) l.fn.row true l.row
