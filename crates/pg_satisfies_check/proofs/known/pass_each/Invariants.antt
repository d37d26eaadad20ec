use Rattle.std.proofs.Common.{true}
use Rattle.pg_aiger.specs.Runs.{Satisfies}
use Rattle.pg_satisfies_check.specs.Mirrors.Known.{Learns}
use Rattle.pg_satisfies_check.proofs.known.pass_each.Given as goal

abbrev pub invariant-loop-gate : goal.invariant-loop-gate
invariant-loop-gate l = Learns (λ u. Satisfies u l.gates) l.initial.row true l.row
