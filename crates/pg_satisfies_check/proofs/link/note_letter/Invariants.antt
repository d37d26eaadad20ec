use Rattle.std.proofs.Common.{true}
use Rattle.pg_aiger.specs.Runs.{HaveBits}
use Rattle.pg_aiger_netlist.specs.Steps.{spelt}
use Rattle.pg_satisfies_check.specs.Mirrors.Known.{Learns}
use Rattle.pg_satisfies_check.proofs.link.note_letter.Given as goal

abbrev pub invariant-loop-place : goal.invariant-loop-place
invariant-loop-place l = Learns (λ u. HaveBits u l.inputs (spelt l.letter)) l.fn.row true l.row
