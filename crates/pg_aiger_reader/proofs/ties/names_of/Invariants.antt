use Rattle.pg_aiger_reader.proofs.Common.{◌≡◌}
use Rattle.pg_aiger.specs.Mirrors.Layouts.{names_until}
use Rattle.pg_aiger_reader.specs.Mirrors.Places.{texts}
use Rattle.pg_aiger_reader.proofs.ties.names_of.Given as goal

abbrev pub invariant-loop-a : goal.invariant-loop-a
invariant-loop-a l = texts l.names.items ≡ names_until l.controlled l.automaton l.a
