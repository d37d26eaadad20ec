use Rattle.pg_hoa.proofs.Common.{◌≡◌, map}
use Rattle.pg_hoa.specs.Outputs.{is_named}
use Rattle.pg_hoa.proofs.NamedOutputs.{passing}
use Rattle.pg_hoa.proofs.outputs.numbers_of.Given as goal

-- the numbers so far that are named
abbrev pub invariant-loop-a : goal.invariant-loop-a
invariant-loop-a l = l.numbers.items ≡ passing (is_named (map (λ name. name.now) l.names) l.automaton) l.a
