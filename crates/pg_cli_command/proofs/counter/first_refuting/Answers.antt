use Rattle.pg_cli_command.proofs.counter.first_refuting.Goals as goal

pub returns-then-is_right-clause-refutes : goal.returns-then-is_right-clause-refutes
returns-then-is_right-clause-refutes g c = (c.in-Some-circuit_for.ensures, c.in_ok-is_right.ensures.refutes c.if-is_right.true)
