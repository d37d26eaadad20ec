use Rattle.pg_cli_command.proofs.Smaller.{shaped_for}
use Rattle.pg_cli_command.proofs.small.first_accepted.Goals as goal

pub returns-then-is_right-clause-accepted : goal.returns-then-is_right-clause-accepted
returns-then-is_right-clause-accepted g c = (
  shaped_for c.args.automaton.now c.args.plain.now c.in-Some-smaller_one.circuit c.requires c.in-Some-smaller_one.ensures,
  c.in_ok-is_right.ensures.accepted c.if-is_right.true,
)
