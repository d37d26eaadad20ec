use Rattle.pg_cli_command.proofs.Parting.{parted_at, not_parted}
use Rattle.pg_cli_command.proofs.parts.part.Goals as goal

pub returns-in_err-place-clause-none : goal.returns-in_err-place-clause-none
returns-in_err-place-clause-none c = rw c.from_residual.ensures (not_parted c.args.input.now c.in_err-place.ensures)

pub returns-clause-parted : goal.returns-clause-parted
returns-clause-parted c = parted_at c.args.input.now c.in_ok-place.place c.in_ok-place.ensures.0 c.in_ok-place.ensures.1
