use Rattle.pg_cli_command.specs.Measuring.{IsMeasureOf, IsClosedMapOf}
use Rattle.pg_cli_command.proofs.MapKinds.{least_closed, prints_too}
use Rattle.pg_cli_command.proofs.laws.least_is_closed.Goals as goal

pub returns : goal.returns
returns c = prints_too IsMeasureOf IsClosedMapOf least_closed
