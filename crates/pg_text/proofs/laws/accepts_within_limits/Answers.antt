use Rattle.pg_text.proofs.Limits.{within_limits, are_accepted}
use Rattle.pg_text.proofs.laws.accepts_within_limits.Goals as goal

pub returns : goal.returns
returns c = λ lines. (within_limits lines, are_accepted lines)
