use Rattle.pg_check_determined.proofs.Decided.{never_undecided}
use Rattle.pg_check_determined.proofs.laws.never_undecided.Goals as goal

pub returns : goal.returns
returns c = never_undecided
