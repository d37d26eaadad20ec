use Rattle.std.proofs.Common.{subst}
use Rattle.pg_ltl.specs.Mirrors.Views.{form}
use Rattle.pg_means.specs.Mirrors.Simplified.{SayTheSame}
use Rattle.pg_means.proofs.simplified.simple_form.Goals as goal

pub returns : goal.returns
returns c = subst (SayTheSame (form c.in_ok-found.found)) c.in_ok-whole.ensures c.in_ok-found.ensures
