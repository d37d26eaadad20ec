use Rattle.std.proofs.Common.{rules}
use Rattle.pg_ltl.proofs.Nodes.{pushed}
use Rattle.pg_ltl.proofs.pair.put.Goals as goal

pub returns : goal.returns
returns c = pushed _ _ _ _ c.in_ok-push.ensures.items (search rules) c.requires.ordered c.requires.reach
