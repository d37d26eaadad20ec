use Rattle.std.proofs.Common.{rules}
use Rattle.pg_satisfies_promises.proofs.NodeLists.{added}
use Rattle.pg_satisfies_promises.proofs.growing.put.Goals as goal

pub returns : goal.returns
returns c = added _ _ _ _ c.in_ok-push.ensures.items (search rules) c.requires.ordered c.requires.reach
