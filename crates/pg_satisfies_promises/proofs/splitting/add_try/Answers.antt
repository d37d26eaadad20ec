use Rattle.pg_satisfies_promises.proofs.Tries.{tries_more}
use Rattle.pg_satisfies_promises.proofs.splitting.add_try.Goals as goal

pub returns : goal.returns
returns c = tries_more _ _ _ _ _ _ c.in_ok-place.ensures c.requires.tries c.in_ok-push.ensures.items
