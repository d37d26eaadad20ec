use Rattle.pg_means.proofs.Simplifying.{lasts_there}
use Rattle.pg_means.proofs.simplified.holds_on.Goals as goal

pub returns-in-Some-persistent : goal.returns-in-Some-persistent
returns-in-Some-persistent c e =
    lasts_there c.args.nodes.now c.args.place c.in-Some-persistent._found.0 c.in-Some-persistent._found.1
    c.in-Some-persistent.ensures.0 c.in-Some-persistent.ensures.1
