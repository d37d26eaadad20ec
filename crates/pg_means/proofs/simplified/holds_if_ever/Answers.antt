use Rattle.pg_means.proofs.Simplifying.{ever_there, recurs_there}
use Rattle.pg_means.proofs.simplified.holds_if_ever.Goals as goal

pub returns-in-Some : goal.returns-in-Some
returns-in-Some c e = ever_there c.args.nodes.now c.args.place c.in-Some._found c.in-Some._found c.in-Some.ensures

pub returns-in-Some-recurrent : goal.returns-in-Some-recurrent
returns-in-Some-recurrent c e =
    recurs_there c.args.nodes.now c.args.place c.in-Some-recurrent._found.0 c.in-Some-recurrent._found.1
    c.in-Some-recurrent.ensures.0 c.in-Some-recurrent.ensures.1
