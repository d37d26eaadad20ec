use Rattle.std.proofs.Common.{arith}
use Rattle.pg_means.proofs.Tabled.{edge_given}
use Rattle.pg_means.proofs.completed.edge_of.Goals as goal

pub returns-in-Some : goal.returns-in-Some
returns-in-Some c =
    edge_given c.args.automaton.now c.args.state c.args.letter c.in-Some.target c.priority_of.result c.sets.result c.shape.result c.in-Some.met.now
    (omega (arith, c.states-states.ensures.value, c.if-state-states.false)) c.in-Some.ensures c.shape.ensures.value c.sets.ensures
    c.priority_of.ensures
