use Rattle.std.proofs.Common.{◌*◌, ◌≤◌, subst, arith}
use Rattle.std.proofs.Math.Nat.{add-mul}
use Rattle.pg_means.proofs.Tabled.{completed_by}
use Rattle.pg_means.proofs.completed.completed.Goals as goal

pub edges_of-requires-clause-few : goal.edges_of-requires-clause-few
edges_of-requires-clause-few c =
    let rows = add-mul c.args.automaton.now.states 1 c.width_of-width.result in
    let within : c.args.automaton.now.states * c.width_of-width.result ≤ 16777216 =
    subst (λ s. s * c.width_of-width.result ≤ 16777216) c.states-states.ensures.value c.if-states-width-gt-MOST_STEPS.false in
    omega (arith, rows, within, c.width_of-width.ensures.few)

pub returns-clause-completed : goal.returns-clause-completed
returns-clause-completed c =
    completed_by c.args.automaton.now c.args.propositions (record {
      letters = c.width_of-width.result;
      start = c.start.result;
      edges = c.in_ok-edges.edges;
      truths = c.loop-place.truths;
    }) c.states-states.ensures.automaton c.width_of-width.ensures.value c.start.ensures c.in_ok-edges.ensures.long
    c.in_ok-edges.ensures.edges
