use Rattle.std.proofs.Common.{◌%◌, ◌/◌, ℕ, List, rules, subst, sym}
use Rattle.pg_hoa_automaton.specs.Automata.{letters}
use Rattle.pg_means_look.specs.declared.automaton.ParityEdge.{ParityEdge}
use Rattle.pg_means.specs.Mirrors.Tables.{step_of, IsEdgeOf, AreEdges}
use Rattle.pg_means.proofs.Tabled.{edges_more}
use Rattle.pg_means.proofs.completed.edges_of.Goals as goal

pub loop-place-preserved : goal.loop-place-preserved
loop-place-preserved c =
    let a = c.args.automaton.now in
    let place = c.loop-place.place in
    let width = c.args.width in
    let here : IsEdgeOf a (step_of a (place / width) (place % width % letters a)) c.edge_of.result =
    subst (λ (own : ℕ). IsEdgeOf a (step_of a (place / width) (place % width % own)) c.edge_of.result) c.letters_of-own.ensures.value c.edge_of.ensures in
    record {
      long = search rules;
      edges = subst (λ (edges : List ParityEdge). AreEdges a width edges) (sym c.in_ok-push.ensures.items)
          (edges_more a width place c.loop-place.edges.items c.edge_of.result c.loop-place.invariant.long c.loop-place.invariant.edges here);
    }
