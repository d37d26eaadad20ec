use Rattle.std.proofs.Common.{sym, ◌∙◌}
use Rattle.pg_satisfies_promises.proofs.NodeLists.{apart_both, apart_found}
use Rattle.pg_satisfies_promises.proofs.conjuncts.take_apart.Goals as goal

pub returns-in-Both : goal.returns-in-Both
returns-in-Both c =
    apart_both _ _ _ _ _ _ _ _ c.requires.ordered c.requires.place (sym c.node_at.ensures ∙ c.in-Both.is) c.in_ok-push.ensures.items
    c.in_ok-push-2.ensures.items c.requires.waiting c.requires.found

pub returns : goal.returns
returns c = apart_found _ _ _ _ _ c.requires.place c.in_ok-push-3.ensures.items c.requires.waiting c.requires.found
