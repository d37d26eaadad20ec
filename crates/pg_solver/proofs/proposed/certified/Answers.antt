use Rattle.pg_solver.proofs.Common.{◌∙◌, Bool, List, subst, sym, game_line, IsNeverAbove, known_map}
use Rattle.pg_solver.proofs.proposed.certified.Goals as goal

pub certifies-requires-clause-known : goal.certifies-requires-clause-known
certifies-requires-clause-known c =
    let bounds = c.in-Some.map.bounds in
    let lines = game_line c.args.game.now in
    subst (λ (known : List Bool). IsNeverAbove bounds lines (known_map bounds known)) (sym (c.deref.ensures.value ∙ c.in_ok-known.ensures.items_if_clones_equal (λ y e. e)))
    (c.zeros_are_known.ensures bounds lines _)
