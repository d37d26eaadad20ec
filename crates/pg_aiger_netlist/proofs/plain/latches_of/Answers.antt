use Rattle.std.proofs.Common.{◌≡◌, ◌+◌, ◌++◌, ◌∷◌, [], ◌∙◌, get_or, refl, ap}
use Rattle.pg_aiger_netlist.proofs.InOrder.{latch_of, latches_more}
use Rattle.pg_aiger_netlist.proofs.plain.latches_of.Goals as goal

pub loop-place-preserved : goal.loop-place-preserved
loop-place-preserved c =
    let next = get_or c.args.nexts.now c.loop-place.place 0 in
    c.in_ok-push.ensures.items ∙ ap (λ list. list ++ latch_of (c.args.first + c.loop-place.place) next ∷ []) c.loop-place.invariant
    ∙ latches_more c.args.first c.args.nexts.now c.loop-place.place next c.loop-place-test.true refl
