use Rattle.std.proofs.Common.{arith, ap, ◌∙◌}
use Rattle.pg_world.proofs.Noting.{items, items_kept, place_kept}
use Rattle.pg_world.proofs.room.make_room.Goals as goal

pub returns-in_err-reserve-2-clause-taken : goal.returns-in_err-reserve-2-clause-taken
returns-in_err-reserve-2-clause-taken c = items_kept c.args.taken.now.items c.args.r c.reserve-2.new.self c.index_mut.result.now
    (c.reserve-2.ensures.items ∙ ap items c.index_mut.ensures.value)

pub returns-clause-taken : goal.returns-clause-taken
returns-clause-taken c = items_kept c.args.taken.now.items c.args.r c.reserve-2.new.self c.index_mut.result.now
    (c.reserve-2.ensures.items ∙ ap items c.index_mut.ensures.value)

pub returns-clause-place : goal.returns-clause-place
returns-clause-place c = place_kept c.args.taken.now.items c.args.r c.reserve-2.new.self c.requires
    (omega (arith, c.in_ok-reserve-2.ensures.ok, c.reserve-2.ensures.len))
