use Rattle.pg_world.proofs.Common.{◌<◌, subst, sym, is_ok, vec_len, vec_capacity}
use Rattle.pg_world.proofs.Noting.{Numbers, items_noted, place_of}
use Rattle.pg_world.proofs.room.note.Goals as goal

pub returns : goal.returns
returns c =
    let here = c.index_mut.ensures.value in
    let room = subst (λ (x : Numbers). vec_len x < vec_capacity x) (sym here)
    (place_of c.args.taken.now.items c.args.r c.index_mut.result.now c.requires.r c.requires.place) in
    items_noted c.args.taken.now.items c.args.r c.args.number c.push-pushed.new.self c.index_mut.result.now (is_ok c.push-pushed.result)
    c.requires.r here (c.push-pushed.ensures.succeeds room) c.push-pushed.ensures.items
