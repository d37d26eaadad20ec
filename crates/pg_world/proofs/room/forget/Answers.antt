use Rattle.pg_world.proofs.Common.{◌∙◌, ap, set, map, ℕ, List, map-set}
use Rattle.pg_world.proofs.Noting.{items}
use Rattle.pg_world.proofs.room.forget.Goals as goal

pub returns : goal.returns
returns c = map-set items c.args.taken.now.items c.args.r c.clear.new.self
    ∙ ap (λ (x : List ℕ). set (map items c.args.taken.now.items) c.args.r x) c.clear.ensures.items
