use Rattle.std.proofs.Common.{ap, set, ℕ}
use Rattle.pg_world.proofs.Noting.{items_set}
use Rattle.pg_world.proofs.replica.set_greatest.Goals as goal

pub returns : goal.returns
returns c =
    items_set c.args.greatest.now.items c.args.r c.args.v c.args.number _ c.index_mut.result.now c.requires.r c.index_mut.ensures.value
    (ap (λ (v : ℕ). set c.index_mut.result.now.items v c.args.number) c.v.view_is)
