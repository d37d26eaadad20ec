use Rattle.std.proofs.Common.{◌∙◌, sym, subst}
use Rattle.pg_measure.specs.Measures.{BoundList}
use Rattle.pg_measure.specs.Games.{IsBoundsOf}
use Rattle.pg_coord_partition.proofs.Ranges.{setup_is_well}
use Rattle.pg_coord_partition.proofs.telling.setup_of.Goals as goal

pub returns-clause-well : goal.returns-clause-well
returns-clause-well c =
    let same = c.new.ensures ∙ (c.in_ok-pairs.ensures.items ∙ c.pairs.ensures.value) in
    setup_is_well c.args.game.now c.new.result c.args.version c.len-vertices.result
    c.bounds_are_few.ensures c.len-vertices.ensures.game c.len-vertices.ensures.limits c.len-vertices.ensures.priorities
    (subst (λ (x : BoundList). IsBoundsOf c.args.game.now x) (sym same) c.requires.bounds) c.requires.version c.len-vertices.ensures.value
