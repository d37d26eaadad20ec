use Rattle.pg_hoa_syntax.proofs.Common.{◌<◌, ◌∙◌, arith, List, Option, Some, None, Op, fits_at}
use Rattle.pg_hoa_syntax.proofs.ShapeSteps.{fits_turn, fits_innermost}
use Rattle.pg_hoa_syntax.proofs.shape.fits.Goals as goal

abbrev nothing : Option (List Op)
nothing = None

pub returns-in-None : goal.returns-in-None
unfolding fits_at
returns-in-None c =
    let left : 0 < c.loop-inside.inside = omega arith in
    fits_turn c.args.shape c.args.sets c.loop-inside.inside c.set_at-set.result c.is_wanted.result c.loop-inside.rest.now nothing left
    c.set_at-set.ensures c.is_wanted.ensures c.in-None.ensures ∙ c.loop-inside.invariant.same

pub loop-inside-preserved : goal.loop-inside-preserved
loop-inside-preserved c =
    let left : 0 < c.loop-inside.inside = omega arith in
    record {
      within = omega arith;
      same = fits_turn c.args.shape c.args.sets c.loop-inside.inside c.set_at-set.result c.is_wanted.result c.loop-inside.rest.now
          (Some c.in-Some.ops.now) left c.set_at-set.ensures c.is_wanted.ensures c.in-Some.ensures ∙ c.loop-inside.invariant.same;
    }

pub returns : goal.returns
unfolding fits_at
returns c =
    c.only_leaf.ensures ∙ fits_innermost c.args.shape c.args.sets c.loop-inside.inside c.set_at-set-2.result c.is_wanted-2.result
    c.loop-inside.rest.now (omega arith) c.set_at-set-2.ensures c.is_wanted-2.ensures ∙ c.loop-inside.invariant.same
