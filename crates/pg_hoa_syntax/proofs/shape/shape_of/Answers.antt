use Rattle.pg_hoa_syntax.proofs.ShapeFinds.{constant_finds, nested_finds}
use Rattle.pg_hoa_syntax.proofs.shape.shape_of.Goals as goal

pub returns-then-sets-eq0-clause-found : goal.returns-then-sets-eq0-clause-found
returns-then-sets-eq0-clause-found c =
    λ f e. (constant_finds f c.args.sets c.args.ops.now c.constant_shape.result c.if-sets-eq0.true e c.constant_shape.ensures).found

pub returns-then-sets-eq0-clause-none : goal.returns-then-sets-eq0-clause-none
returns-then-sets-eq0-clause-none c =
    λ f e. (constant_finds f c.args.sets c.args.ops.now c.constant_shape.result c.if-sets-eq0.true e c.constant_shape.ensures).none

pub returns-else-sets-eq0-clause-found : goal.returns-else-sets-eq0-clause-found
returns-else-sets-eq0-clause-found c =
    λ f e. (nested_finds f c.args.sets c.args.ops.now c.nested_shape.result c.if-sets-eq0.false e c.nested_shape.ensures).found

pub returns-else-sets-eq0-clause-none : goal.returns-else-sets-eq0-clause-none
returns-else-sets-eq0-clause-none c =
    λ f e. (nested_finds f c.args.sets c.args.ops.now c.nested_shape.result c.if-sets-eq0.false e c.nested_shape.ensures).none
