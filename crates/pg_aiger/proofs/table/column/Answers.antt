use Rattle.std.proofs.Common.{◌+◌, length, arith, refl}
use Rattle.pg_aiger.proofs.Matches.{extends_more, extends_self}
use Rattle.pg_aiger.proofs.Places.{wider, more_set, more_clear}
use Rattle.pg_aiger.proofs.Exact.{column_set, column_clear}
use Rattle.pg_aiger.proofs.table.column.Goals.{then-values-place-eq1+in_ok-literal, else-values-place-eq1}
use Rattle.pg_aiger.proofs.table.column.Goals as goal

pub loop-place-init : goal.loop-place-init
loop-place-init c = (extends_self c.args.draft.now, (let p = c.requires.positive in omega (arith, p)), λ v constant s. constant, refl)

pub returns-in_err-literal-clause-extends : goal.returns-in_err-literal-clause-extends
returns-in_err-literal-clause-extends c =
    wider (c.loop-place.place + 1) (length c.args.literals.now) c.args.draft.now c.or.new.self (omega (arith, c.loop-place-test.true))
    (extends_more c.loop-place.place 1 (c.loop-place.place + 1) c.args.draft.now c.loop-place.draft c.or.new.self refl c.loop-place.invariant.0
    c.or.ensures.extends)

pub loop-place-preserved : goal.loop-place-preserved
loop-place-preserved c = elim c.if-values-place-eq1.branch [
  | then-values-place-eq1+in_ok-literal w ↦ rw (w.draft-is, w.literal-is) (
    extends_more c.loop-place.place 1 (c.loop-place.place + 1) c.args.draft.now c.loop-place.draft w.or.new.self refl c.loop-place.invariant.0
        w.or.ensures.extends,
    w.in_ok-literal.ensures.literal,
    λ v constant s. more_set v c.args.literals.now c.args.values.now c.args.bit c.loop-place.place w.in_ok-literal.literal c.loop-place.literal
        w.if-values-place-eq1.true (c.loop-place.invariant.2 v constant (w.or.ensures.extends.kept v s)) (w.in_ok-literal.ensures.meaning v constant s),
    column_set c.args.draft.now c.loop-place.draft w.or.new.self c.args.bit c.loop-place.place c.loop-place.literal w.in_ok-literal.literal
        c.args.values.now c.args.literals.now (omega arith) (omega arith) w.if-values-place-eq1.true c.loop-place.invariant.3
        w.in_ok-literal.ensures.made,
  )
  | else-values-place-eq1 w ↦ rw (w.draft-is, w.literal-is) (
    wider c.loop-place.place (c.loop-place.place + 1) c.args.draft.now c.loop-place.draft (omega arith) c.loop-place.invariant.0,
    c.loop-place.invariant.1,
    λ v constant s. more_clear v c.args.literals.now c.args.values.now c.args.bit c.loop-place.place c.loop-place.literal
        w.if-values-place-eq1.false (c.loop-place.invariant.2 v constant s),
    column_clear c.args.draft.now c.loop-place.draft c.args.bit c.loop-place.place c.loop-place.literal
        c.args.values.now c.args.literals.now (omega arith) (omega arith) w.if-values-place-eq1.false c.loop-place.invariant.3,
  )
]
