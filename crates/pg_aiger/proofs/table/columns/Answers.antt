use Rattle.pg_aiger.proofs.Common.{rules, length, arith, sym, ap, ◌∙◌, map-range_with_len_more, disjunction_of, each_made, having}
use Rattle.pg_aiger.proofs.Common.{bit_columns, column_bit}
use Rattle.pg_aiger.proofs.Places.{extends_times, extends_within, mean_push}
use Rattle.pg_aiger.proofs.Exact.{each_more}
use Rattle.pg_aiger.proofs.table.columns.Goals as goal

pub returns-in_err-literal-clause-extends : goal.returns-in_err-literal-clause-extends
returns-in_err-literal-clause-extends c =
    extends_within c.loop-bit.bit (length c.args.literals.now) c.args.width c.args.draft.now c.loop-bit.draft c.column.new.draft
    c.loop-bit-test.true c.loop-bit.invariant.0 c.column.ensures.extends

pub returns-in_err-push-clause-extends : goal.returns-in_err-push-clause-extends
returns-in_err-push-clause-extends c =
    extends_within c.loop-bit.bit (length c.args.literals.now) c.args.width c.args.draft.now c.loop-bit.draft c.column.new.draft
    c.loop-bit-test.true c.loop-bit.invariant.0 c.column.ensures.extends

pub loop-bit-preserved : goal.loop-bit-preserved
loop-bit-preserved c = (
  extends_times c.loop-bit.bit (length c.args.literals.now) c.args.draft.now c.loop-bit.draft c.column.new.draft
      c.loop-bit.invariant.0 c.column.ensures.extends,
  search rules,
  mean_push (length c.args.literals.now) c.loop-bit.draft c.column.new.draft (column_bit c.args.literals.now c.args.values.now)
      c.loop-bit.made.items c.push.new.self.items c.loop-bit.bit c.in_ok-literal.literal c.column.ensures.extends
      c.in_ok-push.ensures.items c.loop-bit.invariant.1 c.loop-bit.invariant.2
      c.in_ok-literal.ensures.literal c.in_ok-literal.ensures.meaning,
  ap (each_made disjunction_of c.args.draft.now)
      (map-range_with_len_more (λ j. having j c.args.values.now c.args.literals.now) 0 c.loop-bit.bit c.loop-bit.bit (omega arith))
      ∙ each_more disjunction_of c.args.draft.now c.loop-bit.draft c.column.new.draft
      (bit_columns c.loop-bit.bit c.args.values.now c.args.literals.now) c.loop-bit.made.items
      (having c.loop-bit.bit c.args.values.now c.args.literals.now) c.in_ok-literal.literal c.loop-bit.invariant.3 c.in_ok-literal.ensures.made
      ∙ ap (λ l. (c.column.new.draft, l)) (sym c.in_ok-push.ensures.items),
)
