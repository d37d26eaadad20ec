use Rattle.pg_aiger.proofs.Common.{rules, ◌+◌, arith, sym, ap, ◌∙◌, map-range_with_len_more, conjunction_of, each_made, is_minterm}
use Rattle.pg_aiger.proofs.Common.{minterm_at, minterms_below}
use Rattle.pg_aiger.proofs.Places.{extends_times, extends_within, mean_push}
use Rattle.pg_aiger.proofs.Exact.{each_more}
use Rattle.pg_aiger.proofs.table.minterms.Goals as goal

pub returns-in_err-literal-clause-extends : goal.returns-in_err-literal-clause-extends
returns-in_err-literal-clause-extends c =
    extends_within c.loop-place.place (c.args.inputs + c.args.latches) c.args.count c.args.draft.now c.loop-place.draft c.minterm.new.draft
    c.loop-place-test.true c.loop-place.invariant.0 c.minterm.ensures.extends

pub returns-in_err-push-clause-extends : goal.returns-in_err-push-clause-extends
returns-in_err-push-clause-extends c =
    extends_within c.loop-place.place (c.args.inputs + c.args.latches) c.args.count c.args.draft.now c.loop-place.draft c.minterm.new.draft
    c.loop-place-test.true c.loop-place.invariant.0 c.minterm.ensures.extends

pub loop-place-preserved : goal.loop-place-preserved
loop-place-preserved c = (
  extends_times c.loop-place.place (c.args.inputs + c.args.latches) c.args.draft.now c.loop-place.draft c.minterm.new.draft
      c.loop-place.invariant.0 c.minterm.ensures.extends,
  search rules,
  mean_push (c.args.inputs + c.args.latches) c.loop-place.draft c.minterm.new.draft (is_minterm c.args.inputs c.args.latches)
      c.loop-place.literals.items c.push.new.self.items c.loop-place.place c.in_ok-literal.literal c.minterm.ensures.extends
      c.in_ok-push.ensures.items c.loop-place.invariant.1 c.loop-place.invariant.2
      c.in_ok-literal.ensures.literal c.in_ok-literal.ensures.meaning,
  ap (each_made conjunction_of c.args.draft.now)
      (map-range_with_len_more (minterm_at c.args.inputs c.args.latches) 0 c.loop-place.place c.loop-place.place (omega arith))
      ∙ each_more conjunction_of c.args.draft.now c.loop-place.draft c.minterm.new.draft
      (minterms_below c.args.inputs c.args.latches c.loop-place.place) c.loop-place.literals.items
      (minterm_at c.args.inputs c.args.latches c.loop-place.place) c.in_ok-literal.literal c.loop-place.invariant.3 c.in_ok-literal.ensures.made
      ∙ ap (λ l. (c.minterm.new.draft, l)) (sym c.in_ok-push.ensures.items),
)
