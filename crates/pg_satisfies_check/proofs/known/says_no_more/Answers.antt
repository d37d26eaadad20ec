use Rattle.std.proofs.Common.{Option, Bool, None, Some, length, inl, inr, arith, sym, ◌∙◌}
use Rattle.std.proofs.lemmas.Bool.{cases_lt}
use Rattle.std.proofs.lemmas.List.{get_or_past}
use Rattle.pg_satisfies_check.proofs.Cutting.{none_is}
use Rattle.pg_satisfies_check.proofs.known.says_no_more.Goals as goal

pub returns : goal.returns
returns c x b e = elim (cases_lt x (length c.args.few.now)) [
  | inl lt ↦ c.loop-place.invariant x b (omega arith) e
  | inr ge ↦ absurd (none_is b (sym (get_or_past c.args.few.now x None ge) ∙ e))
]
