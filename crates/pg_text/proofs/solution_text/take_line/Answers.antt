use Rattle.pg_text.proofs.Common.{ap, sym, ◌∙◌, inl, inr, is_seen}
use Rattle.pg_text.proofs.Answering.{unmarked_here, unmarked_nowhere}
use Rattle.pg_text.proofs.solution_text.take_line.Goals as goal

pub returns-in_default-clause-err : goal.returns-in_default-clause-err
returns-in_default-clause-err c =
    (inl c.in_default.ensures.missing, unmarked_nowhere c.args.game.now c.args.line.identifier c.args.seen.now c.in_default.ensures.missing)

pub returns-in_default-choice_of-clause-err : goal.returns-in_default-choice_of-clause-err
returns-in_default-choice_of-clause-err c = (
  inr (record { v = c.in-Some.v; within = c.in-Some.ensures.found.0; named = sym c.in-Some.ensures.found.1; nowhere = c.in_default-choice_of.ensures.none }),
  unmarked_here c.args.game.now c.args.line.identifier c.in-Some.v c.args.seen.now c.requires.game c.in-Some.ensures.found.0
      (sym c.in-Some.ensures.found.1) (ap (is_seen c.args.seen.now) (sym c.v.view_is) ∙ c.if-seen-v.false),
)
