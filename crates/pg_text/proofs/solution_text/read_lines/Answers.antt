use Rattle.pg_text.proofs.Common.{◌≡◌, List, ℕ, Bool, Option, Ok, replicate, false, length, take, ◌++◌, drop, ◌∙◌, ap, sym, subst, take_at}
use Rattle.pg_text.proofs.Common.{SolutionLine, answer_seen}
use Rattle.pg_text.proofs.SolutionReads.{Reading, starts, goes, finishes, fails_header, fails_line, fails_front, fails_misfit}
use Rattle.pg_text.proofs.SolutionLines.{line_shrinks}
use Rattle.pg_text.proofs.solution_text.read_lines.Goals as goal

pub returns-in-Err-clause-refused : goal.returns-in-Err-clause-refused
returns-in-Err-clause-refused c = rw c.in_text.ensures (fails_header c.args.bytes.now c.args.game.now c.in-Err.fault c.in-Err.ensures)

pub lines-init : goal.lines-init
lines-init c = starts c.args.bytes.now c.args.game.now c.in_ok-solution.solution c.in_ok-seen.seen.items c.in-Ok._header c.in-Ok.rest.now c.in-Ok.ensures c.in_ok-solution.ensures (c.in_ok-seen.ensures.items_if_clones_equal (λ y e. e) ∙ ap (λ (n : ℕ). replicate n false) c.len.ensures.value)

pub take_line-requires-clause-whole : goal.take_line-requires-clause-whole
take_line-requires-clause-whole c = c.lines.invariant.state.whole

pub take_line-requires-clause-marks : goal.take_line-requires-clause-marks
take_line-requires-clause-marks c = rw c.deref_mut.ensures.value c.lines.invariant.state.marks

pub returns-in-Err-take_line-clause-refused : goal.returns-in-Err-take_line-clause-refused
returns-in-Err-take_line-clause-refused c =
    rw c.of_line.ensures
    (fails_misfit c.args.bytes.now c.args.game.now c.lines.solution c.lines.seen.items c.lines.rest.now c.in-Ok-Some-default.line c.in-Ok-Some-default.after.now c.in-Err-take_line.misfit c.requires c.lines.invariant
    (c.in-Ok-Some-default.ensures ∙ ap (λ (o : Option SolutionLine). Ok (answer_seen o, c.in-Ok-Some-default.after.now)) c.in-Ok-Some-default.field-0-0-is)
    (rw (sym c.deref_mut.ensures.value) c.in-Err-take_line.ensures.err))

pub lines-smaller : goal.lines-smaller
lines-smaller c = line_shrinks.shorter c.lines.rest.now c.in-Ok-Some-default.line c.in-Ok-Some-default.after.now
    (c.in-Ok-Some-default.ensures ∙ ap (λ (o : Option SolutionLine). Ok (answer_seen o, c.in-Ok-Some-default.after.now)) c.in-Ok-Some-default.field-0-0-is)

pub lines-preserved : goal.lines-preserved
lines-preserved c =
    let back : take c.lines.seen.len (c.take_line.new.seen ++ drop
    (length c.take_line.new.seen) c.lines.seen.items) ≡ c.take_line.new.seen =
    take_at c.take_line.new.seen (drop (length c.take_line.new.seen) c.lines.seen.items) c.lines.seen.len
    (c.take_line.auto.seen ∙ c.deref_mut.ensures.len) in
    subst (λ (seen : List Bool). Reading c.args.bytes.now c.args.game.now c.take_line.new.solution seen c.in-Ok-Some-default.after.now) (sym back)
    (goes c.args.bytes.now c.args.game.now c.lines.solution c.lines.seen.items c.lines.rest.now c.in-Ok-Some-default.line c.in-Ok-Some-default.after.now c.take_line.new.solution c.take_line.new.seen c.requires c.lines.invariant
    (c.in-Ok-Some-default.ensures ∙ ap (λ (o : Option SolutionLine). Ok (answer_seen o, c.in-Ok-Some-default.after.now)) c.in-Ok-Some-default.field-0-0-is)
    (rw (sym c.deref_mut.ensures.value) c.in_default.ensures.ok))

pub returns-in-Ok-None-default-clause-read : goal.returns-in-Ok-None-default-clause-read
returns-in-Ok-None-default-clause-read c = finishes c.args.bytes.now c.args.game.now c.lines.solution c.lines.seen.items c.lines.rest.now c.in-Ok-None-default.field-0-1.now c.lines.invariant
    (c.in-Ok-None-default.ensures ∙ ap (λ (o : Option SolutionLine). Ok (answer_seen o, c.in-Ok-None-default.field-0-1.now)) c.in-Ok-None-default.field-0-0-is)

pub returns-in-Err-next_answer-clause-refused : goal.returns-in-Err-next_answer-clause-refused
returns-in-Err-next_answer-clause-refused c = rw c.in_text-in-Err-next_answer.ensures (fails_line c.args.bytes.now c.args.game.now c.lines.solution c.lines.seen.items c.lines.rest.now c.in-Err-next_answer.fault c.lines.invariant c.in-Err-next_answer.ensures (rw (sym c.deref.ensures.value) c.in_default-early_misfit.ensures.none))

pub returns-in-Some-clause-refused : goal.returns-in-Some-clause-refused
returns-in-Some-clause-refused c =
    rw c.of_line-in-Some.ensures
    (fails_front c.args.bytes.now c.args.game.now c.lines.solution c.lines.seen.items c.lines.rest.now c.in-Some.identifier c.in-Some.misfit c.requires c.lines.invariant (rw (sym c.deref.ensures.value) c.in-Some.ensures.misfit))
