use Rattle.pg_text.proofs.Common.{◌≡◌, Ok, None, ◌++◌, ◌∷◌, [], List, ℕ, Option, ◌∙◌, sym, ap, subst, err_from_is_err_and, Line, counted}
use Rattle.pg_text.proofs.Common.{Answers, add_fault, TextLine, line_seen, item_seen, counted_step}
use Rattle.pg_text.proofs.Building.{more, finishes, fails_body, fails_item, fails_add}
use Rattle.pg_text.proofs.Takes.{item_shrinks}
use Rattle.pg_text.proofs.Counting.{IsCounted, written_line, no_line, written_fails}
use Rattle.pg_text.proofs.game.builder_of.Goals as goal
use Rattle.pg_text.proofs.game.builder_of.Goals.{In-Ok-Some-default}

pub returns-in-Err : goal.returns-in-Err
returns-in-Err c = rw c.in_text.ensures (fails_body c.in-Err.fault c.args.bytes.now c.in-Err.ensures)

pub returns-in-Err-item : goal.returns-in-Err-item
returns-in-Err-item c =
    rw c.in_text-in-Err-item.ensures
    (fails_item c.in-Err-item.refusal c.args.bytes.now c.lines.builder c.lines.rest.now c.lines.invariant
    (written_fails c.in-Err-item.refusal c.lines.rest.now c.in-Err-item.ensures))

-- the line as it is written
written : (c : In-Ok-Some-default)
    → IsCounted c.lines.rest.now (counted (line_seen c.item.new.buffer.items c.in-Ok-Some-default.line)) c.in-Ok-Some-default.after.now
written c =
    written_line c.lines.rest.now (counted (line_seen c.item.new.buffer.items c.in-Ok-Some-default.line)) c.in-Ok-Some-default.after.now
    (c.in-Ok-Some-default.ensures ∙ ap
    (λ (o : Option TextLine). Ok (
      counted_step (item_seen c.item.new.buffer.items o),
      c.in-Ok-Some-default.after.now,
    )) c.in-Ok-Some-default.field-0-0-is)

pub lines-smaller : goal.lines-smaller
lines-smaller c =
    let w = written (goal.at.lines-smaller c).In-Ok-Some-default in
    item_shrinks.shorter c.lines.rest.now w.written c.in-Ok-Some-default.after.now w.read

pub returns-in-Ok-None-default : goal.returns-in-Ok-None-default
returns-in-Ok-None-default c =
    finishes c.args.bytes.now c.lines.builder c.lines.rest.now tt c.in-Ok-None-default.field-0-1.now c.lines.invariant
    (no_line c.lines.rest.now tt c.in-Ok-None-default.field-0-1.now
    (c.in-Ok-None-default.ensures ∙ ap
    (λ (o : Option TextLine). Ok (
      counted_step (item_seen c.item.new.buffer.items o),
      c.in-Ok-None-default.field-0-1.now,
    )) c.in-Ok-None-default.field-0-0-is))

pub returns-in_err-add-in-Ok-Some-default : goal.returns-in_err-add-in-Ok-Some-default
returns-in_err-add-in-Ok-Some-default c =
    let p = err_from_is_err_and c.from_residual.result c.from_residual.ensures.1 in
    let w = written (goal.at.returns-in_err-add-in-Ok-Some-default c).In-Ok-Some-default in
    let given = λ (s : List ℕ). counted (line_seen s c.in-Ok-Some-default.line) in
    let seen = subst (λ (s : List ℕ). Answers c.add.result (add_fault c.lines.builder (given s))) c.deref.ensures.value c.add.ensures.answer in
    let answer = subst (λ (line : Line). Answers c.add.result (add_fault c.lines.builder line)) (sym w.is) seen in
    rw (p.1, p.2)
    (fails_add c.add.result c.in_err-add-in-Ok-Some-default.field-0.0 c.args.bytes.now c.lines.builder c.lines.rest.now c.in-Ok-Some-default.after.now w.written c.in_err-add-in-Ok-Some-default.was c.lines.invariant w.read answer)

pub lines-preserved : goal.lines-preserved
lines-preserved c =
    let w = written (goal.at.lines-preserved c).In-Ok-Some-default in
    let given = λ (s : List ℕ). counted (line_seen s c.in-Ok-Some-default.line) in
    let fault = subst (λ (s : List ℕ). add_fault c.lines.builder (given s) ≡ None) c.deref.ensures.value c.in_ok-add-in-Ok-Some-default.ensures.answer in
    let grown = subst (λ (s : List ℕ). c.add.new.self ≡ c.lines.builder ++ given s ∷ []) c.deref.ensures.value c.in_ok-add-in-Ok-Some-default.ensures.ok in
    more c.args.bytes.now c.lines.builder c.add.new.self c.lines.rest.now c.in-Ok-Some-default.after.now w.written c.lines.invariant w.read
    (subst (λ (line : Line). add_fault c.lines.builder line ≡ None) (sym w.is) fault)
    (subst (λ (line : Line). c.add.new.self ≡ c.lines.builder ++ line ∷ []) (sym w.is) grown)
