use Rattle.std.proofs.Common.{◌≡◌, ◌∙◌, ℕ, refl, inr, Option, Some, None, IfSome, unwrap_or}
use Rattle.pg_cli_command.specs.Measuring.{IsClosedMapOf, IsMeasureOf}
use Rattle.pg_cli_command.proofs.Outcomes.{answered_known}
use Rattle.pg_cli_words.specs.Commands.{workers_of}
use Rattle.pg_cli.proofs.apart.run_apart.Goals as goal

none_or_none : (workers : Option ℕ) → IfSome workers (λ n. n ≡ 0) → unwrap_or workers 0 ≡ 0
none_or_none None none = refl
none_or_none (Some n) none = none

pub returns-clause-answer : goal.returns-clause-answer
returns-clause-answer g c =
    inr (answered_known IsClosedMapOf c.args.command (g.R.Read.remaining c.args.reader.now) (g.W.Write.contents c.args.writer.now)
    (g.W.Write.contents c.write_answer.new.writer) c.in_ok-text.text.items c.write_answer.result c.in_ok-text.ensures.bytes
    c.write_answer.ensures.answer)

pub returns-clause-alone : goal.returns-clause-alone
returns-clause-alone g c = λ none.
    answered_known IsMeasureOf c.args.command (g.R.Read.remaining c.args.reader.now) (g.W.Write.contents c.args.writer.now)
    (g.W.Write.contents c.write_answer.new.writer) c.in_ok-text.text.items c.write_answer.result c.in_ok-text.ensures.bytes
    (c.write_answer.ensures.alone (c.in_ok-programs.ensures.ok ∙ none_or_none (workers_of c.args.command) none))
