use Rattle.std.proofs.Common.{◌≡◌, ℕ, ◌<◌, arith}
use Rattle.pg_cli_command.specs.Measuring.{IsClosedMapOf}
use Rattle.pg_cli.proofs.Telling.{never_listens}
use Rattle.pg_cli.proofs.apart.Programs.write_answer.Goals as goal

no_place : (n k : ℕ) → k < n → n ≡ 0 → ⊥
no_place n k inside none = omega (arith, inside, none)

pub returns-clause-alone : goal.returns-clause-alone
returns-clause-alone g c = λ none.
    c.answer_over-answered.ensures.honest (λ k d inside. absurd (no_place _ k inside (rw c.as_mut_slice-workers.ensures.value none)))

pub returns-clause-listened : goal.returns-clause-listened
returns-clause-listened g c =
    never_listens IsClosedMapOf c.args.command c.args.text.items (g.W.Write.contents c.args.writer.now)
    (g.W.Write.contents c.answer_over-answered.new.writer) c.answer_over-answered.result c.answer_over-answered.ensures.answer
