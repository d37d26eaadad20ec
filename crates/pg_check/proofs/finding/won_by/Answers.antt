use Rattle.pg_check.proofs.Common.{◌≡◌, ◌+◌, length, arith, refl, sym, subst, ◌∙◌, length-replicate}
use Rattle.pg_check.proofs.Chosen.{AnswersUpto, answers_more}
use Rattle.pg_check.proofs.OneParity.{WinsAnyhow, wins_anyhow}
use Rattle.pg_check.proofs.finding.won_by.Goals as goal

pub loop-number-init : goal.loop-number-init
loop-number-init c = record {
  whole = subst (λ s. length s ≡ length c.args.game.now) (sym c.in_ok-solution.ensures) (length-replicate (length c.args.game.now) _);
  answers = λ u lt. absurd (omega arith);
}

pub set-requires : goal.set-requires
set-requires c = let whole = c.loop-number.invariant.whole in omega arith

pub loop-number-preserved : goal.loop-number-preserved
loop-number-preserved c =
    let game = c.args.game.now in
    let v = c.loop-number.number in
    subst (λ s. AnswersUpto game (WinsAnyhow game c.args.winner) s (v + 1)) (sym c.set.ensures)
    (answers_more game (WinsAnyhow game c.args.winner) c.loop-number.solution v _ (omega arith) c.loop-number.invariant
    (record { wins = refl; chooses = c.first_choice.ensures }))

pub returns : goal.returns
returns c = wins_anyhow c.args.game.now c.args.winner c.loop-number.solution c.loop-number.number c.len-number-end.ensures.game c.requires (omega arith)
    c.loop-number.invariant
