use Rattle.pg_check.proofs.Common.{◌≡◌, inl, inr, arith, sym, subst, ◌∙◌, cases_lt, Even, Odd, dual, winner, game_line, IsCertifiedBy}
use Rattle.pg_check.proofs.Common.{IsCertifiedFor}
use Rattle.pg_check.proofs.Certified.{sound_from_certificate}
use Rattle.pg_check.proofs.certificate.certifies.Goals.{in-Even, in-Odd}
use Rattle.pg_check.proofs.certificate.certifies.Goals as goal

pub loop-number-preserved : goal.loop-number-preserved
loop-number-preserved c v lt = elim (cases_lt v c.loop-number.number) [
  | inl below ↦ c.loop-number.invariant v below
  | inr past ↦
      let e : c.loop-number.number ≡ v = omega arith in
      subst (λ u. IsCertifiedFor (winner c.args.solution.now u) c.args.game.now c.args.even.now c.args.odd.now c.args.solution.now u) e
      (elim c.match-winner.branch [
        | in-Even w ↦
            let won : Even ≡ winner c.args.solution.now c.loop-number.number = let e = w.in-Even.is in cc in
            subst (λ p. IsCertifiedFor p c.args.game.now c.args.even.now c.args.odd.now c.args.solution.now c.loop-number.number) won
            (w.is_certified_by-is_certified.ensures.0 (sym w.is_certified-is ∙ c.if-not-is_certified.false))
        | in-Odd w ↦
            let won : Odd ≡ winner c.args.solution.now c.loop-number.number = let e = w.in-Odd.is in cc in
            subst (λ p. IsCertifiedFor p c.args.game.now c.args.even.now c.args.odd.now c.args.solution.now c.loop-number.number) won
            (subst (λ game. IsCertifiedBy c.args.odd.now.bounds
            (game_line (dual game)) c.args.odd.now.measures c.args.game.now c.args.solution.now c.loop-number.number)
            c.of-dual.ensures (w.is_certified_by-is_certified-in-Odd.ensures.0 (sym w.is_certified-is ∙ c.if-not-is_certified.false)))
      ])
]

pub returns-clause-sound : goal.returns-clause-sound
returns-clause-sound c = λ yes.
    sound_from_certificate c.args.game.now c.args.even.now c.args.odd.now c.args.solution.now
    (λ v lt. c.loop-number.invariant v (omega arith)) c.len-count.ensures.game
