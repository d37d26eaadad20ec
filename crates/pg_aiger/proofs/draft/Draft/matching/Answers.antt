use Rattle.pg_aiger.proofs.Common.{◌≡◌, ℕ, ◌+◌, ◌*◌, ◌/◌, ◌%◌, ◌^◌, ◌≤◌, ◌&&◌, cond, eqb, arith, sym, refl, ap, ◌∙◌, add-one, eq-eqb}
use Rattle.pg_aiger.proofs.Common.{ne_eqb, value, Drafted, Extends, number_at, spelling, conjunction_with}
use Rattle.pg_aiger.proofs.Matches.{extends_more, match_more}
use Rattle.pg_aiger.proofs.Exact.{spelling_more, conjunction_more}
use Rattle.pg_aiger.proofs.draft.Draft.matching.Goals.{then-number-j-eq1, else-number-j-eq1}
use Rattle.pg_aiger.proofs.draft.Draft.matching.Goals as goal

wider : (m k : ℕ) (a b : Drafted) → m ≤ k → Extends m a b → Extends k a b
wider m k a b le x = record { base = x.base; kept = x.kept; longer = x.longer; shorter = (let s = x.shorter in omega (arith, s)) }

pub returns-in_err-literal-clause-extends : goal.returns-in_err-literal-clause-extends
returns-in_err-literal-clause-extends c =
    wider (c.loop-j.j + 1) c.args.count c.args.self.now c.and.new.self (omega (arith, c.loop-j-test.true))
    (extends_more c.loop-j.j 1 (c.loop-j.j + 1) c.args.self.now c.loop-j.self c.and.new.self refl c.loop-j.invariant.0 c.and.ensures.extends)

pub loop-j-preserved : goal.loop-j-preserved
loop-j-preserved c =
    let negation : c.if-number-j-eq1.negation ≡ cond (eqb (c.args.number / 2 ^ c.loop-j.j % 2) 1) 0 1 =
    elim c.if-number-j-eq1.branch [
      | then-number-j-eq1 w ↦ rw (eq-eqb (c.args.number / 2 ^ c.loop-j.j % 2) 1 w.if-number-j-eq1.true) w.negation-is
      | else-number-j-eq1 w ↦ rw (ne_eqb (c.args.number / 2 ^ c.loop-j.j % 2) 1 w.if-number-j-eq1.false) w.negation-is
    ] in (
      extends_more c.loop-j.j 1 (c.loop-j.j + 1) c.args.self.now c.loop-j.self c.and.new.self refl c.loop-j.invariant.0 c.and.ensures.extends,
      c.in_ok-literal.ensures.literal,
      λ v constant s.
          c.in_ok-literal.ensures.meaning v constant s
          ∙ ap (λ q. q && value v (2 * (c.args.first + c.loop-j.j) + c.if-number-j-eq1.negation))
          (c.loop-j.invariant.2 v constant (c.and.ensures.extends.kept v s))
          ∙ match_more v (value v c.args.start) c.args.first c.loop-j.j c.args.number c.if-number-j-eq1.negation negation
          ∙ ap (λ i. value v c.args.start && eqb (number_at v c.args.first i) (c.args.number % 2 ^ i)) (sym (add-one c.loop-j.j)),
      ap (conjunction_with c.args.self.now c.args.start)
          (spelling_more c.args.first c.loop-j.j c.args.number c.if-number-j-eq1.negation negation)
          ∙ conjunction_more c.args.self.now c.loop-j.self c.and.new.self c.args.start c.loop-j.literal c.in_ok-literal.literal
          (spelling c.args.first c.loop-j.j c.args.number) c.loop-j.invariant.3
          (2 * (c.args.first + c.loop-j.j) + c.if-number-j-eq1.negation) c.in_ok-literal.ensures.made,
    )
