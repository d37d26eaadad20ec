use Rattle.pg_hoa.proofs.Common.{◌∙◌, ◌-◌, sym, arith, one_shl}
use Rattle.pg_hoa.proofs.TableWords.{truth_none, on_above}
use Rattle.pg_hoa.proofs.Instructions.{fits_high, on_low}
use Rattle.pg_hoa.proofs.terms.literal.Goals as goal

pub returns-then-proposition-lt6 : goal.returns-then-proposition-lt6
returns-then-proposition-lt6 c = λ b j few small. c.whole.ensures b j ∙ c.mask.ensures j small
    ∙ on_low b j c.args.proposition c.if-proposition-lt6.true

pub returns-then-proposition-ge16 : goal.returns-then-proposition-ge16
returns-then-proposition-ge16 c = λ b j few small. c.whole-then-proposition-ge16.ensures b j ∙ truth_none j
    ∙ sym (on_above b j c.args.proposition few small c.if-proposition-ge16.true)

pub returns : goal.returns
returns c = λ b j few small. fits_high b j c.args.proposition _ c.if-proposition-lt6.false small
    (one_shl (c.args.proposition - 6) 16 (omega (arith, c.if-proposition-ge16.false)))
