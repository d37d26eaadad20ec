use Rattle.pg_hoa.proofs.Common.{◌∙◌, ◌-◌, ◌/◌, ◌^◌, ◌==◌, sym, ap, arith, bit_and, shr_and_one}
use Rattle.pg_hoa.proofs.TableWords.{truth_all, truth_none, on_above, on_high, not_one}
use Rattle.pg_hoa.proofs.letters.high_mask.Goals as goal

pub returns-then-proposition-ge16 : goal.returns-then-proposition-ge16
returns-then-proposition-ge16 c = λ j h. truth_none j ∙ sym (on_above c.args.block j c.args.proposition c.requires.within h (omega arith))

pub returns-then-bit-eq1 : goal.returns-then-bit-eq1
returns-then-bit-eq1 c = λ j h. truth_all j h ∙ sym (on_high c.args.block j c.args.proposition c.requires.high h
    ∙ ap (λ b. b == 1) (sym (shr_and_one c.args.block (c.args.proposition - 6)) ∙ c.if-bit-eq1.true))

pub returns-else-bit-eq1 : goal.returns-else-bit-eq1
returns-else-bit-eq1 c = λ j h. truth_none j ∙ sym (on_high c.args.block j c.args.proposition c.requires.high h
    ∙ ap (λ b. b == 1) (sym (shr_and_one c.args.block (c.args.proposition - 6)))
    ∙ not_one (bit_and (c.args.block / 2 ^ (c.args.proposition - 6)) 1) c.if-bit-eq1.false)
