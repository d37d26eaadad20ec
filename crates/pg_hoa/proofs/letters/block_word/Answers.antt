use Rattle.pg_hoa.proofs.Common.{◌∙◌, sym, ap, bit_and}
use Rattle.pg_hoa.proofs.TableWords.{truth_none}
use Rattle.pg_hoa.proofs.Instructions.{fits_there, fits_none}
use Rattle.pg_hoa.proofs.letters.block_word.Goals as goal

pub returns-then-block-from : goal.returns-then-block-from
returns-then-block-from c = λ j. fits_there c.args.block j c.args.term
    (ap (bit_and c.args.block) (sym c.from.ensures) ∙ c.if-block-from.true ∙ c.from-2.ensures)

pub returns-else-block-from : goal.returns-else-block-from
returns-else-block-from c = λ j. truth_none j
    ∙ fits_none c.args.block j c.args.term
    (λ e. c.if-block-from.false (ap (bit_and c.args.block) c.from.ensures ∙ e ∙ sym c.from-2.ensures))
