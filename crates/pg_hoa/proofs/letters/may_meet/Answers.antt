use Rattle.pg_hoa.proofs.Common.{◌∙◌, sym, ap, bit_and, false≢true, Decides-eqb}
use Rattle.pg_hoa.proofs.Instructions.{none_meets}
use Rattle.pg_hoa.proofs.letters.may_meet.Goals as goal

pub returns : goal.returns
returns c = λ e. none_meets c.args.run c.args.term
    (λ same. false≢true (sym e ∙ (Decides-eqb (bit_and c.args.run c.from.result) c.from-2.result).1
    (ap (bit_and c.args.run) c.from.ensures ∙ same ∙ sym c.from-2.ensures)))
