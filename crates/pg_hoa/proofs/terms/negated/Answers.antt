use Rattle.pg_hoa.proofs.Common.{◌∙◌, refl, arith, one_shl}
use Rattle.pg_hoa.proofs.Instructions.{turned_whole, turned_high, turned_low}
use Rattle.pg_hoa.proofs.terms.negated.Goals as goal

pub returns-then-term-eq0-2 : goal.returns-then-term-eq0-2
returns-then-term-eq0-2 c = λ b j small. c.whole.ensures b j
    ∙ turned_whole b c.args.term.word j c.args.term refl c.if-term-eq0.true c.if-term-eq0-2.true (omega arith) small

pub returns-then-term : goal.returns-then-term
returns-then-term c = λ b j small. turned_high b j _ c.args.term c.if-term-ne18446744073709551615.false
    (c.if-term-place.false ∙ one_shl _ 16 c.if-place-ge16.false) small c.if-term.true

pub returns-then-term-eq0-3 : goal.returns-then-term-eq0-3
returns-then-term-eq0-3 c = λ b j small. turned_low b j _ c.args.term c.if-term-ne18446744073709551615.false
    (c.if-term-place.false ∙ one_shl _ 16 c.if-place-ge16.false) small c.if-term-eq0-3.true
