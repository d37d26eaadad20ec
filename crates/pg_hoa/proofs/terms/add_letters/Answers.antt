use Rattle.pg_hoa.proofs.Instructions.{fits_added}
use Rattle.pg_hoa.proofs.terms.add_letters.Goals as goal

pub returns-clause-added : goal.returns-clause-added
returns-clause-added c = λ is b j. fits_added b j c.args.term.now c.args.other c.if-term-other.false c.if-term-other-2.false
