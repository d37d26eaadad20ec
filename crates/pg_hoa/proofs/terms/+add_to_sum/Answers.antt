use Rattle.pg_hoa.proofs.Instructions.{sum_put, sum_term, sum_under}
use Rattle.pg_hoa.proofs.terms.+add_to_sum.Goals as goal

pub returns-in-Put-clause-added : goal.returns-in-Put-clause-added
returns-in-Put-clause-added t c = λ is b j.
    sum_put c.args.instructions.now c.in-Some.before.now c.in-Some.last.now c.in-Put.other c.args.term c.add_letters.new.term b j
    c.in-Some.ensures.cases.0 c.in-Put.is (c.add_letters.ensures.added is b j)

pub returns-then-add_letters-clause-added : goal.returns-then-add_letters-clause-added
returns-then-add_letters-clause-added t c = λ is b j.
    sum_term c.args.instructions.now c.in-Some.before.now c.in-Some.last.now c.in-EitherTerm.other c.args.term
    c.add_letters-in-EitherTerm.new.term b j c.in-Some.ensures.cases.0 c.in-EitherTerm.is (c.add_letters-in-EitherTerm.ensures.added is b j)

pub returns-then-further-gt0-clause-added : goal.returns-then-further-gt0-clause-added
returns-then-further-gt0-clause-added t c = λ is b j.
    sum_under c.args.instructions.now c.in-Some.before.now c.add_to_sum.new.instructions c.in-Some.last.now c.in-EitherTerm.other
    c.args.term
    c.add_letters-in-EitherTerm.new.term b j c.in-Some.ensures.cases.0 c.in-EitherTerm.is
    (c.add_letters-in-EitherTerm.ensures.kept c.if-add_letters.false) (c.add_to_sum.ensures.added is b j)
