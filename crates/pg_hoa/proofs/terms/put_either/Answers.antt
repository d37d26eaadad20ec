use Rattle.pg_hoa.proofs.Common.{◌∙◌, ◌++◌, ◌∷◌, [], drop, length, ap, Either, EitherTerm, executed}
use Rattle.pg_hoa.proofs.Instructions.{either_term, either_joined, given_back, plain}
use Rattle.pg_hoa.proofs.terms.put_either.Goals as goal

pub returns-in_default : goal.returns-in_default
returns-in_default c = λ b j. plain Either c.args.instructions.now.items c.take_term.new.instructions.items c.push.new.self.items b j
    c.in_default.ensures.none c.in_ok-push.ensures.items

pub returns-in_ok-push-2 : goal.returns-in_ok-push-2
returns-in_ok-push-2 c = λ b j.
    either_term c.args.instructions.now.items c.take_term.new.instructions.items c.push-then-not-add_to_sum.new.self.items c.in-Some.right b
    j
    c.in-Some.ensures.some (c.in_ok-push-2.ensures.items ∙ ap (λ l. l ++ (EitherTerm c.in-Some.right ∷ []))
    (given_back c.take_term.new.instructions.len c.add_to_sum.new.instructions
    (drop (length c.add_to_sum.new.instructions) c.take_term.new.instructions.items)
    (c.add_to_sum.auto.instructions ∙ c.deref_mut.ensures.len) ∙ c.add_to_sum.ensures.kept c.if-not-add_to_sum.true
    ∙ c.deref_mut.ensures.value))

pub returns-else-not-add_to_sum : goal.returns-else-not-add_to_sum
returns-else-not-add_to_sum c = λ b j.
    ap (λ l. executed l b j) (given_back c.take_term.new.instructions.len c.add_to_sum.new.instructions
    (drop (length c.add_to_sum.new.instructions) c.take_term.new.instructions.items)
    (c.add_to_sum.auto.instructions ∙ c.deref_mut.ensures.len))
    ∙ either_joined c.args.instructions.now.items c.take_term.new.instructions.items c.deref_mut.result.now c.add_to_sum.new.instructions
    c.in-Some.right b j
    c.in-Some.ensures.some c.deref_mut.ensures.value (c.add_to_sum.ensures.added c.if-not-add_to_sum.false b j)
