use Rattle.pg_hoa.proofs.Common.{◌∙◌, ◌++◌, ◌∷◌, [], sym, ap, Both, BothTerm}
use Rattle.pg_hoa.proofs.Instructions.{both_term, both_joined, plain}
use Rattle.pg_hoa.proofs.terms.put_both.Goals as goal

pub returns-in_default : goal.returns-in_default
returns-in_default c =
    λ b j. plain Both c.args.instructions.now.items c.take_term.new.instructions.items c.push.new.self.items b j c.in_default.ensures.none
    c.in_ok-push.ensures.items

pub returns-in_default-take_term : goal.returns-in_default-take_term
returns-in_default-take_term c = λ b j.
    both_term c.args.instructions.now.items c.take_term.new.instructions.items c.push-in_default-take_term.new.self.items c.in-Some.right b
    j c.in-Some.ensures.some
    (c.in_ok-push-2.ensures.items ∙ ap (λ l. l ++ (BothTerm c.in-Some.right ∷ [])) c.in_default-take_term.ensures.none)

pub returns-in_ok-push-in-Some-joined : goal.returns-in_ok-push-in-Some-joined
returns-in_ok-push-in-Some-joined c = λ b j.
    both_joined c.args.instructions.now.items c.take_term.new.instructions.items c.take_term-2.new.instructions.items
    c.push-in-Some-joined.new.self.items c.in-Some-take_term.left c.in-Some.right c.in-Some-joined.term b j
    c.in-Some.ensures.some c.in-Some-take_term.ensures.some c.in_ok-push-in-Some-joined.ensures.items (c.in-Some-joined.ensures b j)

pub returns-in_ok-push-in-None-2 : goal.returns-in_ok-push-in-None-2
returns-in_ok-push-in-None-2 c = λ b j.
    both_term c.args.instructions.now.items c.take_term.new.instructions.items c.push-in-None-2.new.self.items c.in-Some.right b j
    c.in-Some.ensures.some
    (c.in_ok-push-in-None-2.ensures.items ∙ ap (λ l. l ++ (BothTerm c.in-Some.right ∷ [])) (c.in_ok-push-in-None.ensures.items
    ∙ sym c.in-Some-take_term.ensures.some))
