use Rattle.pg_hoa.proofs.Common.{◌∙◌, ◌∷◌, cond, false, true, ap, Put, top, under, executed}
use Rattle.pg_hoa.proofs.TableWords.{truth_all, truth_none}
use Rattle.pg_hoa.proofs.Instructions.{executed_more}
use Rattle.pg_hoa.proofs.terms.put.Goals as goal

pub returns-in_ok-push-in-Yes : goal.returns-in_ok-push-in-Yes
returns-in_ok-push-in-Yes c = λ b j few small. rw c.in-Yes.is (executed_more c.args.instructions.now.items c.push.new.self.items
    (Put c.whole.result) b j c.in_ok-push-in-Yes.ensures.items
    ∙ ap (λ x. x ∷ executed c.args.instructions.now.items b j) (c.whole.ensures b j
    ∙ truth_all j small))

pub returns-in_ok-push-in-No : goal.returns-in_ok-push-in-No
returns-in_ok-push-in-No c = λ b j few small. rw c.in-No.is (executed_more c.args.instructions.now.items c.push-in-No.new.self.items
    (Put c.whole-in-No.result) b j c.in_ok-push-in-No.ensures.items ∙ ap (λ x. x ∷ executed c.args.instructions.now.items b j)
    (c.whole-in-No.ensures b j ∙ truth_none j))

pub returns-in_ok-push-in-Proposition : goal.returns-in_ok-push-in-Proposition
returns-in_ok-push-in-Proposition c =
    λ b j few small. rw c.in-Proposition.is (executed_more c.args.instructions.now.items c.push-in-Proposition.new.self.items
    (Put c.literal.result) b j c.in_ok-push-in-Proposition.ensures.items
    ∙ ap (λ x. x ∷ executed c.args.instructions.now.items b j) (c.literal.ensures b j few small))

pub returns-in_ok-push-in-Inf : goal.returns-in_ok-push-in-Inf
returns-in_ok-push-in-Inf c = λ b j few small. rw c.in-Inf.is (executed_more c.args.instructions.now.items c.push-in-Inf.new.self.items
    (Put c.literal-in-Inf.result) b j c.in_ok-push-in-Inf.ensures.items
    ∙ ap (λ x. x ∷ executed c.args.instructions.now.items b j) (c.literal-in-Inf.ensures b j few small))

pub returns-in_ok-put_not-in-Fin : goal.returns-in_ok-put_not-in-Fin
returns-in_ok-put_not-in-Fin c = λ b j few small. rw c.in-Fin.is (c.in_ok-put_not-in-Fin.ensures b j small
    ∙ ap (λ s. cond (top s) false true ∷ under s) (executed_more c.args.instructions.now.items c.push-in-Fin.new.self.items
    (Put c.literal-in-Fin.result) b j c.in_ok-push-in-Fin.ensures.items
    ∙ ap (λ x. x ∷ executed c.args.instructions.now.items b j) (c.literal-in-Fin.ensures b j few small)))
