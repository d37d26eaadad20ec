use Rattle.pg_hoa.specs.declared.terms.Instruction.TheVariants.{Not}
use Rattle.pg_hoa.proofs.Instructions.{not_term, not_apart, plain}
use Rattle.pg_hoa.proofs.terms.put_not.Goals as goal

pub returns-in_default : goal.returns-in_default
returns-in_default c =
    λ b j small. plain Not c.args.instructions.now.items c.take_term.new.instructions.items c.push.new.self.items b j
    c.in_default.ensures.none c.in_ok-push.ensures.items

pub returns-in_ok-push-in-Some-negated : goal.returns-in_ok-push-in-Some-negated
returns-in_ok-push-in-Some-negated c =
    λ b j small. not_term c.args.instructions.now.items c.take_term.new.instructions.items c.push-in-Some-negated.new.self.items
    c.in-Some.term c.in-Some-negated.other b j c.in-Some.ensures.some c.in_ok-push-in-Some-negated.ensures.items
    (c.in-Some-negated.ensures b j small)

pub returns-in_ok-push-in-None-2 : goal.returns-in_ok-push-in-None-2
returns-in_ok-push-in-None-2 c =
    λ b j small. not_apart c.args.instructions.now.items c.take_term.new.instructions.items c.push-in-None.new.self.items
    c.push-in-None-2.new.self.items c.in-Some.term b j c.in-Some.ensures.some c.in_ok-push-in-None.ensures.items
    c.in_ok-push-in-None-2.ensures.items
