use Rattle.pg_hoa.proofs.Common.{◌∙◌, ◌+◌, ◌*◌, ◌∷◌, false, sym, ap, refl, arith, drop_all, top, truth_in, truths, execute_all}
use Rattle.pg_hoa.proofs.TableWords.{truths_none, zeros_say}
use Rattle.pg_hoa.proofs.Instructions.{from_false, next_instruction}
use Rattle.pg_hoa.proofs.letters.words_of.Goals as goal

pub loop-step-init : goal.loop-step-init
loop-step-init c = λ k j h small.
    from_false c.args.instructions.now (c.args.run * 16 + k) j _
    (ap (λ x. x ∷ truths k j c.clear.new.self.items) (zeros_say 16 k j h)
    ∙ ap (λ s. false ∷ s) (ap (truths k j) c.clear.ensures.items ∙ truths_none k j))

pub loop-step-preserved : goal.loop-step-preserved
loop-step-preserved c = λ k j h small.
    ap top (next_instruction c.args.instructions.now c.loop-step.step-index _ _ (c.args.run * 16 + k) j
    (truth_in c.loop-step.top k j ∷ truths k j c.loop-step.stack.items)
    (truth_in c.execute.new.top k j ∷ truths k j c.execute.new.stack.items)
    (omega arith) refl (c.in_ok-execute.ensures k j h small)) ∙ c.loop-step.invariant k j h small

pub returns : goal.returns
returns c = λ k j h small.
    ap (λ l. top (execute_all l (c.args.run * 16 + k) j (truth_in c.loop-step.top k j ∷ truths k j c.loop-step.stack.items)))
    (sym (drop_all c.loop-step.step-index c.args.instructions.now c.loop-step-test.false))
    ∙ c.loop-step.invariant k j h small
