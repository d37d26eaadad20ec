use Rattle.pg_hoa.proofs.Common.{◌∙◌, sym, ap, refl, arith, drop_all, run, top, on_at, executed}
use Rattle.pg_hoa.proofs.Instructions.{executed_none, next_op}
use Rattle.pg_hoa.proofs.terms.instructions_of.Goals as goal

pub loop-op-init : goal.loop-op-init
loop-op-init c = λ b j few small. ap (λ l. run c.args.label.now (on_at b j) (executed l b j)) c.clear.ensures.items
    ∙ ap (run c.args.label.now (on_at b j)) (executed_none b j)

pub loop-op-preserved : goal.loop-op-preserved
loop-op-preserved c = λ b j few small.
    next_op c.args.label.now c.loop-op.op-index _ _ (on_at b j) (executed c.loop-op.instructions.items b j)
    (executed c.put.new.instructions.items b j)
    (omega arith) refl (c.in_ok-put.ensures b j few small) ∙ c.loop-op.invariant b j few small

pub returns : goal.returns
returns c = λ b j few small.
    ap (λ ops. top (run ops (on_at b j) (executed c.loop-op.instructions.items b j)))
    (sym (drop_all c.loop-op.op-index c.args.label.now c.loop-op-test.false))
    ∙ ap top (c.loop-op.invariant b j few small)
