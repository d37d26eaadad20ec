use Rattle.pg_aiger.proofs.Common.{rules, ◌≡◌, ◌+◌, ◌&&◌, length, get_or, arith, sym, subst, ap, ◌∙◌, value, Gate, Agrees}
use Rattle.pg_aiger.proofs.Steps.{agree_push, gate_value, gate_bounds}
use Rattle.pg_aiger.proofs.circuit.evaluate.Goals as goal

pub loop-input-preserved : goal.loop-input-preserved
loop-input-preserved c = (
  search rules,
  λ v is. agree_push c.loop-input.values.items c.push-in-loop-input.new.self.items _ (1 + c.loop-input.input) v c.in_ok-push-2.ensures.items
      c.loop-input.invariant.0 (c.loop-input.invariant.1 v is) (sym (is.inputs_have c.loop-input.input c.loop-input-test.true)),
)

pub loop-latch-preserved : goal.loop-latch-preserved
loop-latch-preserved c = (
  search rules,
  λ v is. agree_push c.loop-latch.values.items c.push-in-loop-latch.new.self.items _ (1 + c.args.inputs + c.loop-latch.latch) v
      c.in_ok-push-3.ensures.items c.loop-latch.invariant.0 (c.loop-latch.invariant.1 v is)
      (sym (is.latches_have c.loop-latch.latch c.loop-latch-test.true)),
)

pub read-left-requires : goal.read-left-requires
read-left-requires c =
    let bounds = gate_bounds c.args.gates.now (1 + c.args.inputs + c.args.latches) c.loop-gate.gate-index (record { lhs = 0; rhs0 = 0; rhs1 = 0 })
    c.loop-gate-test.true c.requires.gates in
    let e : length c.deref.result.now ≡ length c.loop-gate.values.items = ap length c.deref.ensures.value in
    let f : length c.loop-gate.values.items ≡ (1 + c.args.inputs + c.args.latches) + c.loop-gate.gate-index = c.loop-gate.invariant.0 in
    omega (arith, bounds.0, e, f)

pub read-right-requires : goal.read-right-requires
read-right-requires c =
    let bounds = gate_bounds c.args.gates.now (1 + c.args.inputs + c.args.latches) c.loop-gate.gate-index (record { lhs = 0; rhs0 = 0; rhs1 = 0 })
    c.loop-gate-test.true c.requires.gates in
    let e : length c.deref-in-loop-gate.result.now ≡ length c.loop-gate.values.items = ap length c.deref-in-loop-gate.ensures.value in
    let f : length c.loop-gate.values.items ≡ (1 + c.args.inputs + c.args.latches) + c.loop-gate.gate-index = c.loop-gate.invariant.0 in
    omega (arith, bounds.1, e, f)

pub loop-gate-preserved : goal.loop-gate-preserved
loop-gate-preserved c = (
  search rules,
  λ v is. agree_push c.loop-gate.values.items c.push-in-loop-gate.new.self.items (c.read-left.result && c.read-right.result)
      ((1 + c.args.inputs + c.args.latches) + c.loop-gate.gate-index) v c.in_ok-push-4.ensures.items c.loop-gate.invariant.0
      (c.loop-gate.invariant.1 v is)
      (ap (λ q. q && c.read-right.result)
      (c.read-left.ensures v (subst (λ l. Agrees l v) (sym c.deref.ensures.value) (c.loop-gate.invariant.1 v is)))
      ∙ ap (λ q. value v (Gate.rhs0 (get_or c.args.gates.now c.loop-gate.gate-index (record { lhs = 0; rhs0 = 0; rhs1 = 0 }))) && q)
      (c.read-right.ensures v (subst (λ l. Agrees l v) (sym c.deref-in-loop-gate.ensures.value) (c.loop-gate.invariant.1 v is)))
      ∙ gate_value c.args.gates.now (1 + c.args.inputs + c.args.latches) c.loop-gate.gate-index v (record { lhs = 0; rhs0 = 0; rhs1 = 0 })
      c.loop-gate-test.true c.requires.gates is.gates_hold),
)
