use Rattle.pg_aiger.proofs.Common.{rules, ◌≡◌, ℕ, ◌+◌, ◌*◌, ◌<◌, length, sym, subst, ap, ◌∙◌, All, Valuation, IsStepAt, number_of, Steps}
use Rattle.pg_aiger.proofs.Common.{GoesOn, Agrees, IsValued, viewed}
use Rattle.pg_aiger.proofs.Steps.{valued, nexts_in, steps_are, goes_on}
use Rattle.pg_aiger.proofs.circuit.Circuit.step.Goals as goal

pub number_of-requires-clause-literals_in : goal.number_of-requires-clause-literals_in
number_of-requires-clause-literals_in c =
    let latches : c.len-latches.result ≡ length c.self.inside.nexts.items = search rules in
    let count : length c.deref-4.result.now ≡ 1 + c.self.inside.inputs + length c.self.inside.nexts.items + length c.self.inside.gates.items =
    ap length c.deref-4.ensures.value ∙ c.in_ok-values.ensures.length
    ∙ ap (λ (b : ℕ). 1 + c.self.inside.inputs + b + length c.deref.result.now) latches
    ∙ ap (λ gs. 1 + c.self.inside.inputs + length c.self.inside.nexts.items + length gs) c.deref.ensures.value in
    subst (λ ns. All (λ literal. literal < 2 * length c.deref-4.result.now) ns) (sym c.deref-5.ensures.value)
    (subst (λ n. All (λ literal. literal < 2 * n) c.self.inside.nexts.items) (sym count)
    (nexts_in c.self.inside.inputs c.self.inside.nexts.items c.self.inside.outputs.items c.self.inside.gates.items c.self.invariant.numbered))

-- in each valuation of the step the outputs and the next literals spell what was read
each : (c : goal.After-drop-values) (v : Valuation)
    → IsStepAt (viewed c.self.inside.inputs c.self.inside.nexts.items c.self.inside.outputs.items c.self.inside.gates.items) c.args.bits.now c.args.inputs v
    → (c.number_of-output.result ≡ number_of v c.self.inside.outputs.items) × (c.number_of.result ≡ number_of v c.self.inside.nexts.items)
each c v is =
    let latches : c.len-latches.result ≡ length c.self.inside.nexts.items = search rules in
    let agrees : Agrees c.in_ok-values.values.items v =
    c.in_ok-values.ensures.agrees v
    (subst (λ gs. IsValued c.self.inside.inputs c.len-latches.result gs c.args.bits.now c.args.inputs v) (sym c.deref.ensures.value)
    (subst (λ b. IsValued c.self.inside.inputs b c.self.inside.gates.items c.args.bits.now c.args.inputs v) (sym latches)
    (valued c.self.inside.inputs c.self.inside.nexts.items c.self.inside.outputs.items c.self.inside.gates.items c.args.bits.now c.args.inputs v is))) in (
      c.number_of-output.ensures.value v (subst (λ l. Agrees l v) (sym c.deref-2.ensures.value) agrees) ∙ ap (number_of v) c.deref-3.ensures.value,
      c.number_of.ensures.value v (subst (λ l. Agrees l v) (sym c.deref-4.ensures.value) agrees) ∙ ap (number_of v) c.deref-5.ensures.value,
    )

pub returns-clause-step : goal.returns-clause-step
returns-clause-step c =
    subst (λ circuit. Steps circuit c.args.bits.now c.args.inputs c.number_of-output.result c.number_of.result) c.self.view_is
    (steps_are c.self.inside.inputs c.self.inside.nexts.items c.self.inside.outputs.items c.self.inside.gates.items c.args.bits.now c.args.inputs
    c.number_of-output.result c.number_of.result c.self.invariant.numbered (each c))

pub returns-clause-run : goal.returns-clause-run
returns-clause-run c =
    subst (λ circuit. GoesOn circuit c.args.bits.now c.args.inputs c.number_of-output.result c.number_of.result) c.self.view_is
    (goes_on c.self.inside.inputs c.self.inside.nexts.items c.self.inside.outputs.items c.self.inside.gates.items c.args.bits.now c.args.inputs
    c.number_of-output.result c.number_of.result (each c))
