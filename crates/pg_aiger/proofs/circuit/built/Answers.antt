use Rattle.pg_aiger.proofs.Common.{◌≡◌, ℕ, ◌+◌, length, arith, sym, subst, ap, ◌∙◌, IsWidth, IsCircuitOf, made_circuit, viewed, IsKept}
use Rattle.pg_aiger.proofs.Made.{kept, built_for, length_latches}
use Rattle.pg_aiger.proofs.Follows.{circuit_of_machine}
use Rattle.pg_aiger.proofs.circuit.built.Goals as goal

-- the parts make a circuit that can be kept
keeps : (c : goal.After-inputs) → IsKept c.args.machine.now.inputs c.in_ok-nexts.nexts.items c.in_ok-nexts.outputs.items c.in_ok-nexts.gates.items
keeps c =
    let made = c.in_ok-nexts.ensures.columns in
    let few = c.requires.machine.few_propositions in
    let width = made.width in
    let latches = c.in_ok-nexts.ensures.latches in
    let most = c.requires.few in
    kept c.args.machine.now c.in_ok-nexts.nexts.items c.in_ok-nexts.outputs.items c.in_ok-nexts.gates.items made (omega (arith, few))
    (omega (arith, latches, most)) (omega (arith, few, width))

pub invariant_of-result : goal.invariant_of-result
invariant_of-result c =
    subst (λ (k : ℕ). IsKept k c.in_ok-nexts.nexts.items c.in_ok-nexts.outputs.items c.in_ok-nexts.gates.items) (sym c.inputs.ensures) (keeps c)

pub returns : goal.returns
returns c =
    let ns = c.in_ok-nexts.nexts.items in
    let circuit = viewed c.args.machine.now.inputs ns c.in_ok-nexts.outputs.items c.in_ok-nexts.gates.items in
    let count : length circuit.latches ≡ c.args.latches = length_latches (1 + c.args.machine.now.inputs) ns ∙ c.in_ok-nexts.ensures.latches in
    let within = (keeps c).within in
    subst (λ (k : ℕ). IsCircuitOf c.args.machine.now (viewed k ns c.in_ok-nexts.outputs.items c.in_ok-nexts.gates.items)) (sym c.inputs.ensures)
    (circuit_of_machine c.args.machine.now circuit c.requires.machine (subst (IsWidth c.args.machine.now.states) (sym count) c.requires.width)
    (omega (arith, within)) (c.in_ok-nexts.ensures.made ∙ ap (made_circuit c.args.machine.now) (sym count))
    (built_for c.args.machine.now ns c.in_ok-nexts.outputs.items c.in_ok-nexts.gates.items c.in_ok-nexts.ensures.columns))
