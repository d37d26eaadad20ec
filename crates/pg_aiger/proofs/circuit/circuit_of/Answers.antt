use Rattle.pg_aiger.proofs.Common.{◌≡◌, ◌↔◌, ◌+◌, ◌*◌, Result, Ok, Err, arith, refl, subst, IsErrAnd, Machine, AigerFault, OutOfMemory}
use Rattle.pg_aiger.proofs.Common.{TooLarge, Circuit, IsWidth, IsTooLarge, count_ahead}
use Rattle.pg_aiger.proofs.Made.{too_large}
use Rattle.pg_aiger.proofs.circuit.circuit_of.Goals as goal

-- want of memory is another fault
other_fault : (machine : Machine) (r : Result Circuit AigerFault) → IsErrAnd r (λ e. e ≡ OutOfMemory) → ¬ IsTooLarge machine
    → (r ≡ Err TooLarge) ↔ IsTooLarge machine
other_fault machine (Ok circuit) is none = absurd is
other_fault machine (Err fault) is none = (λ e. cc, λ large. absurd (none large))

pub returns-in_err-built-clause-too_large : goal.returns-in_err-built-clause-too_large
returns-in_err-built-clause-too_large c = other_fault c.args.machine.now c.from_residual.result c.from_residual.ensures.1 (λ large.
    let width = subst (λ n. IsWidth n c.latches_for-latches.result) c.states.ensures.value c.latches_for-latches.ensures.width in
    let over = too_large c.args.machine.now c.latches_for-latches.result width large in
    let same : count_ahead c.args.machine.now c.latches_for-latches.result ≡ c.inputs-2.result + c.latches_for-latches.result
    + c.places_of.result * (c.inputs.result + 2 * c.latches_for-latches.result + c.outputs.result) =
    rw (c.places_of.ensures.count, c.inputs.ensures, c.inputs-2.ensures, c.outputs.ensures) refl in
    omega (arith, over, same))

pub returns-clause-too_large : goal.returns-clause-too_large
returns-clause-too_large c = (
  λ e. cc,
  λ large.
      let width = subst (λ n. IsWidth n c.latches_for-latches.result) c.states.ensures.value c.latches_for-latches.ensures.width in
      let over = too_large c.args.machine.now c.latches_for-latches.result width large in
      let same : count_ahead c.args.machine.now c.latches_for-latches.result ≡ c.inputs-2.result + c.latches_for-latches.result
      + c.places_of.result * (c.inputs.result + 2 * c.latches_for-latches.result + c.outputs.result) =
      rw (c.places_of.ensures.count, c.inputs.ensures, c.inputs-2.ensures, c.outputs.ensures) refl in
      absurd (omega (arith, over, same)),
)
