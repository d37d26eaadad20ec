use Rattle.std.proofs.Common.{◌≡◌, ◌*◌, ◌^◌, arith, refl}
use Rattle.pg_aiger.proofs.Made.{few_places}
use Rattle.pg_aiger.proofs.circuit.places_of.Goals as goal

pub returns : goal.returns
returns c =
    let few = few_places c.args.machine.now c.requires in
    let same : c.states.result * 2 ^ c.inputs.result ≡ c.args.machine.now.states * 2 ^ c.args.machine.now.inputs =
    rw (c.states.ensures.value, c.inputs.ensures) refl in
    record { count = omega (arith, few, same); few = omega (arith, few, same) }
