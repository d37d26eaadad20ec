use Rattle.pg_aiger.proofs.Common.{◌+◌, ◌*◌, ◌^◌, ◌<◌, ◌≤◌, All, arith, length, IsKept}
use Rattle.pg_aiger.proofs.Wholes.{whole, sound, matched}
use Rattle.pg_aiger.proofs.parts.are_parts.Goals as goal

pub returns-then-not-are_gates : goal.returns-then-not-are_gates
returns-then-not-are_gates c = λ kept. c.if-not-are_gates.ensures (sound c.args.inputs c.args.nexts.now c.args.outputs.now c.args.gates.now kept).gates_from

pub returns-then-not-are_below : goal.returns-then-not-are_below
returns-then-not-are_below c = λ kept. c.if-not-are_below.ensures (sound c.args.inputs c.args.nexts.now c.args.outputs.now c.args.gates.now kept).nexts_below

pub returns : goal.returns
returns c =
    let ns = c.args.nexts.now in
    let os = c.args.outputs.now in
    let gs = c.args.gates.now in
    matched c.are_below-2.result (All (λ literal. literal < 2 * (1 + c.args.inputs + length ns + length gs)) os) (IsKept c.args.inputs ns os gs)
    (λ outputs. whole c.args.inputs ns os gs (omega arith) (omega arith) (omega arith) (omega arith) c.if-not-are_gates.ensures c.if-not-are_below.ensures outputs)
    (λ kept. (sound c.args.inputs ns os gs kept).outputs_below) c.are_below-2.ensures
