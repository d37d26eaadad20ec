use Rattle.std.proofs.Common.{take}
use Rattle.pg_satisfies_promises.specs.Mirrors.Alternatives.{AddsFrames}
use Rattle.pg_satisfies_promises.proofs.frame.frame_each.Given as goal

abbrev pub invariant-loop-operand : goal.invariant-loop-operand
invariant-loop-operand l =
    AddsFrames l.fn.nodes.items l.nodes.items l.fn.places.items l.places.items l.frame (take l.operand-index l.operands)
