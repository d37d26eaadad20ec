use Rattle.std.proofs.Common.{take}
use Rattle.pg_satisfies_promises.specs.Mirrors.Alternatives.{AddsProducts}
use Rattle.pg_satisfies_promises.proofs.frame.products.Given as goal

abbrev pub invariant-loop-first : goal.invariant-loop-first
invariant-loop-first l = AddsProducts l.fn.nodes.items l.nodes.items l.places.items (take l.first-index l.firsts) l.seconds
