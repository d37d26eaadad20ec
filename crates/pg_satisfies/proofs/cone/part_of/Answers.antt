use Rattle.std.proofs.Common.{List, get_or, subst}
use Rattle.std.specs.Prelude.{All, Contains}
use Rattle.pg_aiger.specs.declared.gate.Latch.{Latch}
use Rattle.pg_satisfies.proofs.cone.part_of.Goals as goal

pub returns-clause-gates : goal.returns-clause-gates
returns-clause-gates c = λ k d lt.
    (c.ordered_gates.ensures.same (get_or c.in_ok-marked_gates.field-0.items k d)).0 (c.in_ok-marked_gates.ensures k d lt)

pub returns-clause-latches : goal.returns-clause-latches
returns-clause-latches c =
    subst (λ (ls : List Latch). All (Contains ls) c.in_ok-marked_latches.field-0.items) c.latch_lines.ensures c.in_ok-marked_latches.ensures
