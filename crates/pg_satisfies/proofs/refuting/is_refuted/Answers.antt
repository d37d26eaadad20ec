use Rattle.std.proofs.Common.{subst}
use Rattle.std.specs.Prelude.{IfOk}
use Rattle.std.specs.Bool.{OnTrue}
use Rattle.pg_aiger.specs.Circuits.{Circuit}
use Rattle.pg_ltl.specs.Mirrors.Nodes.{normal_in}
use Rattle.pg_satisfies_check.specs.Satisfaction.{IsPartOf, IsUnsatisfied}
use Rattle.pg_satisfies_check.specs.Mirrors.Steps.{circuit_of}
use Rattle.pg_satisfies_check.specs.declared.system.CircuitPart.{CircuitPart}
use Rattle.pg_satisfies.proofs.refuting.is_refuted.Goals as goal

pub returns : goal.returns
returns c =
    subst (λ (s : CircuitPart). IfOk c.shows_empty.result (λ yes. OnTrue yes ((circuit : Circuit) → IsPartOf (circuit_of s) circuit
    → IsUnsatisfied circuit s.literals.items (normal_in c.args.nodes.now c.args.place)))) c.loop-number.invariant c.shows_empty.ensures
