use Rattle.pg_ltl.specs.Mirrors.Nodes.{normal_in}
use Rattle.pg_satisfies_check.specs.Mirrors.Steps.{circuit_of}
use Rattle.pg_satisfies.proofs.Attempting.{refuted}
use Rattle.pg_satisfies.proofs.refuting.judged.Goals as goal

pub returns-then-branch : goal.returns-then-branch
returns-then-branch c =
    let q = c.args.question in
    let s = c.args.system in
    refuted q.netlist.now (circuit_of s) s.literals.items q.literals.now (normal_in q.nodes.now c.args.place)
    c.in_ok-is_refuted-in-Satisfied.field-0 c.requires.part c.requires.literals c.if-branch.true c.in_ok-is_refuted-in-Satisfied.ensures
