use Rattle.std.proofs.Common.{◌≡◌, ◌+◌, ◌<◌, ◌++◌, [], length, map, take, arith, sym, subst, ap, ◌∙◌}
use Rattle.std.proofs.lemmas.List.{append-nil, take_all}
use Rattle.pg_aiger.specs.declared.gate.Gate.{Gate}
use Rattle.pg_aiger_netlist.specs.Netlists.{known_by, sources}
use Rattle.pg_aiger_netlist.specs.Mirrors.Hearing.{AreHeard}
use Rattle.pg_aiger_netlist.specs.Mirrors.Marks.{variable_of}
use Rattle.pg_aiger_netlist.proofs.Deaf.{gate_heard}
use Rattle.pg_aiger_netlist.proofs.hearing.mark_gates.Goals as goal

pub loop-gate-init : goal.loop-gate-init
loop-gate-init c = λ circuit ac order are.
    subst (λ known. AreHeard circuit known c.args.row.now) (sym (append-nil (known_by (sources circuit)))) are

pub loop-gate-preserved : goal.loop-gate-preserved
loop-gate-preserved c = λ circuit ac order are.
    let within = c.requires c.loop-gate.gate-index (record { lhs = 0; rhs0 = 0; rhs1 = 0 }) c.loop-gate-test.true in
    gate_heard circuit c.args.ordered.now c.loop-gate.gate-index (record { lhs = 0; rhs0 = 0; rhs1 = 0 }) c.loop-gate.row c.uses_marked.result ac order
    c.loop-gate-test.true (let h = within.lhs in let n = c.loop-gate.auto.row in omega (arith, h, n)) c.uses_marked.ensures
    (c.loop-gate.invariant circuit ac order are)

pub returns-clause-heard : goal.returns-clause-heard
returns-clause-heard c = λ circuit ac order are.
    subst (λ gs. AreHeard circuit (known_by (sources circuit) ++ map variable_of gs) c.loop-gate.row)
    (take_all c.loop-gate.gate-index c.args.ordered.now c.loop-gate-test.false) (c.loop-gate.invariant circuit ac order are)
