use Rattle.std.proofs.Common.{rules, ◌≡◌, ℕ, ◌+◌, ◌/◌, ◌%◌, ◌<◌, ◌≤◌, true, false, inl, inr, List, [], ◌++◌, length, get_or, take, arith, refl, sym, subst, ap, ◌∙◌}
use Rattle.std.specs.Prelude.{map, ◌&&◌}
use Rattle.std.proofs.lemmas.List.{append-nil, take_all}
use Rattle.pg_aiger.specs.declared.gate.Gate.{Gate}
use Rattle.pg_aiger_netlist.specs.Netlists.{known_by, sources}
use Rattle.pg_aiger_netlist.specs.Mirrors.Lanes.{AreWords, lane_value}
use Rattle.pg_aiger_netlist.specs.Mirrors.Marks.{variable_of}
use Rattle.pg_aiger.specs.Runs.{bit}
use Rattle.pg_aiger_netlist.proofs.Words.{bit_of_and}
use Rattle.pg_aiger_netlist.proofs.Filling.{gate_step}
use Rattle.pg_aiger_netlist.proofs.step.put_gates.Goals as goal

pub loop-gate-init : goal.loop-gate-init
loop-gate-init c = λ circuit state first ac order are.
    subst (λ known. AreWords circuit state first known c.args.row.now) (sym (append-nil (known_by (sources circuit)))) are

pub loop-gate-preserved : goal.loop-gate-preserved
loop-gate-preserved c = λ circuit state first ac order are.
    let g : Gate = get_or c.args.ordered.now c.loop-gate.gate-index (record { lhs = 0; rhs0 = 0; rhs1 = 0 }) in
    let within = c.requires c.loop-gate.gate-index (record { lhs = 0; rhs0 = 0; rhs1 = 0 }) c.loop-gate-test.true in
    gate_step circuit state first c.args.ordered.now c.loop-gate.gate-index _ c.loop-gate.row ac order c.loop-gate-test.true
    (let h = within.lhs in let n = c.loop-gate.auto.row in omega (arith, h, n))
    (λ lane l.
    bit_of_and c.word_at.result c.word_at-in-loop-gate.result lane
    ∙ ap (λ p. p && bit c.word_at-in-loop-gate.result lane) (c.word_at.ensures lane l)
    ∙ ap (λ q. lane_value c.loop-gate.row lane g.rhs0 && q) (c.word_at-in-loop-gate.ensures lane l))
    (c.loop-gate.invariant circuit state first ac order are)

pub returns : goal.returns
returns c = λ circuit state first ac order are.
    subst (λ gs. AreWords circuit state first (known_by (sources circuit) ++ map variable_of gs) c.loop-gate.row)
    (take_all c.loop-gate.gate-index c.args.ordered.now c.loop-gate-test.false) (c.loop-gate.invariant circuit state first ac order are)
