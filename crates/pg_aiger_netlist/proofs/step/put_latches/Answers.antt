use Rattle.std.proofs.Common.{rules, ◌≡◌, ℕ, ◌+◌, ◌/◌, ◌%◌, ◌<◌, ◌≤◌, true, false, inl, inr, List, [], ◌++◌, length, get_or, take, arith, refl, sym, subst, ap, ◌∙◌}
use Rattle.std.specs.Prelude.{map}
use Rattle.std.proofs.lemmas.List.{append-nil, take_all}
use Rattle.pg_aiger.specs.declared.gate.Latch.{Latch}
use Rattle.pg_aiger.specs.Runs.{bit}
use Rattle.pg_aiger_netlist.specs.Netlists.{known_by}
use Rattle.pg_aiger_netlist.specs.Steps.{spelt}
use Rattle.pg_aiger_netlist.specs.Mirrors.Lanes.{AreWords}
use Rattle.pg_aiger_netlist.proofs.Words.{bit_of_all, bit_of_none}
use Rattle.pg_aiger_netlist.proofs.Filling.{latch_step}
use Rattle.pg_aiger_netlist.proofs.step.put_latches.Goals.{then-latches-place, else-latches-place}
use Rattle.pg_aiger_netlist.proofs.step.put_latches.Goals as goal

pub loop-place-init : goal.loop-place-init
loop-place-init c = λ circuit first ac e are.
    subst (λ ls. AreWords circuit (spelt c.args.latches.now) first (known_by ls) c.args.row.now) (sym (append-nil circuit.inputs)) are

pub loop-place-preserved : goal.loop-place-preserved
loop-place-preserved c = λ circuit first ac e are.
    let lt : (get_or c.args.lines.now c.loop-place.place (record { literal = 0; next = 0 })).literal / 2 < length c.loop-place.row =
    (let h = c.requires.within c.loop-place.place (record { literal = 0; next = 0 }) c.loop-place-test.true in
    let n = c.loop-place.auto.row in omega (arith, h, n)) in
    latch_step circuit c.args.latches.now first c.args.lines.now c.loop-place.place c.if-latches-place.row c.loop-place.row _ ac e
    c.loop-place-test.true c.requires.many lt
    (λ lane l. elim c.if-latches-place.branch [
      | then-latches-place w ↦ ap (λ n. bit n lane) w.row-is ∙ bit_of_all lane l ∙ sym w.if-latches-place.true
      | else-latches-place w ↦ ap (λ n. bit n lane) w.row-is ∙ bit_of_none lane ∙ sym w.if-latches-place.false
    ]) refl (c.loop-place.invariant circuit first ac e are)

pub returns : goal.returns
returns c = λ circuit first ac e are.
    subst (λ ls. AreWords circuit (spelt c.args.latches.now) first (known_by (circuit.inputs ++ map Latch.literal ls)) c.loop-place.row)
    (take_all c.loop-place.place c.args.lines.now c.loop-place-test.false ∙ sym e) (c.loop-place.invariant circuit first ac e are)
