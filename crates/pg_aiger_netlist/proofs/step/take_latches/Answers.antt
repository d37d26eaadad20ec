use Rattle.std.proofs.Common.{◌≡◌, ℕ, ◌<◌, length, arith, refl, sym, ◌∙◌}
use Rattle.std.specs.Prelude.{map}
use Rattle.std.proofs.lemmas.List.{length-map}
use Rattle.pg_aiger.specs.declared.gate.Latch.{Latch}
use Rattle.pg_aiger_netlist.proofs.Words.{spelt_number}
use Rattle.pg_aiger_netlist.proofs.step.take_latches.Goals as goal

pub returns : goal.returns
returns c = λ v same.
    let n = length-map c.args.lines.now Latch.next in
    spelt_number v c.loop-place.latches (map Latch.next c.args.lines.now)
    (let a = c.loop-place.auto.latches in let b = c.requires.many in omega (arith, a, b, n))
    (λ j h.
    let k : j < length c.args.lines.now = omega (arith, h, n) in
    let t = c.loop-place-test.false in
    c.loop-place.invariant j (omega (arith, k, t)) ∙ same j k)
