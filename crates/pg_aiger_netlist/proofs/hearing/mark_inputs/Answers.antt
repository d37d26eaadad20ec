use Rattle.std.proofs.Common.{◌≡◌, ◌+◌, ◌<◌, length, take, arith, sym, subst, ap, ◌∙◌}
use Rattle.std.proofs.lemmas.List.{take_all}
use Rattle.pg_aiger_netlist.specs.Mirrors.Hearing.{AreInputs}
use Rattle.pg_aiger_netlist.proofs.Deaf.{input_marked, none_yet}
use Rattle.pg_aiger_netlist.proofs.hearing.mark_inputs.Goals as goal

pub loop-literal-init : goal.loop-literal-init
loop-literal-init c = none_yet c.args.row.now c.requires.none

pub loop-literal-preserved : goal.loop-literal-preserved
loop-literal-preserved c =
    input_marked c.args.inputs.now c.loop-literal.literal-index 0 c.loop-literal.row c.loop-literal-test.true
    (let h = c.requires.within c.loop-literal.literal-index 0 c.loop-literal-test.true in let n = c.loop-literal.auto.row in omega (arith, h, n))
    c.loop-literal.invariant

pub returns-clause-inputs : goal.returns-clause-inputs
returns-clause-inputs c =
    subst (λ ls. AreInputs ls c.loop-literal.row) (take_all c.loop-literal.literal-index c.args.inputs.now c.loop-literal-test.false)
    c.loop-literal.invariant
