use Rattle.std.proofs.Common.{rules, ◌≡◌, ◌≢◌, ℕ, ◌+◌, ◌*◌, ◌/◌, ◌%◌, ◌^◌, ◌<◌, ◌≤◌, true, false, eqb, inl, inr, List, [], ◌∷◌, ◌++◌, length, get_or, take, arith, refl, sym, subst, ap, ◌∙◌}
use Rattle.std.proofs.lemmas.List.{take_all}
use Rattle.pg_aiger_netlist.specs.Netlists.{known_by}
use Rattle.pg_aiger_netlist.specs.Mirrors.Lanes.{AreWords}
use Rattle.pg_aiger_netlist.proofs.Filling.{input_step}
use Rattle.pg_aiger_netlist.proofs.step.put_inputs.Goals as goal

pub loop-input-preserved : goal.loop-input-preserved
loop-input-preserved c = λ circuit state ac e are.
    input_step circuit state c.args.first c.args.inputs.now c.loop-input.input c.input_word.result c.loop-input.row ac e c.loop-input-test.true
    (let h = c.requires.within c.loop-input.input 0 c.loop-input-test.true in let n = c.loop-input.auto.row in omega (arith, h, n))
    c.input_word.ensures (c.loop-input.invariant circuit state ac e are)

pub returns : goal.returns
returns c = λ circuit state ac e are.
    subst (λ ls. AreWords circuit state c.args.first (known_by ls) c.loop-input.row)
    (take_all c.loop-input.input c.args.inputs.now c.loop-input-test.false) (c.loop-input.invariant circuit state ac e are)
