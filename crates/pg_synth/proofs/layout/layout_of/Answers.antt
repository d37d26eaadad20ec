use Rattle.pg_synth.proofs.Common.{◌≡◌, ◌^◌, List, Bool, map, arith, subst, ◌∙◌, range_with_len, joined, inputs, outputs}
use Rattle.pg_synth.proofs.Numbers.{few_answers, count}
use Rattle.pg_synth.proofs.layout.layout_of.Goals as goal

pub overflow_cast-width : goal.overflow_cast-width
overflow_cast-width c =
    let a = c.args.automaton.now in
    let marks : c.deref.result.now ≡ a.controllable = c.deref.ensures.value ∙ c.in_ok-controllable.ensures in
    let are = subst (λ (cs : List Bool). c.in_ok-inputs.inputs.items ≡ map (λ i. joined cs i 0)
    (range_with_len 0 (2 ^ inputs cs))) marks c.in_ok-inputs.ensures in
    let n = count (λ i. joined a.controllable i 0) c.in_ok-inputs.inputs.items (2 ^ inputs a.controllable) are in
    omega (arith, n, few_answers a c.requires, c.len.ensures, c.in_ok-inputs.inputs.ok.0)

pub overflow_add-width-2 : goal.overflow_add-width-2
overflow_add-width-2 c =
    let a = c.args.automaton.now in
    let marks : c.deref.result.now ≡ a.controllable = c.deref.ensures.value ∙ c.in_ok-controllable.ensures in
    let are = subst (λ (cs : List Bool). c.in_ok-inputs.inputs.items ≡ map (λ i. joined cs i 0)
    (range_with_len 0 (2 ^ inputs cs))) marks c.in_ok-inputs.ensures in
    let n = count (λ i. joined a.controllable i 0) c.in_ok-inputs.inputs.items (2 ^ inputs a.controllable) are in
    omega (arith, n, few_answers a c.requires, c.len.ensures, c.in_ok-inputs.inputs.ok.0, c.sets.ensures, c.requires.few_sets)

pub returns : goal.returns
returns c =
    let a = c.args.automaton.now in
    let marks : c.deref.result.now ≡ a.controllable = c.deref.ensures.value ∙ c.in_ok-controllable.ensures in
    let marks' : c.deref-2.result.now ≡ a.controllable = c.deref-2.ensures.value ∙ c.in_ok-controllable.ensures in
    let are = subst (λ (cs : List Bool). c.in_ok-inputs.inputs.items ≡ map (λ i. joined cs i 0)
    (range_with_len 0 (2 ^ inputs cs))) marks c.in_ok-inputs.ensures in
    let n = count (λ i. joined a.controllable i 0) c.in_ok-inputs.inputs.items (2 ^ inputs a.controllable) are in
    record {
      automaton = c.requires;
      inputs = are;
      outputs = subst (λ (cs : List Bool). c.in_ok-outputs.outputs.items ≡ map (λ o. joined cs 0 o)
          (range_with_len 0 (2 ^ outputs cs))) marks' c.in_ok-outputs.ensures;
      width = omega (arith, n, c.len.ensures, c.in_ok-inputs.inputs.ok.0, c.sets.ensures);
    }
