use Rattle.pg_hoa.proofs.Common.{◌≡◌, ◌∙◌, ◌<◌, ℕ, List, Bor, sym, subst, arith, map, All}
use Rattle.std.specs.Prelude.{Contains}
use Rattle.pg_hoa_syntax.specs.Syntax.{IsText}
use Rattle.pg_hoa_syntax.specs.Headers.{with_controls}
use Rattle.pg_hoa.specs.Outputs.{outputs}
use Rattle.pg_hoa.proofs.NamedOutputs.{given_spelt, outputs_below, all_map}
use Rattle.pg_hoa.proofs.outputs.with_outputs.Goals as goal

pub returns-in-Ok-true-clause-refused : goal.returns-in-Ok-true-clause-refused
returns-in-Ok-true-clause-refused c =
    let s = c.in_ok-automaton.ensures.found in
    record {
      automaton = c.in_ok-automaton.automaton;
      spelt = s;
      header = sym (c.in-Ok-true.ensures s.written s.text) ∙ c.in-Ok-true.field-0-test;
    }

pub returns-in-Some-clause-refused : goal.returns-in-Some-clause-refused
returns-in-Some-clause-refused c =
    let s = c.in_ok-automaton.ensures.found in
    record {
      automaton = c.in_ok-automaton.automaton;
      spelt = s;
      free = sym (c.in-Ok-false.ensures s.written s.text) ∙ c.in-Ok-false.field-0-test;
      lacks = c.in-Some.ensures;
    }

pub with_controls-requires : goal.with_controls-requires
with_controls-requires c =
    let names = map (λ (name : Bor (List ℕ)). name.now) c.args.names.now in
    let a = c.in_ok-automaton.automaton in
    let few : All (λ n. n < 16) (outputs names a) =
    λ k d lt. omega (arith, outputs_below names a k d lt, c.in_ok-automaton.ensures.found.says.few_propositions) in
    subst (All (λ n. n < 16)) (sym (c.deref.ensures.value ∙ c.in_ok-numbers.ensures.value)) few

pub returns-in-Ok-clause-found : goal.returns-in-Ok-clause-found
returns-in-Ok-clause-found c =
    let names = map (λ (name : Bor (List ℕ)). name.now) c.args.names.now in
    let a = c.in_ok-automaton.automaton in
    let s = c.in_ok-automaton.ensures.found in
    let free = sym (c.in-Ok-false.ensures s.written s.text) ∙ c.in-Ok-false.field-0-test in
    let written = subst (λ (ns : List ℕ). IsText c.in-Ok.text.items (with_controls ns s.written))
    (c.deref.ensures.value ∙ c.in_ok-numbers.ensures.value) (c.in-Ok.ensures s.written s.text) in
    record {
      automaton = a;
      spelt = s;
      free = free;
      known = all_map (Contains a.propositions) (λ (name : Bor (List ℕ)). name.now) c.args.names.now c.in-None.ensures;
      given = given_spelt c.args.bytes.now c.in-Ok.text.items names a s free (outputs_below names a) written;
    }
