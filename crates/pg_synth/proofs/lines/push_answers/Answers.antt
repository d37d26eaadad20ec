use Rattle.pg_synth.proofs.Common.{◌≡◌, ℕ, ◌+◌, ◌++◌, map, arith, subst, range_with_len, joined, input_letters, place_identifier, Answer}
use Rattle.pg_synth.proofs.Lists.{pushed}
use Rattle.pg_synth.proofs.Numbers.{small, count, few_answers}
use Rattle.pg_synth.proofs.lines.push_answers.Goals as goal

pub overflow_cast-input-end : goal.overflow_cast-input-end
overflow_cast-input-end c =
    let a = c.args.automaton.now in
    let n = count (λ i. joined a.controllable i 0) c.args.layout.now.inputs.items (input_letters a) c.requires.laid.inputs in
    omega (arith, n, few_answers a c.requires.laid.automaton, c.len-input-end.ensures, c.args.layout.now.inputs.ok.0)

pub overflow_add-first : goal.overflow_add-first
overflow_add-first c =
    let a = c.args.automaton.now in
    let n = count (λ i. joined a.controllable i 0) c.args.layout.now.inputs.items (input_letters a) c.requires.laid.inputs in
    omega (
      arith,
      small a c.args.state c.requires.laid.automaton c.requires.state,
      c.first_answer-first.ensures,
      n,
      c.len-input-end.ensures,
      c.args.layout.now.inputs.ok.0,
      few_answers a c.requires.laid.automaton,
    )

pub loop-input-preserved : goal.loop-input-preserved
loop-input-preserved c =
    let a = c.args.automaton.now in
    let v : c.first_answer-first.result + c.loop-input.input ≡ place_identifier a (Answer c.args.state c.loop-input.input) =
    omega (arith, c.first_answer-first.ensures) in
    pushed (λ i. place_identifier a (Answer c.args.state i)) c.args.list.now.items c.loop-input.list.items c.push.new.self.items c.loop-input.input
    (c.first_answer-first.result + c.loop-input.input) c.loop-input.invariant c.in_ok-push.ensures.items v

pub returns : goal.returns
returns c =
    let a = c.args.automaton.now in
    let n = count (λ i. joined a.controllable i 0) c.args.layout.now.inputs.items (input_letters a) c.requires.laid.inputs in
    let all : c.loop-input.input ≡ input_letters a = omega (arith, n, c.len-input-end.ensures, c.args.layout.now.inputs.ok.0) in
    subst (λ (k : ℕ). c.loop-input.list.items ≡ c.args.list.now.items ++ map (λ i. place_identifier a (Answer c.args.state i)) (range_with_len 0 k)) all
    c.loop-input.invariant
