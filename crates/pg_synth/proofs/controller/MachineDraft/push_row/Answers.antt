use Rattle.pg_synth.proofs.Common.{◌≡◌, ℕ, ◌+◌, ◌*◌, ◌<◌, List, [], ◌∷◌, Option, Some, IsSome, length, length-append, arith, refl, sym}
use Rattle.pg_synth.proofs.Common.{subst, ap, ◌∙◌, GameVertex, vertex_at, Automaton, joined, StandsFor, IsGameOfAutomaton, input_letters}
use Rattle.pg_synth.proofs.Common.{place_identifier, FollowsAt, IsNumbered, state_of, Reply, Answer}
use Rattle.pg_synth.proofs.Choosing.{first_of_row, in_a_row}
use Rattle.pg_synth.proofs.Drafting.{drafted, longer}
use Rattle.pg_synth.proofs.Numbers.{count, few_answers}
use Rattle.pg_synth.proofs.controller.MachineDraft.push_row.Goals as goal

pub unwrap-first-requires : goal.unwrap-first-requires
unwrap-first-requires c =
    let same : state_of c.as_slice.result.now c.args.number ≡ state_of c.args.self.now.states.keys c.args.number =
    ap (λ xs. state_of xs c.args.number) c.as_slice.ensures.keys in
    let below = c.requires.draft.below c.args.number c.requires.number in
    let first = first_of_row c.args.automaton.now c.args.synth.now.game (state_of c.as_slice.result.now c.args.number) c.first_answer.result c.vertex_of.result
    c.requires.won.game_of (omega (arith, same, below)) c.first_answer.ensures c.vertex_of.ensures.only in
    subst IsSome (sym first.1) refl

pub overflow_cast-input-end : goal.overflow_cast-input-end
overflow_cast-input-end c =
    let a = c.args.automaton.now in
    let n = count (λ i. joined a.controllable i 0) c.args.layout.now.inputs.items (input_letters a) c.requires.laid.inputs in
    omega (arith, n, few_answers a c.requires.laid.automaton, c.len-input-end.ensures, c.args.layout.now.inputs.ok.0)

-- the vertex of the answer to an input letter
row : (a : Automaton) (game : List GameVertex) (listed keys : List ℕ) (number n i v first : ℕ) (found : Option ℕ) → IsGameOfAutomaton a game
    → listed ≡ keys → state_of keys number < a.states → n ≡ place_identifier a (Answer (state_of listed number) 0)
    → ((v : ℕ) → v < length game → (vertex_at game v).identifier ≡ n → found ≡ Some v) → found ≡ Some first → v ≡ first → i < input_letters a
    → StandsFor a game (v + i) (Answer (state_of listed number) i)
row a game listed keys number n i v first found g same below e only f v_is li =
    let u = first_of_row a game (state_of listed number) n found g (subst (λ (xs : List ℕ). state_of xs number < a.states) (sym same) below) e only in
    let both : Some u.0 ≡ Some first = sym u.1 ∙ f in
    let u_is : u.0 ≡ first = cc in
    in_a_row a game (state_of listed number) v i g (subst (λ (w : ℕ). StandsFor a game w (Answer (state_of listed number) 0)) (u_is ∙ sym v_is) u.2) li

pub overflow_add-vertex : goal.overflow_add-vertex
overflow_add-vertex c =
    let a = c.args.automaton.now in
    let n = count (λ i. joined a.controllable i 0) c.args.layout.now.inputs.items (input_letters a) c.requires.laid.inputs in
    let h = row a c.args.synth.now.game c.as_slice.result.now c.args.self.now.states.keys c.args.number c.first_answer.result
    c.loop-input.input c.first.inside.0 c.unwrap-first.result c.vertex_of.result c.requires.won.game_of c.as_slice.ensures.keys
    (c.requires.draft.below c.args.number c.requires.number) c.first_answer.ensures c.vertex_of.ensures.only c.unwrap-first.ensures c.first.view_is
    (omega (arith, n, c.len-input-end.ensures, c.args.layout.now.inputs.ok.0, c.loop-input-test.true)) in
    let l = h.in_game in
    let few = c.requires.limits.vertices in omega arith

pub chosen_step-output-requires-clause-answer : goal.chosen_step-output-requires-clause-answer
chosen_step-output-requires-clause-answer c =
    let a = c.args.automaton.now in
    let n = count (λ i. joined a.controllable i 0) c.args.layout.now.inputs.items (input_letters a) c.requires.laid.inputs in
    row a c.args.synth.now.game c.as_slice.result.now c.args.self.now.states.keys c.args.number c.first_answer.result
    c.loop-input.input c.first.inside.0 c.unwrap-first.result c.vertex_of.result c.requires.won.game_of c.as_slice.ensures.keys
    (c.requires.draft.below c.args.number c.requires.number) c.first_answer.ensures c.vertex_of.ensures.only c.unwrap-first.ensures c.first.view_is
    (omega (arith, n, c.len-input-end.ensures, c.args.layout.now.inputs.ok.0, c.loop-input-test.true))

pub chosen_step-output-requires-clause-wins : goal.chosen_step-output-requires-clause-wins
chosen_step-output-requires-clause-wins c =
    let a = c.args.automaton.now in
    let n = count (λ i. joined a.controllable i 0) c.args.layout.now.inputs.items (input_letters a) c.requires.laid.inputs in
    let h = row a c.args.synth.now.game c.as_slice.result.now c.args.self.now.states.keys c.args.number c.first_answer.result
    c.loop-input.input c.first.inside.0 c.unwrap-first.result c.vertex_of.result c.requires.won.game_of c.as_slice.ensures.keys
    (c.requires.draft.below c.args.number c.requires.number) c.first_answer.ensures c.vertex_of.ensures.only c.unwrap-first.ensures c.first.view_is
    (omega (arith, n, c.len-input-end.ensures, c.args.layout.now.inputs.ok.0, c.loop-input-test.true)) in
    c.requires.draft.won c.args.number c.requires.number c.loop-input.input (c.first.inside.0 + c.loop-input.input)
    (subst (λ (xs : List ℕ). StandsFor a c.args.synth.now.game (c.first.inside.0 + c.loop-input.input) (Answer (state_of xs c.args.number) c.loop-input.input))
    c.as_slice.ensures.keys h)

pub loop-input-preserved : goal.loop-input-preserved
loop-input-preserved c =
    let a = c.args.automaton.now in
    let n = count (λ i. joined a.controllable i 0) c.args.layout.now.inputs.items (input_letters a) c.requires.laid.inputs in
    let i = c.loop-input.invariant in
    let pushed = c.in_ok-push.ensures in
    let numbered : IsNumbered c.loop-input.self.states.keys c.chosen_step-output.result.1 pushed.0 c.push.new.self.states.keys = pushed.1 in
    let reply : Reply = record { output = c.chosen_step-output.result.0; next = pushed.0 } in
    record {
      draft = drafted a c.args.synth.now.game c.args.solution.now c.loop-input.self.states.keys c.push.new.self.states.keys c.loop-input.self.replies.items
          c.push.new.self.replies.items reply c.args.number c.loop-input.input c.chosen_step-output.result.1 i.draft i.whole i.number
          (omega (arith, n, c.len-input-end.ensures, c.args.layout.now.inputs.ok.0, c.loop-input-test.true))
          (subst (λ (q : ℕ).
          FollowsAt a c.args.synth.now.game c.args.solution.now q c.loop-input.input c.chosen_step-output.result.0 c.chosen_step-output.result.1)
          (sym i.state) c.chosen_step-output.ensures.follows)
          c.chosen_step-output.ensures.won c.chosen_step-output.ensures.below numbered pushed.2;
      number =
          (let l = longer c.loop-input.self.states.keys c.push.new.self.states.keys c.chosen_step-output.result.1 pushed.0 numbered in
          let k = i.number in omega arith);
      state = numbered.kept c.args.number i.number ∙ i.state;
      whole = (let long = ap length pushed.2 ∙ length-append c.loop-input.self.replies.items (reply ∷ []) in omega (arith, long, i.whole));
    }

pub returns-clause-whole : goal.returns-clause-whole
returns-clause-whole c =
    let a = c.args.automaton.now in
    let n = count (λ i. joined a.controllable i 0) c.args.layout.now.inputs.items (input_letters a) c.requires.laid.inputs in
    let apart : (c.args.number + 1) * input_letters a ≡ c.args.number * input_letters a + input_letters a = grind arith in
    omega (arith, n, c.len-input-end.ensures, c.args.layout.now.inputs.ok.0, c.loop-input.auto.input-end, c.loop-input-test.false, c.loop-input.invariant.whole)
