-- Only one machine follows a sound solution by which Even wins.
use Rattle.pg_synth.proofs.Common.{◌≡◌, ℕ, zero, suc, ◌+◌, ◌*◌, ◌/◌, ◌%◌, ◌^◌, ◌<◌, ◌≤◌, inl, inr, List, length, Some, None, arith, refl}
use Rattle.pg_synth.proofs.Common.{sym, subst, ap, ◌∙◌, cases_lt, ext_get_or, div-add-mod', div_below, mod_below, pow_pos, Even, GameVertex}
use Rattle.pg_synth.proofs.Common.{choice, Step, Automaton, IsAutomaton, next, deciding, IsWonBy, joined, inputs, StandsFor, arrival_of}
use Rattle.pg_synth.proofs.Common.{input_letters, Machine, FollowsAt, IsMachineOf, IsInOrder, Follows, reply_at, reply, no_reply, IsWonAt}
use Rattle.pg_synth.proofs.Common.{Reply, Arrival, Answer}
use Rattle.pg_text.specs.declared.answer.Answer as solutions
use Rattle.pg_synth.proofs.Choosing.{chosen_is, answers_won}
use Rattle.pg_synth.proofs.Places.{letter_in}

abbrev Solution : Type 0
Solution = List solutions.Answer

both : (r s : Reply) → r.output ≡ s.output → r.next ≡ s.next → r ≡ s
both r s outputs nexts =
    ap (λ (x : ℕ). record { output = x; next = r.next }) outputs ∙ ap (λ (x : ℕ). record { output = s.output; next = x }) nexts

-- what Even does at an answer that it wins
record Chooses (a : Automaton) (game : List GameVertex) (solution : Solution) (q i : ℕ) : Type 0 where
  v : ℕ
  w : ℕ
  stands : StandsFor a game v (Answer q i)
  chosen : choice solution v ≡ Some w

module _ (a : Automaton) (game : List GameVertex) (initial : ℕ) (solution : Solution) (is : IsAutomaton a) (won : IsWonBy a game initial solution Even) where
  chooses : (q i : ℕ) → IsWonAt a game solution q → q < a.states → i < input_letters a → Chooses a game solution q i
  chooses q i here lq li =
      let u = won.game_of.each_place (Answer q i) (lq, li) in
      let c = won.solution_of.chosen u.0 u.1.in_game (u.1.owned ∙ sym (here i u.0 u.1)) in
      record { v = u.0; w = c.0; stands = u.1; chosen = c.1 }

  -- one reply follows there
  one_step : (q i o t p u : ℕ) → IsWonAt a game solution q → q < a.states → i < input_letters a
      → FollowsAt a game solution q i o t → FollowsAt a game solution q i p u → (o ≡ p) × (t ≡ u)
  one_step q i o t p u here lq li f g =
      let c = chooses q i here lq li in
      let by_f = subst (λ s. StandsFor a game c.w (arrival_of a.shape s)) (sym f.steps) (f.chosen c.v c.w c.stands c.chosen) in
      let by_g = subst (λ s. StandsFor a game c.w (arrival_of a.shape s)) (sym g.steps) (g.chosen c.v c.w c.stands c.chosen) in
      let le = f.least c.v c.w p c.stands c.chosen by_g in
      let ge = g.least c.v c.w o c.stands c.chosen by_f in
      let same : o ≡ p = omega arith in
      let options : Some f.step ≡ Some g.step = sym f.steps ∙ ap (λ x. next a q (joined a.controllable i x)) same ∙ g.steps in
      let steps : f.step ≡ g.step = cc in
      (same, sym f.lands ∙ ap (λ (s : Step). s.target) steps ∙ g.lands)

  -- and leads to a state where Even wins again
  won_on : (q i o t : ℕ) → IsWonAt a game solution q → q < a.states → i < input_letters a → FollowsAt a game solution q i o t
      → IsWonAt a game solution t × (t < a.states)
  won_on q i o t here lq li f =
      let c = chooses q i here lq li in
      let chosen = chosen_is a game solution q i c.v c.w won.game_of won.solution_of won.sound c.stands (here i c.v c.stands) c.chosen in
      let arrived : StandsFor a game c.w (Arrival f.step.target (deciding a.shape f.step.sets)) = f.chosen c.v c.w c.stands c.chosen in (
        subst (IsWonAt a game solution) f.lands
            (answers_won a game solution c.w f.step.target (deciding a.shape f.step.sets) won.game_of won.sound arrived chosen.wins),
        subst (λ (x : ℕ). x < a.states) f.lands (is.steps q (joined a.controllable i o) f.step lq (letter_in a i o is) f.steps).target_below,
      )

  at_place : (f : ℕ → ℕ) (m : Machine) → IsMachineOf a game solution f m → (e k i : ℕ) → k * input_letters a + i ≡ e → k < m.states → i < input_letters a
      → FollowsAt a game solution (f k) i (reply_at m e).output (f (reply_at m e).next) × ((reply_at m e).next < m.states)
  at_place f m of e k i place lk li =
      let at : reply m k i ≡ reply_at m e = ap (λ n. reply_at m (k * 2 ^ n + i)) of.same_inputs ∙ ap (reply_at m) place in
      let li' : i < 2 ^ m.inputs = subst (λ (n : ℕ). i < 2 ^ n) (sym of.same_inputs) li in (
        subst (λ (r : Reply). FollowsAt a game solution (f k) i r.output (f r.next)) at (of.follows k i lk li),
        subst (λ (r : Reply). r.next < m.states) at (of.is_machine.nexts_in k i lk li'),
      )

  -- the two machines have this number for the same state
  record Agrees (f g : ℕ → ℕ) (m n : Machine) (k : ℕ) : Type 0 where
    there : k < n.states
    same : f k ≡ g k
    wins : IsWonAt a game solution (f k)
    below : f k < a.states

  module _ (f g : ℕ → ℕ) (m n : Machine) (mf : IsMachineOf a game solution f m) (ng : IsMachineOf a game solution g n)
      (of : IsInOrder f m) (og : IsInOrder g n) where
    record Same (e : ℕ) : Type 0 where
      output : (reply_at m e).output ≡ (reply_at n e).output
      target : f (reply_at m e).next ≡ g (reply_at n e).next
      next_in : (reply_at n e).next < n.states
      first_in : (reply_at m e).next < m.states
      wins : IsWonAt a game solution (f (reply_at m e).next)
      below : f (reply_at m e).next < a.states

    -- replies of such a state
    same_at : (e k : ℕ) → k ≡ e / input_letters a → k < m.states → Agrees f g m n k → Same e
    same_at e k k_is lk agrees =
        let i : ℕ = e % input_letters a in
        let li : i < input_letters a = mod_below e (input_letters a) (pow_pos (inputs a.controllable)) in
        let place : k * input_letters a + i ≡ e = ap (λ x. x * input_letters a + i) k_is ∙ div-add-mod' e (input_letters a) in
        let first = at_place f m mf e k i place lk li in
        let second = at_place g n ng e k i place agrees.there li in
        let steps = one_step (f k) i (reply_at m e).output (f (reply_at m e).next) (reply_at n e).output (g (reply_at n e).next) agrees.wins agrees.below
        li first.0 (subst (λ (q : ℕ). FollowsAt a game solution q i (reply_at n e).output (g (reply_at n e).next)) (sym agrees.same) second.0) in
        let on = won_on (f k) i (reply_at m e).output (f (reply_at m e).next) agrees.wins agrees.below li first.0 in
        record { output = steps.0; target = steps.1; next_in = second.1; first_in = first.1; wins = on.0; below = on.1 }

    agrees_next : (k : ℕ) → 0 < k → k < m.states → ((x : ℕ) → x < k → Agrees f g m n x) → Agrees f g m n k
    agrees_next k pos lk lower =
        let same = early d.0 d.1 in
        let n_is = ap f d.2 in
        record {
          there = (let h = same.next_in in let e = number in omega arith);
          same = sym n_is ∙ same.target ∙ ap g number;
          wins = subst (λ (x : ℕ). IsWonAt a game solution (f x)) d.2 same.wins;
          below = subst (λ (x : ℕ). f x < a.states) d.2 same.below;
        }
      where
        early : (e : ℕ) → e < k * 2 ^ m.inputs → Same e
        early e lt =
            let lt' : e < k * input_letters a = subst (λ (x : ℕ). e < k * 2 ^ x) mf.same_inputs lt in
            let row : e / input_letters a < k = div_below e (input_letters a) k (pow_pos (inputs a.controllable)) lt' in
            same_at e (e / input_letters a) refl (omega arith) (lower (e / input_letters a) row)

        d : (place : ℕ) × (place < k * 2 ^ m.inputs) × ((reply_at m place).next ≡ k) × ((earlier : ℕ) → earlier < place → (reply_at m earlier).next < k)
        d = of.discovered k pos lk

        number : (reply_at n d.0).next ≡ k
        number = elim (cases_lt (reply_at n d.0).next k) [
          | inl less ↦
              let b = lower (reply_at n d.0).next less in
              let same = early d.0 d.1 in
              of.distinct (reply_at n d.0).next k (omega arith) lk (b.same ∙ sym same.target ∙ ap f d.2)
          | inr le ↦ elim (cases_lt k (reply_at n d.0).next) [
            | inr le' ↦ omega arith
            | inl more ↦ absurd (later more)
          ]
        ]
          where
            later : k < (reply_at n d.0).next → ⊥
            later more =
                let in_n = (early d.0 d.1).next_in in
                let there : k < n.states = omega arith in
                let e = og.discovered k pos there in
                elim (cases_lt e.0 d.0) [
                  | inl before ↦
                      let less = d.3 e.0 before in
                      let b = lower (reply_at m e.0).next less in
                      let same = early e.0 (let p = d.1 in omega arith) in
                      let is_k = og.distinct (reply_at m e.0).next k b.there there (sym b.same ∙ same.target ∙ ap g e.2) in omega arith
                  | inr le ↦ elim (cases_lt d.0 e.0) [
                    | inl before ↦ (let less = e.3 d.0 before in omega arith)
                    | inr le' ↦
                        let one : d.0 ≡ e.0 = omega arith in
                        let is_k = ap (λ x. (reply_at n x).next) one ∙ e.2 in omega arith
                  ]
                ]

    agree : (bound k : ℕ) → k < bound → k < m.states → Agrees f g m n k
    agree zero k l lk = absurd (omega arith)
    agree (suc bound) zero l lk = record {
      there = ng.is_machine.has_start;
      same = mf.starts ∙ sym ng.starts;
      wins = subst (IsWonAt a game solution) (sym mf.starts) (answers_won a game solution initial a.start None won.game_of won.sound won.begins won.wins);
      below = subst (λ (q : ℕ). q < a.states) (sym mf.starts) is.start_below;
    }
    agree (suc bound) (suc j) l lk = agrees_next (suc j) (omega arith) lk (λ x lt. agree bound x (omega arith) (omega arith))

    as_many : m.states ≤ n.states
    as_many = elim (cases_lt n.states m.states) [
      | inl less ↦ (let h = (agree (suc n.states) n.states (omega arith) less).there in absurd (omega arith))
      | inr le ↦ le
    ]

    same_reply : (e : ℕ) → e < length m.replies → reply_at m e ≡ reply_at n e
    same_reply e lt =
        let lt' : e < m.states * input_letters a = subst (λ (x : ℕ). e < m.states * 2 ^ x) mf.same_inputs (let w = mf.is_machine.whole in omega arith) in
        let row : e / input_letters a < m.states = div_below e (input_letters a) m.states (pow_pos (inputs a.controllable)) lt' in
        let same = same_at e (e / input_letters a) refl row (agree (suc (e / input_letters a)) (e / input_letters a) (omega arith) row) in
        let b = agree (suc (reply_at m e).next) (reply_at m e).next (omega arith) same.first_in in
        let nexts : (reply_at m e).next ≡ (reply_at n e).next =
        og.distinct (reply_at m e).next (reply_at n e).next b.there same.next_in (sym b.same ∙ same.target) in
        both (reply_at m e) (reply_at n e) same.output nexts

pub one_machine : (a : Automaton) (game : List GameVertex) (initial : ℕ) (solution : Solution) (m n : Machine) → IsAutomaton a
    → IsWonBy a game initial solution Even → Follows a game solution m → Follows a game solution n → n ≡ m
one_machine a game initial solution m n is won (f, mf, of) (g, ng, og) = sym (
    ap (λ (x : ℕ). record m { states = x }) states
    ∙ ap (λ (x : ℕ). record m { states = n.states; inputs = x }) same_inputs
    ∙ ap (λ (x : ℕ). record m { states = n.states; inputs = n.inputs; outputs = x }) (mf.same_outputs ∙ sym ng.same_outputs)
    ∙ ap (λ (rs : List Reply). record n { replies = rs }) replies
    )
  where
    states : m.states ≡ n.states
    states =
        let le = as_many a game initial solution is won f g m n mf ng of og in
        let ge = as_many a game initial solution is won g f n m ng mf og of in omega arith

    same_inputs : m.inputs ≡ n.inputs
    same_inputs = mf.same_inputs ∙ sym ng.same_inputs

    replies : m.replies ≡ n.replies
    replies = ext_get_or no_reply m.replies n.replies
        (mf.is_machine.whole ∙ ap (λ x. x * 2 ^ m.inputs) states ∙ ap (λ x. n.states * 2 ^ x) same_inputs ∙ sym ng.is_machine.whole)
        (same_reply a game initial solution is won f g m n mf ng of og)
