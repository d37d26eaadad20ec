-- A machine that is being made, reply by reply.
use Rattle.pg_synth.proofs.Common.{◌≡◌, ℕ, zero, suc, ◌+◌, ◌*◌, ◌^◌, ◌<◌, ◌≤◌, ◌⊎◌, inl, inr, eqb, List, [], ◌∷◌, ◌++◌, None, length}
use Rattle.pg_synth.proofs.Common.{length-append, arith, refl, sym, subst, ap, ◌∙◌, IsDistinct, cases_lt, get_or_append_left, get_or_push}
use Rattle.pg_synth.proofs.Common.{same_from_place, mul-add-lt, mul-le-mul_right, Even, GameVertex, Automaton, IsAutomaton, letters}
use Rattle.pg_synth.proofs.Common.{IsWonBy, inputs, outputs, input_letters, Machine, IsMachine, FollowsAt, IsMachineOf, IsInOrder, no_reply}
use Rattle.pg_synth.proofs.Common.{IsWonAt, IsDraft, IsNumbered, machine_with, state_of, reply_of, Reply}
use Rattle.pg_text.specs.declared.answer.Answer as solutions
use Rattle.pg_synth.proofs.Choosing.{answers_won}
use Rattle.pg_synth.proofs.Letters.{both_parts}
use Rattle.pg_synth.proofs.Numbering.{few_numbers}

abbrev Solution : Type 0
Solution = List solutions.Answer

-- no reply, and only the initial state has a number
pub first_draft : (a : Automaton) (game : List GameVertex) (initial : ℕ) (solution : Solution) (states : List ℕ) (replies : List Reply) → IsAutomaton a
    → IsWonBy a game initial solution Even → states ≡ a.start ∷ [] → replies ≡ [] → IsDraft a game solution states replies
first_draft a game initial solution states replies is won one none =
    subst (λ (xs : List ℕ). IsDraft a game solution xs replies) (sym one)
    (subst (IsDraft a game solution (a.start ∷ [])) (sym none) (record {
      has_start = omega arith;
      starts = refl;
      below = λ k lt. (let e = only k lt in let l = is.start_below in omega (arith, e, l));
      won = λ k lt. subst (IsWonAt a game solution) (sym (only k lt))
          (answers_won a game solution initial a.start None won.game_of won.sound won.begins won.wins);
      distinct = λ j k lj lk e. omega arith;
      nexts_in = λ place lt. absurd (omega arith);
      follows = λ k i lk li lt. absurd (omega arith);
      discovered = λ n pos lt. absurd (omega arith);
    }))
  where
    only : (k : ℕ) → k < 1 → state_of (a.start ∷ []) k ≡ a.start
    only zero lt = refl
    only (suc k) lt = absurd (omega arith)

pub longer : (states after : List ℕ) (q number : ℕ) → IsNumbered states q number after → length states ≤ length after
longer states after q number numbered = elim numbered.grows [
  | inl same ↦ omega arith
  | inr more ↦ (let m = more.0 in omega arith)
]

-- the next reply goes on where the replies end, in the row of a state that has a number
pub drafted : (a : Automaton) (game : List GameVertex) (solution : Solution) (states after : List ℕ) (replies more : List Reply) (reply : Reply)
    (k i target : ℕ) → IsDraft a game solution states replies → length replies ≡ k * input_letters a + i → k < length states
    → i < input_letters a → FollowsAt a game solution (state_of states k) i reply.output target
    → IsWonAt a game solution target → target < a.states → IsNumbered states target reply.next after → more ≡ replies ++ reply ∷ []
    → IsDraft a game solution after more
drafted a game solution states after replies more reply k i target draft whole k_in i_in follows won below numbered e = record {
  has_start = (let l = numbered.number_in in omega arith);
  starts = numbered.kept 0 draft.has_start ∙ draft.starts;
  below = λ n l. elim (old_or_new n l) [
    | inl lt ↦ subst (λ (q : ℕ). q < a.states) (sym (numbered.kept n lt)) (draft.below n lt)
    | inr is ↦ subst (λ (q : ℕ). q < a.states) (sym is) below
  ];
  won = λ n l. elim (old_or_new n l) [
    | inl lt ↦ subst (IsWonAt a game solution) (sym (numbered.kept n lt)) (draft.won n lt)
    | inr is ↦ subst (IsWonAt a game solution) (sym is) won
  ];
  distinct = numbered.distinct;
  nexts_in = λ place l. elim (earlier_or_last place l) [
    | inl lt ↦
        let next = draft.nexts_in place lt in
        let is = ap (λ (r : Reply). r.next) (before place lt) in omega (arith, longer states after target reply.next numbered, next, is)
    | inr is ↦
        let next = numbered.number_in in
        let is' = ap (λ p. (reply_of more p).next) is in
        let last' = ap (λ (r : Reply). r.next) last in omega (arith, next, is', last')
  ];
  follows = λ n j ln lj l. elim (earlier_or_last (n * input_letters a + j) l) [
    | inl lt ↦
        let n_in : n < length states = earlier_state n j lt in
        let place : ℕ = n * input_letters a + j in
        let next_in = draft.nexts_in place lt in
        subst (λ (q : ℕ). FollowsAt a game solution q j (reply_of more place).output (state_of after (reply_of more place).next)) (sym (numbered.kept n n_in))
        (subst (λ (r : Reply). FollowsAt a game solution (state_of states n) j r.output (state_of after r.next)) (sym (before place lt))
        (subst (FollowsAt a game solution (state_of states n) j (reply_of replies place).output) (sym (numbered.kept (reply_of replies place).next next_in))
        (draft.follows n j n_in lj lt)))
    | inr is ↦
        let same = same_from_place n j k i (input_letters a) lj i_in (is ∙ whole) in
        let at : reply_of more (n * input_letters a + j) ≡ reply = ap (reply_of more) is ∙ last in
        let q_is : state_of states k ≡ state_of after n = sym (numbered.kept k k_in) ∙ ap (state_of after) (sym same.0) in
        subst (λ (r : Reply). FollowsAt a game solution (state_of after n) j r.output (state_of after r.next)) (sym at)
        (subst (FollowsAt a game solution (state_of after n) j reply.output) (sym numbered.there)
        (subst (λ (h : ℕ). FollowsAt a game solution (state_of after n) h reply.output target) (sym same.1)
        (subst (λ (q : ℕ). FollowsAt a game solution q i reply.output target) q_is follows)))
  ];
  discovered = λ n pos l. elim (cases_lt n (length states)) [
    | inl lt ↦
        let d = draft.discovered n pos lt in (
          d.0,
          (let p = d.1 in omega (arith, p, long)),
          d.2,
          ap (λ (r : Reply). r.next) (before d.0 d.1) ∙ d.3,
          λ earlier lt'. (
              let h = d.4 earlier lt' in
              let p = d.1 in
              let is = ap (λ (r : Reply). r.next) (before earlier (omega (arith, p, lt'))) in omega (arith, h, is)),
        )
    | inr le ↦
        let is : n ≡ reply.next = grown n l le in
        let row : suc k * input_letters a ≤ n * input_letters a = mul-le-mul_right (input_letters a) (omega arith) in
        let apart : suc k * input_letters a ≡ k * input_letters a + input_letters a = grind arith in (
          length replies,
          omega (arith, long),
          omega arith,
          ap (λ (r : Reply). r.next) last ∙ sym is,
          λ earlier lt'. (
              let h = draft.nexts_in earlier lt' in
              let is' = ap (λ (r : Reply). r.next) (before earlier lt') in omega (arith, h, is', le)),
        )
  ];
}
  where
    long : length more ≡ length replies + 1
    long = ap length e ∙ length-append replies (reply ∷ [])

    before : (place : ℕ) → place < length replies → reply_of more place ≡ reply_of replies place
    before place lt = ap (λ (rs : List Reply). reply_of rs place) e ∙ get_or_append_left replies (reply ∷ []) no_reply place lt

    last : reply_of more (length replies) ≡ reply
    last = ap (λ (rs : List Reply). reply_of rs (length replies)) e ∙ get_or_push replies reply no_reply (length replies) refl

    grown : (n : ℕ) → n < length after → length states ≤ n → n ≡ reply.next
    grown n l le = elim numbered.grows [
      | inl same ↦ absurd (omega arith)
      | inr more ↦ (let m = more.0 in let is = more.1 in omega arith)
    ]

    old_or_new : (n : ℕ) → n < length after → (n < length states) ⊎ (state_of after n ≡ target)
    old_or_new n l = elim (cases_lt n (length states)) [
      | inl lt ↦ inl lt
      | inr le ↦ inr (ap (state_of after) (grown n l le) ∙ numbered.there)
    ]

    earlier_or_last : (place : ℕ) → place < length more → (place < length replies) ⊎ (place ≡ length replies)
    earlier_or_last place l = elim (cases_lt place (length replies)) [
      | inl lt ↦ inl lt
      | inr le ↦ inr (omega (arith, long))
    ]

    earlier_state : (n j : ℕ) → n * input_letters a + j < length replies → n < length states
    earlier_state n j lt = elim (cases_lt n (length states)) [
      | inl h ↦ h
      | inr le ↦
          let row : suc k * input_letters a ≤ n * input_letters a = mul-le-mul_right (input_letters a) (omega arith) in
          let apart : suc k * input_letters a ≡ k * input_letters a + input_letters a = grind arith in
          absurd (omega arith)
    ]

-- ---- every state has its replies

-- the machine that the draft is, whose counts are those of the automaton
abbrev machine_from : Automaton → List ℕ → List Reply → Machine
machine_from a states replies = machine_with (length states) (inputs a.controllable) (outputs a.controllable) replies

place_in : (a : Automaton) (states : List ℕ) (replies : List Reply) → length replies ≡ length states * input_letters a
    → (k i : ℕ) → k < length states → i < input_letters a → k * input_letters a + i < length replies
place_in a states replies whole k i lk li =
    let l = mul-add-lt k (input_letters a) i (length states) lk li in
    let turned : input_letters a * length states ≡ length states * input_letters a = grind arith in omega (arith, l, turned, whole)

machine_from_is : (a : Automaton) (game : List GameVertex) (solution : Solution) (states : List ℕ) (replies : List Reply) → IsAutomaton a
    → IsDraft a game solution states replies → IsDistinct eqb states → length replies ≡ length states * input_letters a
    → IsMachine (machine_from a states replies)
machine_from_is a game solution states replies is draft distinct whole = record {
  has_start = draft.has_start;
  whole = whole;
  outputs_in = λ k i lk li. (draft.follows k i lk li (place_in a states replies whole k i lk li)).output_in;
  nexts_in = λ k i lk li. draft.nexts_in (k * input_letters a + i) (place_in a states replies whole k i lk li);
  few_states = (let few = is.few_states in omega (arith, count));
  few_propositions = (let few = is.few_propositions in let marks = is.marks in omega (arith, both_parts a.controllable));
  few_steps =
      (let all : letters a ≡ 2 ^ (inputs a.controllable + outputs a.controllable) = ap (λ n. 2 ^ n) (sym (both_parts a.controllable ∙ is.marks)) in
      let rows : length states * 2 ^ (inputs a.controllable + outputs a.controllable) ≤ a.states * 2 ^ (inputs a.controllable + outputs a.controllable) =
      mul-le-mul_right (2 ^ (inputs a.controllable + outputs a.controllable)) count in
      let few = is.few_steps in let same = ap (λ n. a.states * n) all in omega arith);
}
  where
    count : length states ≤ a.states
    count = few_numbers states a.states distinct draft.below

pub machine_is : (a : Automaton) (game : List GameVertex) (solution : Solution) (states : List ℕ) (replies : List Reply) (n k m : ℕ) → IsAutomaton a
    → IsDraft a game solution states replies → IsDistinct eqb states → length replies ≡ length states * input_letters a
    → n ≡ length states → k ≡ inputs a.controllable → m ≡ outputs a.controllable → IsMachine (machine_with n k m replies)
machine_is a game solution states replies n k m is draft distinct whole n_is k_is m_is =
    rw (n_is, k_is, m_is) (machine_from_is a game solution states replies is draft distinct whole)

pub machine_of : (a : Automaton) (game : List GameVertex) (solution : Solution) (states : List ℕ) (replies : List Reply) (n k m : ℕ) → IsAutomaton a
    → IsDraft a game solution states replies → IsDistinct eqb states → length replies ≡ length states * input_letters a
    → n ≡ length states → k ≡ inputs a.controllable → m ≡ outputs a.controllable
    → IsMachineOf a game solution (state_of states) (machine_with n k m replies) × IsInOrder (state_of states) (machine_with n k m replies)
machine_of a game solution states replies n k m is draft distinct whole n_is k_is m_is = rw (n_is, k_is, m_is) (
  record {
    is_machine = machine_from_is a game solution states replies is draft distinct whole;
    same_inputs = refl;
    same_outputs = refl;
    starts = draft.starts;
    follows = λ j i lj li. draft.follows j i lj li (place_in a states replies whole j i lj li);
  },
  record {
    distinct = draft.distinct;
    discovered = λ j pos lt. (let d = draft.discovered j pos lt in (d.0, d.2, d.3, d.4));
  },
)
