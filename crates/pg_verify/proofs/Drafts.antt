-- A product while it is being made.
use Rattle.std.proofs.Common.{◌≡◌, ℕ, ◌+◌, ◌*◌, ◌<◌, ◌≤◌, inl, inr, Bool, List, [], ◌∷◌, ◌++◌, length, get_or, Option, Some, None}
use Rattle.std.proofs.Common.{refl, sym, ap, subst, ◌∙◌, arith, append_assoc, length-append}
use Rattle.std.proofs.Math.Nat.{mul-le-mul_right}
use Rattle.std.proofs.lemmas.Bool.{cases_lt}
use Rattle.std.proofs.lemmas.List.{append-nil, get_or_append_left, get_or_push, get_or_default}
use Rattle.std.proofs.lemmas.Nat.{same_from_place}
use Rattle.pg_hoa_automaton.specs.Automata.{Step, Automaton, IsAutomaton, letters, step, next}
use Rattle.pg_hoa_automaton.specs.Mirrors.Tables.{numbered}
use Rattle.pg_hoa_automaton.specs.declared.table.Stored.{Stored}
use Rattle.pg_synth.specs.Letters.{joined}
use Rattle.pg_synth.specs.AutomatonGames.{input_letters}
use Rattle.pg_synth.proofs.Places.{letter_in}
use Rattle.pg_aiger.specs.Circuits.{Circuit}
use Rattle.pg_aiger_netlist.specs.Netlists.{IsAcyclic}
use Rattle.pg_verify.specs.Reached.{Pair, pair, IsReached}
use Rattle.pg_verify.specs.Mirrors.Products.{pair_at, slot_at, Extends, IsNumbered, Leads, Gives, IsMove, IsSlot, IsDraft, AreOldOr, IsTargetBelow, IsPut}
use Rattle.pg_verify.proofs.Reaching.{pair_along, reached_more}
use Rattle.pg_verify.proofs.Stored.{numbered_along}

pub extends_refl : {X : Type 0} (xs : List X) → Extends xs xs
extends_refl xs = ([], sym (append-nil xs))

pub extends_trans : {X : Type 0} (xs ys zs : List X) → Extends xs ys → Extends ys zs → Extends xs zs
extends_trans xs ys zs (a, e) (b, f) = (a ++ b, f ∙ ap (λ l. l ++ b) e ∙ append_assoc xs a b)

pub longer : {X : Type 0} (xs ys : List X) → Extends xs ys → length xs ≤ length ys
longer xs ys (more, e) = let l = ap length e ∙ length-append xs more in omega (arith, l)

-- what numbering a state leaves
pub numbered_extends : (pairs after : List Pair) (latches state n : ℕ) → IsNumbered pairs latches state n after → Extends pairs after
numbered_extends pairs after latches state n is = elim is.grown [
  | inl e ↦ ([], e ∙ sym (append-nil pairs))
  | inr e ↦ (pair latches state ∷ [], e)
]

pub numbered_states : (pairs after : List Pair) (latches state n bound : ℕ) → IsNumbered pairs latches state n after
    → ((k : ℕ) → k < length pairs → (pair_at pairs k).state < bound) → state < bound → (k : ℕ) → k < length after → (pair_at after k).state < bound
numbered_states pairs after latches state n bound is below lt k k_in = elim is.grown [
  | inl e ↦ subst (λ l. (pair_at l k).state < bound) (sym e) (below k (subst (λ (l : List Pair). k < length l) e k_in))
  | inr e ↦ elim (cases_lt k (length pairs)) [
    | inl old ↦ subst (λ (x : Pair). x.state < bound) (sym (pair_along pairs after k (pair latches state ∷ [], e) old)) (below k old)
    | inr new ↦
        let l = ap length e ∙ length-append pairs (pair latches state ∷ []) in
        let at : length pairs ≡ k = omega (arith, l, new, k_in) in
        let last : pair_at after k ≡ pair latches state = ap (λ l. pair_at l k) e ∙ get_or_push pairs (pair latches state) (pair 0 0) k at in
        subst (λ (x : Pair). x.state < bound) (sym last) lt
  ]
]

pub numbered_old_or : (pairs after : List Pair) (latches n : ℕ) (s : Step) (found : Option Step) → Some s ≡ found
    → IsNumbered pairs latches s.target n after → AreOldOr pairs after latches found
numbered_old_or pairs after latches n s found e is k k_in = elim is.grown [
  | inl same ↦ inl (subst (λ (l : List Pair). k < length l) same k_in)
  | inr more ↦ elim (cases_lt k (length pairs)) [
    | inl old ↦ inl old
    | inr new ↦
        let l = ap length more ∙ length-append pairs (pair latches s.target ∷ []) in
        let at : length pairs ≡ k = omega (arith, l, new, k_in) in
        inr (s, sym e, ap (λ l. pair_at l k) more ∙ get_or_push pairs (pair latches s.target) (pair 0 0) k at)
  ]
]

leads_along : (pairs after : List Pair) (latches : ℕ) (found made : Option Step) → Extends pairs after → Leads pairs latches found made
    → Leads after latches found made
leads_along pairs after latches None made more h = h
leads_along pairs after latches (Some s) made more (n, n_in, there, is) =
    let l = longer pairs after more in (n, omega (arith, l, n_in), pair_along pairs after n more n_in ∙ there, is)

move_along : (a : Automaton) (circuit : Circuit) (pairs after : List Pair) (k i : ℕ) (made : Option Step) → Extends pairs after → k < length pairs
    → IsMove a circuit pairs k i made → IsMove a circuit after k i made
move_along a circuit pairs after k i made more lt is =
    let same : pair_at pairs k ≡ pair_at after k = sym (pair_along pairs after k more lt) in
    record {
      output = is.output;
      latches = is.latches;
      gives = subst (λ (x : Pair). Gives circuit x.latches i is.output is.latches) same is.gives;
      leads = subst (λ (x : Pair). Leads after is.latches (next a x.state (joined a.controllable i is.output)) made) same
          (leads_along pairs after is.latches (next a (pair_at pairs k).state (joined a.controllable i is.output)) made more is.leads);
    }

-- a slot keeps its step
numbered_stays : (steps more_steps : List Stored) (lists more_lists : List (List ℕ)) (slot : ℕ) → Extends steps more_steps → Extends lists more_lists
    → (numbered steps lists slot ≡ None → slot ≡ 0) → numbered more_steps more_lists slot ≡ numbered steps lists slot
numbered_stays steps more_steps lists more_lists slot x y none = go (numbered steps lists slot) refl
  where
    go : (o : Option Step) → numbered steps lists slot ≡ o → numbered more_steps more_lists slot ≡ numbered steps lists slot
    go None e = let z : slot ≡ 0 = none e in ap (numbered more_steps more_lists) z ∙ sym e
    go (Some s) e = numbered_along steps more_steps lists more_lists slot s x y e ∙ sym e

pub slot_along : (a : Automaton) (circuit : Circuit) (pairs after : List Pair) (steps more_steps : List Stored) (lists more_lists : List (List ℕ))
    (k i slot : ℕ) → Extends pairs after → Extends steps more_steps → Extends lists more_lists → k < length pairs
    → IsSlot a circuit pairs steps lists k i slot → IsSlot a circuit after more_steps more_lists k i slot
slot_along a circuit pairs after steps more_steps lists more_lists k i slot p s l lt is =
    let same = numbered_stays steps more_steps lists more_lists slot s l is.none in
    record {
      move = subst (IsMove a circuit after k i) (sym same) (move_along a circuit pairs after k i (numbered steps lists slot) p lt is.move);
      none = λ e. is.none (sym same ∙ e);
    }

-- one more slot
pub pushed : (a : Automaton) (circuit : Circuit) (pairs after : List Pair) (slots more_slots : List ℕ) (steps more_steps : List Stored)
    (lists more_lists : List (List ℕ)) (k i slot : ℕ) → IsDraft a circuit pairs slots steps lists → Extends pairs after
    → ((n : ℕ) → n < length after → (pair_at after n).state < a.states) → ((n : ℕ) → n < length after → IsReached a circuit (pair_at after n))
    → length more_steps ≤ length steps + 1 → (length lists ≤ length steps → length more_lists ≤ length more_steps)
    → Extends steps more_steps → Extends lists more_lists → more_slots ≡ slots ++ slot ∷ [] → k < length pairs → i < input_letters a → length slots ≡ k * input_letters a + i
    → IsSlot a circuit after more_steps more_lists k i slot → IsDraft a circuit after more_slots more_steps more_lists
pushed a circuit pairs after slots more_slots steps more_steps lists more_lists k i slot draft p states reached one_step few_lists s l e k_in i_in place here =
    record {
      some = (let n = longer pairs after p in let m = draft.some in omega (arith, n, m));
      start = pair_along pairs after 0 p draft.some ∙ draft.start;
      states_in = states;
      reached = reached;
      few_steps = (let n = ap length e ∙ length-append slots (slot ∷ []) in let m = draft.few_steps in omega (arith, n, m, one_step));
      few_lists = few_lists draft.few_lists;
      filled = λ q j q_in j_in lt. elim (cases_lt (q * input_letters a + j) (length slots)) [
        | inl old ↦
            let q_old : q < length pairs = earlier q j old j_in in
            let same : slot_at slots (q * input_letters a + j) ≡ slot_at more_slots (q * input_letters a + j) =
            sym (ap (λ xs. slot_at xs (q * input_letters a + j)) e ∙ get_or_append_left slots (slot ∷ []) 0 (q * input_letters a + j) old) in
            subst (IsSlot a circuit after more_steps more_lists q j) same
            (slot_along a circuit pairs after steps more_steps lists more_lists q j (slot_at slots (q * input_letters a + j)) p s l q_old
            (draft.filled q j q_old j_in old))
        | inr new ↦
            let count = ap length e ∙ length-append slots (slot ∷ []) in
            let at : q * input_letters a + j ≡ k * input_letters a + i = omega (arith, count, new, lt, place) in
            let both = same_from_place q j k i (input_letters a) j_in i_in at in
            let last : slot_at more_slots (q * input_letters a + j) ≡ slot =
            ap (λ xs. slot_at xs (q * input_letters a + j)) e ∙ get_or_push slots slot 0 (q * input_letters a + j) (place ∙ sym at) in
            subst (IsSlot a circuit after more_steps more_lists q j) (sym last)
            (subst (λ x. IsSlot a circuit after more_steps more_lists x j slot) (sym both.0)
            (subst (λ y. IsSlot a circuit after more_steps more_lists k y slot) (sym both.1) here))
      ];
    }
  where
    earlier : (q j : ℕ) → q * input_letters a + j < length slots → j < input_letters a → q < length pairs
    earlier q j old j_in = elim (cases_lt k q) [
      | inl more ↦
          let apart : (k + 1) * input_letters a ≡ k * input_letters a + input_letters a = grind arith in
          let up : (k + 1) * input_letters a ≤ q * input_letters a = mul-le-mul_right (input_letters a) (omega arith) in
          absurd (omega (arith, apart, up, old, place, i_in))
      | inr le ↦ omega arith
    ]

pub first_draft : (a : Automaton) (circuit : Circuit) (pairs : List Pair) (slots : List ℕ) (steps : List Stored) (lists : List (List ℕ)) (start : ℕ)
    → IsAutomaton a → start ≡ a.start → pairs ≡ pair 0 start ∷ [] → slots ≡ [] → steps ≡ [] → lists ≡ [] → IsDraft a circuit pairs slots steps lists
first_draft a circuit pairs slots steps lists start is s e f g h =
    let one : pairs ≡ pair 0 a.start ∷ [] = e ∙ ap (λ q. pair 0 q ∷ []) s in
    let many = ap length one in
    let count = ap length f in
    let count' = ap length g in
    let count'' = ap length h in
    let zeroth : (k : ℕ) → k < length pairs → pair_at pairs k ≡ pair 0 a.start =
    λ k k_in. (let z : k ≡ 0 = omega (arith, many, k_in) in ap (pair_at pairs) z ∙ ap (λ l. pair_at l 0) one) in
    record {
      some = omega (arith, many);
      start = ap (λ l. pair_at l 0) one;
      states_in = λ k k_in. subst (λ (x : Pair). x.state < a.states) (sym (zeroth k k_in)) is.start_below;
      reached = λ k k_in. (0, zeroth k k_in);
      few_steps = omega (arith, count, count');
      few_lists = omega (arith, count', count'');
      filled = λ k i k_in i_in lt. absurd (omega (arith, count, lt));
    }

-- what is put where the automaton has no step
pub put_none : (pairs : List Pair) (steps : List Stored) (lists : List (List ℕ)) (latches : ℕ) (found : Option Step) → None ≡ found
    → IsPut pairs pairs steps steps lists lists latches found 0
put_none pairs steps lists latches found e =
    subst (λ o. IsPut pairs pairs steps steps lists lists latches o 0) e (record {
      pairs_kept = extends_refl pairs;
      steps_kept = extends_refl steps;
      lists_kept = extends_refl lists;
      states_in = λ bound below target. below;
      old_or = λ k k_in. inl k_in;
      one_step = omega arith;
      few_lists = λ few. few;
      leads = refl;
      none = λ e. refl;
    })

-- and where it has one
pub put_some : (pairs after : List Pair) (steps more_steps : List Stored) (lists more_lists : List (List ℕ)) (latches n slot : ℕ) (s : Step)
    (found : Option Step) → Some s ≡ found → IsNumbered pairs latches s.target n after → Extends steps more_steps → Extends lists more_lists
    → length more_steps ≡ length steps + 1 → length more_lists ≤ length lists + 1 → numbered more_steps more_lists slot ≡ Some (step n s.sets)
    → IsPut pairs after steps more_steps lists more_lists latches found slot
put_some pairs after steps more_steps lists more_lists latches n slot s found e is st ls one_step one_list h =
    subst (λ o. IsPut pairs after steps more_steps lists more_lists latches o slot) e (record {
      pairs_kept = numbered_extends pairs after latches s.target n is;
      steps_kept = st;
      lists_kept = ls;
      states_in = λ bound below target. numbered_states pairs after latches s.target n bound is below target;
      old_or = numbered_old_or pairs after latches n s (Some s) refl is;
      one_step = omega (arith, one_step);
      few_lists = λ few. omega (arith, one_step, one_list, few);
      leads = (n, is.number_in, is.there, h);
      none = λ none. absurd (let x : Some (step n s.sets) ≡ None = sym h ∙ none in cc x);
    })

target_below : (a : Automaton) (q l : ℕ) → IsAutomaton a → q < a.states → l < letters a → IsTargetBelow a.states (next a q l)
target_below a q l is q_in l_in = go (next a q l) refl
  where
    go : (o : Option Step) → next a q l ≡ o → IsTargetBelow a.states o
    go None e = tt
    go (Some s) e = (is.steps q l s q_in l_in e).target_below

-- one more step
pub step_pushed : (a : Automaton) (circuit : Circuit) (pairs after : List Pair) (slots kept more_slots : List ℕ) (steps more_steps : List Stored)
    (lists more_lists : List (List ℕ)) (controllable : List Bool) (k i slot output latches letter : ℕ) (x : Pair) → IsAutomaton a
    → IsDraft a circuit pairs slots steps lists → controllable ≡ a.controllable → x ≡ get_or pairs k x → k < length pairs → i < input_letters a
    → length slots ≡ k * input_letters a + i → IsAcyclic circuit → Gives circuit x.latches i output latches → letter ≡ joined controllable i output
    → IsPut pairs after steps more_steps lists more_lists latches (next a x.state letter) slot → kept ≡ slots → more_slots ≡ kept ++ slot ∷ []
    → IsDraft a circuit after more_slots more_steps more_lists
step_pushed a circuit pairs after slots kept more_slots steps more_steps lists more_lists controllable k i slot output latches letter x is draft marks at
    k_in i_in place ac gives letter_is put kept_is more =
    pushed a circuit pairs after slots more_slots steps more_steps lists more_lists k i slot draft put.pairs_kept
    (put.states_in a.states draft.states_in (target_below a x.state letter is state_in letter_below))
    (reached_more a circuit pairs after x i output latches letter ac draft.reached (subst (IsReached a circuit) (sym old) (draft.reached k k_in)) i_in gives
    letter_at put.old_or put.pairs_kept)
    put.one_step put.few_lists put.steps_kept put.lists_kept
    (more ∙ ap (λ l. l ++ slot ∷ []) kept_is) k_in i_in place (record {
      move = record {
        output = output;
        latches = latches;
        gives = subst (λ (y : Pair). Gives circuit y.latches i output latches) there gives;
        leads = subst (λ (y : Pair). Leads after latches (next a y.state (joined a.controllable i output)) (numbered more_steps more_lists slot)) there
            (subst (λ l. Leads after latches (next a x.state l) (numbered more_steps more_lists slot)) letter_at put.leads);
      };
      none = put.none;
    })
  where
    old : x ≡ pair_at pairs k
    old = at ∙ get_or_default pairs k x (pair 0 0) k_in

    there : x ≡ pair_at after k
    there = old ∙ sym (pair_along pairs after k put.pairs_kept k_in)

    state_in : x.state < a.states
    state_in = subst (λ (y : Pair). y.state < a.states) (sym old) (draft.states_in k k_in)

    letter_at : letter ≡ joined a.controllable i output
    letter_at = letter_is ∙ ap (λ bs. joined bs i output) marks

    letter_below : letter < letters a
    letter_below = subst (λ l. l < letters a) (sym letter_at) (letter_in a i output is)
