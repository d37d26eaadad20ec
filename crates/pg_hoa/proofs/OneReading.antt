-- One text has one reading.
use Rattle.pg_hoa.proofs.Common.{◌≡◌, ◌∙◌, ◌<◌, ◌+◌, ◌^◌, ℕ, zero, suc, Bool, List, ◌∷◌, map, length, Option, refl, sym, ap, subst, inl}
use Rattle.pg_hoa.proofs.Common.{inr, ◌⊎◌, arith, nat_tests, range_with_len, cases_order, Shape, Step, Automaton, letters, rows, next}
use Rattle.pg_hoa.proofs.Common.{Spelt, IsUndetermined, head, HasOneReading, says_once}
use Rattle.pg_hoa.proofs.SpeltOnce.{steps_once, letters_below, undetermined_spell_none}

map_below : {A : Type 0} (f g : ℕ → A) (first count : ℕ) → ((k : ℕ) → k < first + count → f k ≡ g k)
    → map f (range_with_len first count) ≡ map g (range_with_len first count)
map_below f g first zero same = refl
map_below f g first (suc count) same =
    ap (λ y. y ∷ map f (range_with_len (first + 1) count)) (same first (omega arith))
    ∙ ap (λ ys. g first ∷ ys) (map_below f g (first + 1) count (λ k below. same k (omega arith)))

rows_below : {A : Type 0} (f g : ℕ → ℕ → A) (states letters : ℕ) → ((q l : ℕ) → q < states → l < letters → f q l ≡ g q l)
    → rows f states letters ≡ rows g states letters
rows_below f g states letters same =
    map_below (λ q. map (f q) (range_with_len 0 letters)) (λ q. map (g q) (range_with_len 0 letters)) 0 states
    (λ q q_below. map_below (f q) (g q) 0 letters (λ l l_below. same q l (omega arith) (omega arith)))

abbrev automaton_of : ℕ → ℕ → List (List ℕ) → List Bool → ℕ → Shape → List (List (Option Step)) → Automaton
automaton_of states start propositions controllable sets shape steps =
    record {
      states = states;
      start = start;
      propositions = propositions;
      controllable = controllable;
      sets = sets;
      shape = shape;
      steps = steps;
    }

same_parts : (states states2 start start2 : ℕ) (propositions propositions2 : List (List ℕ)) (controllable controllable2 : List Bool)
    (sets sets2 : ℕ) (shape shape2 : Shape) (steps steps2 : List (List (Option Step)))
    → states ≡ states2 → start ≡ start2 → propositions ≡ propositions2 → controllable ≡ controllable2 → sets ≡ sets2 → shape ≡ shape2
    → steps ≡ steps2
    → automaton_of states start propositions controllable sets shape steps
    ≡ automaton_of states2 start2 propositions2 controllable2 sets2 shape2 steps2
same_parts states states2 start start2 propositions propositions2 controllable controllable2 sets sets2 shape shape2 steps steps2 p q r s t
    u v = cc

one_automaton : (bytes : List ℕ) (a b : Automaton) → Spelt bytes a → Spelt bytes b → a ≡ b
one_automaton bytes a b s t =
    let o = says_once bytes s.written t.written a b s.text t.text s.says t.says in
    let named : a.propositions ≡ b.propositions = o.preamble.names in
    let counted : a.states ≡ b.states = o.states in
    let same_next : (q l : ℕ) → q < a.states → l < letters a → next a q l ≡ next b q l = λ q l below within.
    s.leads q l below within ∙ ap head (steps_once s.written t.written a b o q l)
    ∙ sym (t.leads q l (subst (λ (n : ℕ). q < n) counted below) (letters_below s.written t.written a b l o within)) in
    let steps : a.steps ≡ b.steps =
    s.all ∙ rows_below (next a) (next b) a.states (letters a) same_next
    ∙ ap (λ (n : ℕ). rows (next b) n (letters a)) counted ∙ ap (λ (ns : List (List ℕ)). rows (next b) b.states (2 ^ length ns)) named
    ∙ sym t.all in
    same_parts a.states b.states a.start b.start a.propositions b.propositions a.controllable b.controllable a.sets b.sets a.shape b.shape
    a.steps b.steps
    counted o.preamble.start named o.preamble.controllable o.preamble.sets o.preamble.shape steps

-- of two first conflicts none comes before the other
not_before : (bytes : List ℕ) (state letter q l : ℕ) → IsUndetermined bytes state letter → IsUndetermined bytes q l
    → (state < q) ⊎ ((state ≡ q) × (letter < l)) → ⊥
not_before bytes state letter q l u v earlier =
    let o = says_once bytes u.written v.written u.automaton v.automaton u.text v.text u.says v.says in
    grind (arith, nat_tests, o, steps_once u.written v.written u.automaton v.automaton o)

one_conflict : (bytes : List ℕ) (state letter q l : ℕ) → IsUndetermined bytes state letter → IsUndetermined bytes q l
    → (state ≡ q) × (letter ≡ l)
one_conflict bytes state letter q l u v =
    elim (cases_order state q) [
      | inl e ↦ elim (cases_order letter l) [
        | inl same ↦ (e, same)
        | inr p ↦ elim p [
          | inl lt ↦ absurd (not_before bytes state letter q l u v (inr (e, lt)))
          | inr lt ↦ absurd (not_before bytes q l state letter v u (inr (sym e, lt)))
        ]
      ]
      | inr p ↦ elim p [
        | inl lt ↦ absurd (not_before bytes state letter q l u v (inl lt))
        | inr lt ↦ absurd (not_before bytes q l state letter v u (inl lt))
      ]
    ]

pub one_reading : (bytes : List ℕ) → HasOneReading bytes
one_reading bytes = record {
  automaton = one_automaton bytes;
  conflict = one_conflict bytes;
  not_both = λ a state letter s u. undetermined_spell_none bytes state letter u a s;
}
