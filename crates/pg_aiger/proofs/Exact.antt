-- The gates that are made are those of the construction.
use Rattle.pg_aiger.proofs.Common.{◌≡◌, ℕ, zero, suc, ◌+◌, ◌*◌, ◌/◌, ◌%◌, ◌^◌, ◌<◌, ◌≤◌, ◌⊎◌, inl, inr, ◌||◌, Bool, true, false, cond, eqb}
use Rattle.pg_aiger.proofs.Common.{List, [], ◌∷◌, ◌++◌, length, map, take, get_or, refl, sym, ap, arith, ◌∙◌, add-one, append_assoc, max}
use Rattle.pg_aiger.proofs.Common.{min, range_with_len, items_where_true, flat_map, eq-eqb, ne_eqb, take_more, map-append, append-nil}
use Rattle.pg_aiger.proofs.Common.{length-map, length-take-le, flat_map_more, map-range_with_len_more, fold-append, bit_at_cat_low}
use Rattle.pg_aiger.proofs.Common.{digits_div, digits_mod, div-add-mod', Machine, IsMachine, no_reply, Reply, Gate, Circuit}
use Rattle.pg_aiger.proofs.Common.{circuit_in_order, bit, Made, new_gate, negation, conjunction, disjunction, conjunction_of}
use Rattle.pg_aiger.proofs.Common.{disjunction_of, each_made, spelling, minterm_literals, all_minterms, having, bit_columns, made_circuit}
use Rattle.pg_aiger.proofs.Common.{conjunction_with, reply_of, outputs_below, nexts_below, minterm_at, minterms_below}
use Rattle.pg_aiger.specs.Construction.{Drafted}

each_append : (join : Drafted → List ℕ → Made) (draft : Drafted) (lists : List (List ℕ)) (list : List ℕ)
    → each_made join draft (lists ++ list ∷ [])
    ≡ ((join (each_made join draft lists).0 list).0, (each_made join draft lists).1 ++ (join (each_made join draft lists).0 list).1 ∷ [])
each_append join draft [] list = refl
each_append join draft (first ∷ lists) list =
    ap (λ (r : Drafted × List ℕ). (r.0, (join draft first).1 ∷ r.1)) (each_append join (join draft first).0 lists list)

-- one list more
pub each_more : (join : Drafted → List ℕ → Made) (old middle new : Drafted) (lists : List (List ℕ)) (literals list : List ℕ) (literal : ℕ)
    → each_made join old lists ≡ (middle, literals) → join middle list ≡ (new, literal)
    → each_made join old (lists ++ list ∷ []) ≡ (new, literals ++ literal ∷ [])
each_more join old middle new lists literals list literal e f =
    each_append join old lists list
    ∙ ap (λ (r : Drafted × List ℕ). ((join r.0 list).0, r.1 ++ (join r.0 list).1 ∷ [])) e
    ∙ ap (λ (r : Made). (r.0, literals ++ r.1 ∷ [])) f

pub spelling_more : (first count number negation : ℕ) → negation ≡ cond (bit number count) 0 1
    → spelling first (count + 1) number ≡ spelling first count number ++ (2 * (first + count) + negation) ∷ []
spelling_more first count number negation e =
    map-range_with_len_more (λ j. 2 * (first + j) + cond (bit number j) 0 1) 0 count count (omega arith)
    ∙ ap (λ n. spelling first count number ++ (2 * (first + count) + n) ∷ []) (sym e)

bit_low : (number k j : ℕ) → j < k → bit (number % 2 ^ k) j ≡ bit number j
bit_low number k j lt =
    ap (λ b. eqb b 1)
    (sym (bit_at_cat_low (number / 2 ^ k) k (number % 2 ^ k) j lt) ∙ ap (λ n. n / 2 ^ j % 2) (div-add-mod' number (2 ^ k)))

-- the low bits alone are spelt
pub spelling_low : (first k count number : ℕ) → count ≤ k → spelling first count (number % 2 ^ k) ≡ spelling first count number
spelling_low first k zero number le = refl
spelling_low first k (suc count) number le =
    ap (λ n. spelling first n (number % 2 ^ k)) (sym (add-one count))
    ∙ spelling_more first count (number % 2 ^ k) _ refl
    ∙ ap (λ l. l ++ (2 * (first + count) + cond (bit (number % 2 ^ k) count) 0 1) ∷ []) (spelling_low first k count number (omega arith))
    ∙ ap (λ b. spelling first count number ++ (2 * (first + count) + cond b 0 1) ∷ []) (bit_low number k count (omega arith))
    ∙ sym (spelling_more first count number _ refl) ∙ ap (λ n. spelling first n number) (add-one count)

pub conjunction_zero : (draft : Drafted) (x y : ℕ) → (x ≡ 0) ⊎ (y ≡ 0) → conjunction draft x y ≡ (draft, 0)
unfolding conjunction
conjunction_zero draft x y (inl e) = rw (eq-eqb x 0 e) refl
conjunction_zero draft x y (inr e) = rw (eq-eqb y 0 e, or_true (eqb x 0)) refl
  where
    or_true : (b : Bool) → (b || true) ≡ true
    or_true true = refl
    or_true false = refl

pub conjunction_left : (draft : Drafted) (x y : ℕ) → ¬ (y ≡ 0) → x ≡ 1 → conjunction draft x y ≡ (draft, y)
unfolding conjunction
conjunction_left draft x y other one = rw (one, ne_eqb y 0 other) refl

pub conjunction_right : (draft : Drafted) (x y : ℕ) → ¬ (x ≡ 0) → ¬ (x ≡ 1) → y ≡ 1 → conjunction draft x y ≡ (draft, x)
unfolding conjunction
conjunction_right draft x y other more one = rw (one, ne_eqb x 0 other, ne_eqb x 1 more) refl

pub conjunction_new : (draft : Drafted) (x y : ℕ) → ¬ (x ≡ 0) → ¬ (y ≡ 0) → ¬ (x ≡ 1) → ¬ (y ≡ 1)
    → conjunction draft x y ≡ new_gate draft x y
unfolding conjunction
conjunction_new draft x y a b e f = rw (ne_eqb x 0 a, ne_eqb y 0 b, ne_eqb x 1 e, ne_eqb y 1 f) refl

pub ruleset conjunctions = (conjunction_zero, conjunction_left, conjunction_right, conjunction_new)

-- a gate is pushed
pub gate_made : (draft : Drafted) (x y base count greater lesser : ℕ) (old new : List Gate) → record { base = base; gates = old } ≡ draft
    → count ≡ length old → greater ≡ max x y → lesser ≡ min x y
    → new ≡ old ++ record { lhs = 2 * (base + count); rhs0 = greater; rhs1 = lesser } ∷ []
    → new_gate draft x y ≡ (record { base = base; gates = new }, 2 * (base + count))
gate_made draft x y base count greater lesser old new is n g l pushed =
    ap (λ (d : Drafted). new_gate d x y) (sym is)
    ∙ sym (ap (λ (gs : List Gate). of_gates gs (2 * (base + count))) pushed
    ∙ ap (λ (k : ℕ). of_gates (old ++ record { lhs = 2 * (base + k); rhs0 = greater; rhs1 = lesser } ∷ []) (2 * (base + k))) n
    ∙ ap (λ (k : ℕ). of_gates (old ++ record { lhs = 2 * (base + length old); rhs0 = k; rhs1 = lesser } ∷ []) (2 * (base + length old))) g
    ∙ ap (λ (k : ℕ). of_gates (old ++ record { lhs = 2 * (base + length old); rhs0 = max x y; rhs1 = k } ∷ []) (2 * (base + length old))) l)
  where
    of_gates : List Gate → ℕ → Made
    of_gates gates literal = (record { base = base; gates = gates }, literal)

-- the conjunction of the negated literals is negated
pub negated_made : (old new : Drafted) (x y left right literal result : ℕ) → left ≡ negation x → right ≡ negation y
    → conjunction old left right ≡ (new, literal) → result ≡ negation literal → disjunction old x y ≡ (new, result)
unfolding disjunction
negated_made old new x y left right literal result l r made n =
    ap (λ (m : Made). (m.0, negation m.1)) (ap (λ i. conjunction old i (negation y)) (sym l) ∙ ap (conjunction old left) (sym r) ∙ made)
    ∙ ap (λ i. (new, i)) (sym n)

-- one literal more
pub conjunction_more : (old middle new : Drafted) (start literal result : ℕ) (literals : List ℕ)
    → conjunction_with old start literals ≡ (middle, literal) → (last : ℕ) → conjunction middle literal last ≡ (new, result)
    → conjunction_with old start (literals ++ last ∷ []) ≡ (new, result)
conjunction_more old middle new start literal result literals e last f =
    fold-append (λ (so_far : Made) l. conjunction so_far.0 so_far.1 l) (old, start) literals (last ∷ [])
    ∙ ap (λ (r : Made). conjunction r.0 r.1 last) e ∙ f

-- the literals of the state, and then those of the letter
pub minterm_made : (old middle new : Drafted) (inputs latches place literal result : ℕ)
    → conjunction_with old 1 (spelling (1 + inputs) latches (place / 2 ^ inputs)) ≡ (middle, literal)
    → conjunction_with middle literal (spelling 1 inputs place) ≡ (new, result)
    → conjunction_of old (minterm_at inputs latches place) ≡ (new, result)
minterm_made old middle new inputs latches place literal result e f =
    fold-append (λ (so_far : Made) l. conjunction so_far.0 so_far.1 l) (old, 1) (spelling (1 + inputs) latches (place / 2 ^ inputs))
    (spelling 1 inputs (place % 2 ^ inputs))
    ∙ ap (λ (r : Made). conjunction_with r.0 r.1 (spelling 1 inputs (place % 2 ^ inputs))) e
    ∙ ap (conjunction_with middle literal) (spelling_low 1 inputs inputs place (omega arith)) ∙ f

pub picked_push : {X : Type 0} (marks : List Bool) (items : List X) (mark : Bool) (item : X) → length marks ≡ length items
    → items_where_true (marks ++ mark ∷ []) (items ++ item ∷ []) ≡ items_where_true marks items ++ cond mark (item ∷ []) []
picked_push [] [] true item e = refl
picked_push [] [] false item e = refl
picked_push [] (i ∷ items) mark item e = absurd (omega arith)
picked_push (m ∷ marks) [] mark item e = absurd (omega arith)
picked_push (true ∷ marks) (i ∷ items) mark item e = ap (λ ns. i ∷ ns) (picked_push marks items mark item (omega arith))
picked_push (false ∷ marks) (i ∷ items) mark item e = picked_push marks items mark item (omega arith)

-- one place more
having_more : (j place : ℕ) (numbers minterms : List ℕ) → place < length numbers → place < length minterms
    → having j (take (place + 1) numbers) (take (place + 1) minterms)
    ≡ having j (take place numbers) (take place minterms) ++ cond (bit (get_or numbers place 0) j) (get_or minterms place 0 ∷ []) []
having_more j place numbers minterms here there =
    ap (λ ns. having j ns (take (place + 1) minterms)) (take_more numbers place 0 here)
    ∙ ap (λ ms. having j (take place numbers ++ get_or numbers place 0 ∷ []) ms) (take_more minterms place 0 there)
    ∙ ap (λ marks. items_where_true marks (take place minterms ++ get_or minterms place 0 ∷ []))
    (map-append (λ number. bit number j) (take place numbers) (get_or numbers place 0 ∷ []))
    ∙ picked_push (map (λ number. bit number j) (take place numbers)) (take place minterms) (bit (get_or numbers place 0) j) (get_or minterms place 0)
    (length-map (take place numbers) (λ number. bit number j) ∙ length-take-le place numbers (omega arith)
    ∙ sym (length-take-le place minterms (omega arith)))

pub column_set : (old middle new : Drafted) (j place literal result : ℕ) (numbers minterms : List ℕ)
    → place < length numbers → place < length minterms → get_or numbers place 0 / 2 ^ j % 2 ≡ 1
    → disjunction_of old (having j (take place numbers) (take place minterms)) ≡ (middle, literal)
    → disjunction middle literal (get_or minterms place 0) ≡ (new, result)
    → disjunction_of old (having j (take (place + 1) numbers) (take (place + 1) minterms)) ≡ (new, result)
column_set old middle new j place literal result numbers minterms here there set e f =
    ap (disjunction_of old) (having_more j place numbers minterms here there)
    ∙ ap (λ b. disjunction_of old (having j (take place numbers) (take place minterms) ++ cond b (get_or minterms place 0 ∷ []) []))
    (eq-eqb (get_or numbers place 0 / 2 ^ j % 2) 1 set)
    ∙ fold-append (λ (so_far : Made) l. disjunction so_far.0 so_far.1 l) (old, 0) (having j (take place numbers) (take place minterms))
    (get_or minterms place 0 ∷ [])
    ∙ ap (λ (r : Made). disjunction r.0 r.1 (get_or minterms place 0)) e ∙ f

pub column_clear : (old middle : Drafted) (j place literal : ℕ) (numbers minterms : List ℕ)
    → place < length numbers → place < length minterms → (get_or numbers place 0 / 2 ^ j % 2 ≡ 1 → ⊥)
    → disjunction_of old (having j (take place numbers) (take place minterms)) ≡ (middle, literal)
    → disjunction_of old (having j (take (place + 1) numbers) (take (place + 1) minterms)) ≡ (middle, literal)
column_clear old middle j place literal numbers minterms here there clear e =
    ap (disjunction_of old) (having_more j place numbers minterms here there)
    ∙ ap (λ b. disjunction_of old (having j (take place numbers) (take place minterms) ++ cond b (get_or minterms place 0 ∷ []) []))
    (ne_eqb (get_or numbers place 0 / 2 ^ j % 2) 1 clear)
    ∙ ap (disjunction_of old) (append-nil (having j (take place numbers) (take place minterms))) ∙ e

-- a list, item by item
listed : {X Y : Type 0} (f : X → Y) (xs : List X) (g : ℕ → X) (d : X) (a : ℕ)
    → ((i : ℕ) → i < length xs → g (a + i) ≡ get_or xs i d)
    → map f xs ≡ map (λ place. f (g place)) (range_with_len a (length xs))
listed f [] g d a h = refl
listed f (x ∷ xs) g d a h =
    ap (λ y. f y ∷ map f xs) (sym (h 0 (omega arith)) ∙ ap g (omega arith))
    ∙ ap (λ l. f (g a) ∷ l) (listed f xs g d (a + 1) (λ i lt.
    let e : a + 1 + i ≡ a + suc i = omega arith in ap g e ∙ h (suc i) (omega arith)))

whole_table : {Y : Type 0} (f : Reply → Y) (machine : Machine) → IsMachine machine
    → map f machine.replies ≡ map (λ place. f (reply_of machine place)) (range_with_len 0 (machine.states * 2 ^ machine.inputs))
whole_table f machine is =
    listed f machine.replies (reply_of machine) no_reply 0 (λ i lt.
    let e : 0 + i ≡ i = omega arith in
    ap (λ x. get_or machine.replies (x / 2 ^ machine.inputs * 2 ^ machine.inputs + x % 2 ^ machine.inputs) no_reply) e
    ∙ ap (λ x. get_or machine.replies x no_reply) (div-add-mod' i (2 ^ machine.inputs)))
    ∙ ap (λ n. map (λ place. f (reply_of machine place)) (range_with_len 0 n)) is.whole

pub nexts_are : (machine : Machine) → IsMachine machine → map Reply.next machine.replies ≡ nexts_below machine (machine.states * 2 ^ machine.inputs)
nexts_are machine is = whole_table Reply.next machine is

pub outputs_are : (machine : Machine) → IsMachine machine
    → map Reply.output machine.replies ≡ outputs_below machine (machine.states * 2 ^ machine.inputs)
outputs_are machine is = whole_table Reply.output machine is

range_more : (a n : ℕ) → range_with_len a (n + 1) ≡ range_with_len a n ++ (a + n) ∷ []
range_more a n = sym (map_id (range_with_len a (n + 1))) ∙ map-range_with_len_more (λ x. x) a n (a + n) refl
    ∙ ap (λ l. l ++ (a + n) ∷ []) (map_id (range_with_len a n))
  where
    map_id : (xs : List ℕ) → map (λ x. x) xs ≡ xs
    map_id [] = refl
    map_id (x ∷ xs) = ap (λ l. x ∷ l) (map_id xs)

-- the places of one state more
row : {X : Type 0} (f : ℕ → ℕ → X) (p s count : ℕ) → count ≤ p
    → map (λ place. f (place / p) (place % p)) (range_with_len 0 (s * p + count))
    ≡ map (λ place. f (place / p) (place % p)) (range_with_len 0 (s * p)) ++ map (f s) (range_with_len 0 count)
row f p s zero le =
    let e : s * p + 0 ≡ s * p = omega arith in
    ap (λ n. map (λ place. f (place / p) (place % p)) (range_with_len 0 n)) e
    ∙ sym (append-nil (map (λ place. f (place / p) (place % p)) (range_with_len 0 (s * p))))
row {X = X} f p s (suc count) le =
    let g = λ (place : ℕ). f (place / p) (place % p) in
    let e : s * p + suc count ≡ s * p + count + 1 = omega arith in
    let lt : count < p = omega arith in
    let here : g (s * p + count) ≡ f s count = ap (λ x. f x ((s * p + count) % p)) (digits_div s lt) ∙ ap (f s) (digits_mod s lt) in
    ap (λ n. map g (range_with_len 0 n)) e
    ∙ map-range_with_len_more g 0 (s * p + count) (s * p + count) (omega arith)
    ∙ ap (λ y. map g (range_with_len 0 (s * p + count)) ++ y ∷ []) here
    ∙ ap (λ l. l ++ f s count ∷ []) (row f p s count (omega arith))
    ∙ append_assoc' (map g (range_with_len 0 (s * p))) (map (f s) (range_with_len 0 count)) (f s count ∷ [])
    ∙ ap (λ l. map g (range_with_len 0 (s * p)) ++ l) (sym (map-range_with_len_more (f s) 0 count count (omega arith)))
    ∙ ap (λ n. map g (range_with_len 0 (s * p)) ++ map (f s) (range_with_len 0 n)) (add-one count)
  where
    append_assoc' : (a b c : List X) → (a ++ b) ++ c ≡ a ++ (b ++ c)
    append_assoc' a b c = rw append_assoc refl

-- the places, state by state
by_state : {X : Type 0} (f : ℕ → ℕ → X) (p states : ℕ)
    → map (λ place. f (place / p) (place % p)) (range_with_len 0 (states * p))
    ≡ flat_map (λ s. map (f s) (range_with_len 0 p)) (range_with_len 0 states)
by_state f p zero =
    let e : 0 * p ≡ 0 = omega arith in ap (λ n. map (λ place. f (place / p) (place % p)) (range_with_len 0 n)) e
by_state f p (suc s) =
    let e : suc s * p ≡ s * p + p = grind arith in
    ap (λ n. map (λ place. f (place / p) (place % p)) (range_with_len 0 n)) e
    ∙ row f p s p (omega arith)
    ∙ ap (λ l. l ++ map (f s) (range_with_len 0 p)) (by_state f p s)
    ∙ flat_map_more (λ s. map (f s) (range_with_len 0 p)) [] (range_with_len 0 s) s
    ∙ ap (flat_map (λ s. map (f s) (range_with_len 0 p)))
    (sym (range_more 0 s ∙ (let z : 0 + s ≡ s = omega arith in ap (λ n. range_with_len 0 s ++ n ∷ []) z)) ∙ ap (range_with_len 0) (add-one s))

pub minterms_are : (machine : Machine) (latches : ℕ)
    → all_minterms machine latches ≡ minterms_below machine.inputs latches (machine.states * 2 ^ machine.inputs)
minterms_are machine latches = sym (by_state (minterm_literals machine.inputs latches) (2 ^ machine.inputs) machine.states)

pub empty_draft : (draft : Drafted) (first : ℕ) → draft.base ≡ first → draft.gates ≡ [] → draft ≡ record { base = first; gates = [] }
empty_draft draft first b g = ap (λ (n : ℕ). drafted n draft.gates) b ∙ ap (drafted first) g
  where
    drafted : ℕ → List Gate → Drafted
    drafted base gates = record { base = base; gates = gates }

-- what is made in the three parts is the circuit
pub parts_made : (machine : Machine) (latches : ℕ) → IsMachine machine → (empty d0 d1 d2 : Drafted) (minterms ns os : List ℕ) (gates : List Gate)
    → empty ≡ record { base = 1 + machine.inputs + latches; gates = [] }
    → each_made conjunction_of empty (minterms_below machine.inputs latches (machine.states * 2 ^ machine.inputs)) ≡ (d0, minterms)
    → each_made disjunction_of d0 (bit_columns latches (nexts_below machine (machine.states * 2 ^ machine.inputs)) minterms) ≡ (d1, ns)
    → each_made disjunction_of d1 (bit_columns machine.outputs (outputs_below machine (machine.states * 2 ^ machine.inputs)) minterms) ≡ (d2, os)
    → gates ≡ d2.gates
    → circuit_in_order machine.inputs ns os gates ≡ made_circuit machine latches
unfolding made_circuit
parts_made machine latches is empty d0 d1 d2 minterms ns os gates start e f g last =
    sym (ap (λ (m : Drafted × List ℕ). of_minterms m) first ∙ ap (λ (n : Drafted × List ℕ). of_nexts minterms n) second
    ∙ ap (λ (o : Drafted × List ℕ). circuit_in_order machine.inputs ns o.1 o.0.gates) third
    ∙ ap (circuit_in_order machine.inputs ns os) (sym last))
  where
    of_nexts : List ℕ → Drafted × List ℕ → Circuit
    of_nexts lits n =
        let o = each_made disjunction_of n.0 (bit_columns machine.outputs (map Reply.output machine.replies) lits) in
        circuit_in_order machine.inputs n.1 o.1 o.0.gates

    of_minterms : Drafted × List ℕ → Circuit
    of_minterms m = of_nexts m.1 (each_made disjunction_of m.0 (bit_columns latches (map Reply.next machine.replies) m.1))

    first : each_made conjunction_of (record { base = 1 + machine.inputs + latches; gates = [] }) (all_minterms machine latches) ≡ (d0, minterms)
    first = ap (each_made conjunction_of (record { base = 1 + machine.inputs + latches; gates = [] })) (minterms_are machine latches)
        ∙ ap (λ (d : Drafted). each_made conjunction_of d (minterms_below machine.inputs latches (machine.states * 2 ^ machine.inputs))) (sym start) ∙ e

    second : each_made disjunction_of d0 (bit_columns latches (map Reply.next machine.replies) minterms) ≡ (d1, ns)
    second = ap (λ l. each_made disjunction_of d0 (bit_columns latches l minterms)) (nexts_are machine is) ∙ f

    third : each_made disjunction_of d1 (bit_columns machine.outputs (map Reply.output machine.replies) minterms) ≡ (d2, os)
    third = ap (λ l. each_made disjunction_of d1 (bit_columns machine.outputs l minterms)) (outputs_are machine is) ∙ g
