-- What is written piece by piece is the layout.
use Rattle.pg_aiger.proofs.Common.{beq, ◌≡◌, ℕ, suc, ◌+◌, ◌*◌, ◌≤◌, ◌<◌, Bool, true, false, not, cond, List, [], ◌∷◌, ◌++◌, length, map}
use Rattle.pg_aiger.proofs.Common.{take, get_or, Option, refl, sym, ap, subst, arith, ◌∙◌, flat_map, items_where_true, Appends}
use Rattle.pg_aiger.proofs.Common.{Appends-trans, take_more, append-nil, map-append, flat_map_more, length-map, length-take, length-take-le}
use Rattle.pg_aiger.proofs.Common.{get_or_default, take-length, flat_map-append, map-range_with_len_more, Automaton, IsAutomaton, Gate}
use Rattle.pg_aiger.proofs.Common.{Circuit, Latch, Kind, input, output, Row, header, symbol, row_text, symbols_from, input_names}
use Rattle.pg_aiger.proofs.Common.{output_names, circuit_text, named, literal_row, latch_row, gate_row, names_until, symbol_rows}
use Rattle.pg_aiger.proofs.Common.{literals_from, latches_from, viewed}
use Rattle.pg_aiger.proofs.Made.{length_literals, length_latches}
use Rattle.pg_aiger.proofs.ReadingBack.{few_picked}

-- a row more
pub row_push : {X : Type 0} (a b c : Option (List ℕ)) (row : X → Row) (old new : List X) (x : X) → new ≡ old ++ x ∷ []
    → Appends a b (flat_map row_text (map row old)) → Appends b c (row_text (row x)) → Appends a c (flat_map row_text (map row new))
row_push a b c row old new x e so_far more =
    subst (λ xs. Appends a c (flat_map row_text (map row xs))) (sym e)
    (subst (λ rows. Appends a c (flat_map row_text rows)) (sym (map-append row old (x ∷ [])))
    (subst (Appends a c) (flat_map_more row_text [] (map row old) (row x)) (Appends-trans a b c _ _ so_far more)))

pub literals_push : (first count : ℕ) → literals_from first (count + 1) ≡ literals_from first count ++ (2 * (first + count)) ∷ []
literals_push first count = map-range_with_len_more (λ variable. 2 * variable) first count (first + count) refl

abbrev pub latch_of : ℕ → ℕ → Latch
latch_of variable next = record { literal = 2 * variable; next = next }

latches_push : (first : ℕ) (nexts : List ℕ) (next : ℕ)
    → latches_from first (nexts ++ next ∷ []) ≡ latches_from first nexts ++ latch_of (first + length nexts) next ∷ []
latches_push first [] next =
    let e : 2 * first ≡ 2 * (first + 0) = omega arith in
    ap (λ n. (let l : Latch = record { literal = n; next = next } in l) ∷ []) e
latches_push first (n ∷ nexts) next =
    let e : 2 * (suc first + length nexts) ≡ 2 * (first + suc (length nexts)) = omega arith in
    ap (λ ls. (let l : Latch = record { literal = 2 * first; next = n } in l) ∷ ls)
    (latches_push (suc first) nexts next
    ∙ ap (λ m. latches_from (suc first) nexts ++ (let l : Latch = record { literal = m; next = next } in l) ∷ []) e)

pub latches_more : (first index : ℕ) (nexts : List ℕ) (next : ℕ) → index < length nexts → next ≡ get_or nexts index 0
    → latches_from first (take (index + 1) nexts)
    ≡ latches_from first (take index nexts) ++ latch_of (first + index) next ∷ []
latches_more first index nexts next lt is =
    ap (latches_from first) (take_more nexts index 0 lt ∙ ap (λ n. take index nexts ++ n ∷ []) (sym is))
    ∙ latches_push first (take index nexts) next
    ∙ ap (λ n. latches_from first (take index nexts) ++ latch_of (first + n) next ∷ [])
    (length-take-le index nexts (omega arith))

-- ---- symbols

items_push : (marks : List Bool) (names : List (List ℕ)) (mark : Bool) (name : List ℕ) → length marks ≡ length names
    → items_where_true (marks ++ mark ∷ []) (names ++ name ∷ []) ≡ items_where_true marks names ++ cond mark (name ∷ []) []
items_push [] [] true name e = refl
items_push [] [] false name e = refl
items_push [] (n ∷ names) mark name e = absurd (omega arith)
items_push (m ∷ marks) [] mark name e = absurd (omega arith)
items_push (true ∷ marks) (n ∷ names) mark name e = ap (λ ns. n ∷ ns) (items_push marks names mark name (omega arith))
items_push (false ∷ marks) (n ∷ names) mark name e = items_push marks names mark name (omega arith)

pub symbols_push : (kind : Kind) (position : ℕ) (names : List (List ℕ)) (name : List ℕ)
    → symbols_from kind position (names ++ name ∷ [])
    ≡ symbols_from kind position names ++ named kind (position + length names) name ∷ []
symbols_push kind position [] name =
    let e : position ≡ position + 0 = omega arith in
    ap (λ n. named kind n name ∷ []) e
symbols_push kind position (n ∷ names) name =
    let e : suc position + length names ≡ position + suc (length names) = omega arith in
    ap (λ ss. named kind position n ∷ ss)
    (symbols_push kind (suc position) names name
    ∙ ap (λ m. symbols_from kind (suc position) names ++ named kind m name ∷ []) e)

-- the names so far are few
pub few_names : (a : Automaton) (i : ℕ) (controlled : Bool) → IsAutomaton a → length (names_until controlled a i) ≤ 16
few_names a i true is =
    let few = few_picked (take i a.controllable) (take i a.propositions) in
    let most = is.few_propositions in
    omega (arith, few, most, length-take i a.propositions)
few_names a i false is =
    let few = few_picked (map not (take i a.controllable)) (take i a.propositions) in
    let most = is.few_propositions in
    omega (arith, few, most, length-take i a.propositions)

-- one proposition more
names_more : (a : Automaton) (i : ℕ) (controlled mark : Bool) (name : List ℕ) → IsAutomaton a → i < length a.propositions
    → mark ≡ get_or a.controllable i mark → name ≡ get_or a.propositions i name
    → names_until controlled a (i + 1) ≡ names_until controlled a i ++ cond (cond controlled mark (not mark)) (name ∷ []) []
names_more a i true mark name is lt marked named =
    let marks = is.marks in
    let short : i < length a.controllable = omega (arith, lt, marks) in
    ap (λ ms. items_where_true ms (take (i + 1) a.propositions))
    (take_more a.controllable i mark short ∙ ap (λ m. take i a.controllable ++ m ∷ []) (sym marked))
    ∙ ap (items_where_true (take i a.controllable ++ mark ∷ [])) (take_more a.propositions i name lt ∙ ap (λ n. take i a.propositions ++ n ∷ []) (sym named))
    ∙ items_push (take i a.controllable) (take i a.propositions) mark name
    (length-take-le i a.controllable (omega arith) ∙ sym (length-take-le i a.propositions (omega arith)))
names_more a i false mark name is lt marked named =
    let marks = is.marks in
    let short : i < length a.controllable = omega (arith, lt, marks) in
    ap (λ ms. items_where_true (map not ms) (take (i + 1) a.propositions))
    (take_more a.controllable i mark short ∙ ap (λ m. take i a.controllable ++ m ∷ []) (sym marked))
    ∙ ap (λ ms. items_where_true ms (take (i + 1) a.propositions)) (map-append not (take i a.controllable) (mark ∷ []))
    ∙ ap (items_where_true (map not (take i a.controllable) ++ not mark ∷ []))
    (take_more a.propositions i name lt ∙ ap (λ n. take i a.propositions ++ n ∷ []) (sym named))
    ∙ items_push (map not (take i a.controllable)) (take i a.propositions) (not mark) name
    (length-map (take i a.controllable) not ∙ length-take-le i a.controllable (omega arith) ∙ sym (length-take-le i a.propositions (omega arith)))

pub names_taken : (a : Automaton) (i : ℕ) (controlled mark : Bool) (name : List ℕ) → IsAutomaton a → i < length a.propositions
    → mark ≡ get_or a.controllable i mark → name ≡ get_or a.propositions i name → beq mark controlled ≡ true
    → names_until controlled a (i + 1) ≡ names_until controlled a i ++ name ∷ []
names_taken a i true true name is lt marked named same = names_more a i true true name is lt marked named
names_taken a i true false name is lt marked named same = absurd (cc same)
names_taken a i false true name is lt marked named same = absurd (cc same)
names_taken a i false false name is lt marked named same = names_more a i false false name is lt marked named

pub names_left : (a : Automaton) (i : ℕ) (controlled mark : Bool) → IsAutomaton a → i < length a.propositions
    → mark ≡ get_or a.controllable i mark → beq mark controlled ≡ false → names_until controlled a (i + 1) ≡ names_until controlled a i
names_left a i true true is lt marked other = absurd (cc other)
names_left a i true false is lt marked other =
    names_more a i true false (get_or a.propositions i []) is lt marked (get_or_default a.propositions i [] (get_or a.propositions i []) lt)
    ∙ append-nil (names_until true a i)
names_left a i false true is lt marked other =
    names_more a i false true (get_or a.propositions i []) is lt marked (get_or_default a.propositions i [] (get_or a.propositions i []) lt)
    ∙ append-nil (names_until false a i)
names_left a i false false is lt marked other = absurd (cc other)

-- ---- the whole

rows_join : (a b c : Option (List ℕ)) (xs ys : List Row) → Appends a b (flat_map row_text xs) → Appends b c (flat_map row_text ys)
    → Appends a c (flat_map row_text (xs ++ ys))
rows_join a b c xs ys first second = subst (Appends a c) (sym (flat_map-append row_text xs ys)) (Appends-trans a b c _ _ first second)

names_all : (a : Automaton) (marks : List Bool) → length marks ≡ length a.propositions
    → items_where_true (take (length a.propositions) marks) (take (length a.propositions) a.propositions) ≡ items_where_true marks a.propositions
names_all a marks same =
    ap (λ ms. items_where_true ms (take (length a.propositions) a.propositions)) (ap (λ n. take n marks) (sym same) ∙ take-length marks)
    ∙ ap (items_where_true marks) (take-length a.propositions)

inputs_all : (a : Automaton) → IsAutomaton a → symbol_rows false a ≡ map symbol (symbols_from input 0 (input_names a))
inputs_all a is =
    ap (λ ns. map symbol (symbols_from input 0 ns))
    (ap (λ ms. items_where_true (map not ms) (take (length a.propositions) a.propositions))
    (ap (λ n. take n a.controllable) (sym is.marks) ∙ take-length a.controllable)
    ∙ ap (items_where_true (map not a.controllable)) (take-length a.propositions))

outputs_all : (a : Automaton) → IsAutomaton a → symbol_rows true a ≡ map symbol (symbols_from output 0 (output_names a))
outputs_all a is = ap (λ ns. map symbol (symbols_from output 0 ns)) (names_all a a.controllable is.marks)

pub whole_text : (a b c d e f g h : Option (List ℕ)) (circuit : Circuit) (au : Automaton) → IsAutomaton au
    → Appends a b (row_text (header (circuit.greatest ∷ length circuit.inputs ∷ length circuit.latches ∷ length circuit.outputs ∷ length circuit.gates ∷ [])))
    → Appends b c (flat_map row_text (map literal_row circuit.inputs))
    → Appends c d (flat_map row_text (map latch_row circuit.latches))
    → Appends d e (flat_map row_text (map literal_row circuit.outputs))
    → Appends e f (flat_map row_text (map gate_row circuit.gates))
    → Appends f g (flat_map row_text (symbol_rows false au))
    → Appends g h (flat_map row_text (symbol_rows true au))
    → Appends a h (circuit_text circuit au)
whole_text a b c d e f g h circuit au is head ins latches outs gates in_names out_names =
    Appends-trans a b h _ _ head
    (rows_join b c h (map literal_row circuit.inputs) _ ins
    (rows_join c d h (map latch_row circuit.latches) _ latches
    (rows_join d e h (map literal_row circuit.outputs) _ outs
    (rows_join e f h (map gate_row circuit.gates) _ gates
    (subst (λ rows. Appends f h (flat_map row_text rows))
    (sym (map-append symbol (symbols_from input 0 (input_names au)) (symbols_from output 0 (output_names au))))
    (rows_join f g h _ _ (subst (λ rows. Appends f g (flat_map row_text rows)) (inputs_all au is) in_names)
    (subst (λ rows. Appends g h (flat_map row_text rows)) (outputs_all au is) out_names)))))))

-- the numbers of the header
pub counts_are : (inputs : ℕ) (ns os : List ℕ) (gates : List Gate) (b o g : ℕ) → b ≡ length ns → o ≡ length os → g ≡ length gates
    → let circuit = viewed inputs ns os gates in
    ((inputs + b + g) ∷ inputs ∷ b ∷ o ∷ g ∷ [])
    ≡ (circuit.greatest ∷ length circuit.inputs ∷ length circuit.latches ∷ length circuit.outputs ∷ length circuit.gates ∷ [])
counts_are inputs ns os gates b o g latches outputs count = rw (latches, outputs, count, length_literals 1 inputs, length_latches (1 + inputs) ns) refl
