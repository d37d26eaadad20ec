-- The text of a circuit reads back.
use Rattle.pg_aiger.proofs.Common.{rules, ◌≡◌, ◌≢◌, ℕ, suc, ◌+◌, ◌-◌, ◌*◌, ◌^◌, ◌<◌, ◌≤◌, Bool, true, false, not, List, [], ◌∷◌, ◌++◌}
use Rattle.pg_aiger.proofs.Common.{length, map, refl, sym, ap, subst, arith, append_assoc, ◌∙◌, inl, inr, eqb, All, decimal, codes}
use Rattle.pg_aiger.proofs.Common.{flat_map, fold, items_where_true, AllByRecursion, digits_decimal, digits_value-decimal, decimal_nonempty}
use Rattle.pg_aiger.proofs.Common.{cases_eq, ne_eqb, append-nil, map-append, get_or_default, IsNumeralModel, numerals_by_fold, Each}
use Rattle.pg_aiger.proofs.Common.{is_digit, value_of, Automaton, IsAutomaton, IsNameByte, IsPropositionName, inputs, outputs, Gate}
use Rattle.pg_aiger.proofs.Common.{Circuit, Latch, no_latch, AreGatesFrom, IsNumbered, Kind, input, latch, output, Symbol, Row, header}
use Rattle.pg_aiger.proofs.Common.{numbers, symbol, IsNumber, AreNumbers, kind_text, Says, is_inner, AreRows, rows_of, count_of}
use Rattle.pg_aiger.proofs.Common.{IsCircuitText, spaced_number, spaced, row_line, row_text, input_names, output_names, symbols_from}
use Rattle.pg_aiger.proofs.Common.{symbols_of, circuit_text, literal_row, latch_row, gate_row}

-- ---- what is printed is spelt

value_from : ℕ → List ℕ → ℕ
value_from n digits = fold (λ n b. 10 * n + (b - 48)) n digits

numerals : IsNumeralModel (Each is_digit) (value_from 0)
unfolding value_from
numerals = numerals_by_fold (Each is_digit) (search rules) value_from (search rules)

number_spelt : (n : ℕ) → n < 2 ^ 64 → IsNumber (decimal n) n
unfolding value_from
number_spelt n small =
    let long = decimal_nonempty n small in
    (λ e. absurd (omega (arith, long, ap length e)), digits_decimal numerals n small, digits_value-decimal numerals n small)

abbrev pub AreSmall : List ℕ → Type 0
AreSmall ns = AllByRecursion (λ n. n < 2 ^ 64) ns

spaced_spelt : (n : ℕ) (ns : List ℕ) → n < 2 ^ 64 → AreSmall ns → AreNumbers (decimal n ++ flat_map spaced_number ns) (n ∷ ns)
spaced_spelt n [] small smalls = subst (λ text. IsNumber text n) (sym (append-nil (decimal n))) (number_spelt n small)
spaced_spelt n (m ∷ ns) small smalls = (decimal n, decimal m ++ flat_map spaced_number ns, refl, number_spelt n small, spaced_spelt m ns smalls.0 smalls.1)

each_append : (test : ℕ → Bool) (xs ys : List ℕ) → Each test xs → Each test ys → Each test (xs ++ ys)
each_append test [] ys a b = b
each_append test (x ∷ xs) ys a b = (a.0, each_append test xs ys a.1 b)

digits_inner : (digits : List ℕ) → Each is_digit digits → Each is_inner digits
digits_inner [] each = tt
digits_inner (b ∷ digits) each = (digit_inner b each.0, digits_inner digits each.1)
  where
    digit_inner : (b : ℕ) → is_digit b ≡ true → is_inner b ≡ true
    digit_inner b holds = elim (cases_eq b 10) [
      | inl e ↦ absurd (let no : is_digit 10 ≡ true = subst (λ c. is_digit c ≡ true) e holds in cc no)
      | inr ne ↦ let no : eqb b 10 ≡ false = ne_eqb b 10 ne in rw no refl
    ]

spaced_inner : (ns : List ℕ) → AreSmall ns → Each is_inner (flat_map spaced_number ns)
spaced_inner [] smalls = tt
spaced_inner (n ∷ ns) smalls = (
  refl,
  each_append is_inner (decimal n) (flat_map spaced_number ns) (digits_inner (decimal n) (number_spelt n smalls.0).1) (spaced_inner ns smalls.1),
)

-- a line that can be printed: numbers that fit, at least one, and a name without a newline
abbrev pub IsPrintable : Row → Type 0
IsPrintable (header ns) = (ns ≢ []) × AreSmall ns
IsPrintable (numbers ns) = (ns ≢ []) × AreSmall ns
IsPrintable (symbol s) = (s.position < 2 ^ 64) × Each is_inner s.name

says : (row : Row) → IsPrintable row → Says (row_line row) row
says (header []) is = absurd (is.0 refl)
says (header (n ∷ ns)) is = (decimal n ++ flat_map spaced_number ns, refl, spaced_spelt n ns is.1.0 is.1.1)
says (numbers []) is = absurd (is.0 refl)
says (numbers (n ∷ ns)) is = spaced_spelt n ns is.1.0 is.1.1
says (symbol s) is = (decimal s.position, refl, number_spelt s.position is.0)

numbers_inner : (ns : List ℕ) → AreSmall ns → Each is_inner (spaced ns)
numbers_inner [] smalls = tt
numbers_inner (n ∷ ns) smalls =
    each_append is_inner (decimal n) (flat_map spaced_number ns) (digits_inner (decimal n) (number_spelt n smalls.0).1) (spaced_inner ns smalls.1)

kind_inner : (kind : Kind) → Each is_inner (kind_text kind)
kind_inner input = (refl, tt)
kind_inner _ = (refl, tt)

inner : (row : Row) → IsPrintable row → Each is_inner (row_line row)
inner (header ns) is = each_append is_inner (codes "aag ") (spaced ns) (refl, (refl, (refl, (refl, tt)))) (numbers_inner ns is.1)
inner (numbers ns) is = numbers_inner ns is.1
inner (symbol s) is =
    each_append is_inner (kind_text s.kind) (decimal s.position ++ (codes " " ++ s.name)) (kind_inner s.kind)
    (each_append is_inner (decimal s.position) (codes " " ++ s.name) (digits_inner (decimal s.position) (number_spelt s.position is.0).1) (refl, is.1))

rows_spelt : (rows : List Row) → AllByRecursion IsPrintable rows → AreRows (flat_map row_text rows) rows
rows_spelt [] are = refl
rows_spelt (row ∷ rows) are = (
  flat_map row_text rows,
  record {
    line = row_line row;
    parts = append_assoc (row_line row) (codes "\n") (flat_map row_text rows);
    single = inner row are.0;
    says = says row are.0;
  },
  rows_spelt rows are.1,
)

-- ---- what is spelt is one circuit

-- what stands before the first byte that fails the test, and what stands behind it
cut : (test : ℕ → Bool) (b : ℕ) (xs ys rs ss : List ℕ) → Each test xs → Each test ys → test b ≡ false → xs ++ b ∷ rs ≡ ys ++ b ∷ ss
    → (xs ≡ ys) × (rs ≡ ss)
cut test b [] [] rs ss in_x in_y fails e = (refl, (let same : rs ≡ ss = cc in same))
cut test b [] (y ∷ ys) rs ss in_x in_y fails e =
    absurd (let same : b ≡ y = cc in let no : true ≡ false = sym in_y.0 ∙ ap test (sym same) ∙ fails in cc no)
cut test b (x ∷ xs) [] rs ss in_x in_y fails e =
    absurd (let same : x ≡ b = cc in let no : true ≡ false = sym in_x.0 ∙ ap test same ∙ fails in cc no)
cut test b (x ∷ xs) (y ∷ ys) rs ss in_x in_y fails e =
    let first : x ≡ y = cc in
    let others : xs ++ b ∷ rs ≡ ys ++ b ∷ ss = cc in
    let below = cut test b xs ys rs ss in_x.1 in_y.1 fails others in
    ((let one : (x ∷ xs) ≡ (y ∷ ys) = ap (λ z. z ∷ xs) first ∙ ap (λ zs. y ∷ zs) below.0 in one), below.1)

same_numbers : (line : List ℕ) (ns ms : List ℕ) → length ns ≡ length ms → AreNumbers line ns → AreNumbers line ms → ns ≡ ms
same_numbers line [] [] e a b = refl
same_numbers line [] (m ∷ ms) e a b = absurd (omega arith)
same_numbers line (n ∷ ns) [] e a b = absurd (omega arith)
same_numbers line (n ∷ []) (m ∷ []) e a b = ap (λ k. k ∷ []) (sym a.2 ∙ b.2)
same_numbers line (n ∷ []) (m ∷ m' ∷ ms) e a b = absurd (omega arith)
same_numbers line (n ∷ n' ∷ ns) (m ∷ []) e a b = absurd (omega arith)
same_numbers line (n ∷ n' ∷ ns) (m ∷ m' ∷ ms) e (ds, rs, whole, number, others) (ds', rs', whole', number', others') =
    let parts = cut is_digit 32 ds ds' rs rs' number.1 number'.1 refl (sym whole ∙ whole') in
    let first : n ≡ m = sym number.2 ∙ ap value_of parts.0 ∙ number'.2 in
    ap (λ k. k ∷ n' ∷ ns) first
    ∙ ap (λ ks. m ∷ ks) (same_numbers rs (n' ∷ ns) (m' ∷ ms) (omega arith) others (subst (λ text. AreNumbers text (m' ∷ ms)) (sym parts.1) others'))

-- one line says both
record SayTheSame (first second : Row) : Type 0 where
  line : List ℕ
  says_first : Says line first
  says_second : Says line second

Paired : List Row → List Row → Type 0
Paired [] [] = Unit {0}
Paired [] (row ∷ rows) = ⊥
Paired (row ∷ rows) [] = ⊥
Paired (first ∷ rows) (second ∷ others) = SayTheSame first second × Paired rows others

paired : (bytes : List ℕ) (rows others : List Row) → AreRows bytes rows → AreRows bytes others → Paired rows others
unfolding Paired
paired bytes [] [] a b = tt
paired bytes [] (row ∷ others) a (rest, begins, more) = no_bytes bytes begins.line rest a begins.parts
  where
    no_bytes : (bytes line rest : List ℕ) → bytes ≡ [] → bytes ≡ line ++ (codes "\n" ++ rest) → ⊥
    no_bytes bytes [] rest e f = let g : [] ≡ 10 ∷ rest = sym e ∙ f in cc g
    no_bytes bytes (b ∷ line) rest e f = let g : [] ≡ b ∷ (line ++ (10 ∷ rest)) = sym e ∙ f in cc g
paired bytes (row ∷ rows) [] (rest, begins, more) b = no_bytes bytes begins.line rest b begins.parts
  where
    no_bytes : (bytes line rest : List ℕ) → bytes ≡ [] → bytes ≡ line ++ (codes "\n" ++ rest) → ⊥
    no_bytes bytes [] rest e f = let g : [] ≡ 10 ∷ rest = sym e ∙ f in cc g
    no_bytes bytes (b ∷ line) rest e f = let g : [] ≡ b ∷ (line ++ (10 ∷ rest)) = sym e ∙ f in cc g
paired bytes (row ∷ rows) (row' ∷ others) (rest, begins, more) (rest', begins', more') =
    let parts = cut is_inner 10 begins.line begins'.line rest rest' begins.single begins'.single refl (sym begins.parts ∙ begins'.parts) in (
      record { line = begins.line; says_first = begins.says; says_second = subst (λ line. Says line row') (sym parts.0) begins'.says },
      paired rest rows others more (subst (λ bytes. AreRows bytes others) (sym parts.1) more'),
    )

-- rows of one kind, as many of each, and then others
split_rows : {X : Type 0} (row : X → Row) → ((x y : X) → SayTheSame (row x) (row y) → x ≡ y) → (xs ys : List X) (rows others : List Row)
    → length xs ≡ length ys → Paired (map row xs ++ rows) (map row ys ++ others) → (xs ≡ ys) × Paired rows others
unfolding Paired
split_rows row one [] [] rows others e are = (refl, are)
split_rows row one [] (y ∷ ys) rows others e are = absurd (omega arith)
split_rows row one (x ∷ xs) [] rows others e are = absurd (omega arith)
split_rows row one (x ∷ xs) (y ∷ ys) rows others e are =
    let below = split_rows row one xs ys rows others (omega arith) are.1 in
    (ap (λ z. z ∷ xs) (one x y are.0) ∙ ap (λ zs. y ∷ zs) below.0, below.1)

one_literal : (l m : ℕ) → SayTheSame (literal_row l) (literal_row m) → l ≡ m
one_literal l m same = sym same.says_first.2 ∙ same.says_second.2

same_latch : (l m : Latch) → l.literal ≡ m.literal → l.next ≡ m.next → l ≡ m
same_latch l m a b =
    let middle : Latch = record { literal = m.literal; next = l.next } in
    let first : l ≡ middle = ap (λ n. record { literal = n; next = l.next }) a in
    first ∙ ap (λ n. record { literal = m.literal; next = n }) b

one_latch : (l m : Latch) → SayTheSame (latch_row l) (latch_row m) → l ≡ m
one_latch l m same =
    let e = same_numbers same.line (l.literal ∷ l.next ∷ []) (m.literal ∷ m.next ∷ []) refl same.says_first same.says_second in
    same_latch l m (cc e) (cc e)

same_gate : (g h : Gate) → g.lhs ≡ h.lhs → g.rhs0 ≡ h.rhs0 → g.rhs1 ≡ h.rhs1 → g ≡ h
same_gate g h a b c =
    ap (λ n. record { lhs = n; rhs0 = g.rhs0; rhs1 = g.rhs1 }) a ∙ ap (λ n. record { lhs = h.lhs; rhs0 = n; rhs1 = g.rhs1 }) b
    ∙ ap (λ n. record { lhs = h.lhs; rhs0 = h.rhs0; rhs1 = n }) c

one_gate : (g h : Gate) → SayTheSame (gate_row g) (gate_row h) → g ≡ h
one_gate g h same =
    let e = same_numbers same.line (g.lhs ∷ g.rhs0 ∷ g.rhs1 ∷ []) (h.lhs ∷ h.rhs0 ∷ h.rhs1 ∷ []) refl same.says_first same.says_second in
    same_gate g h (cc e) (cc e) (cc e)

one_kind : (k l : Kind) (text other : List ℕ) → kind_text k ++ text ≡ kind_text l ++ other → (k ≡ l) × (text ≡ other)
one_kind input input text other e = (refl, (let same : text ≡ other = cc in same))
one_kind input latch text other e = let no : ◌≡◌ {A = ℕ} 105 108 = cc in absurd (omega (arith, no))
one_kind input output text other e = let no : ◌≡◌ {A = ℕ} 105 111 = cc in absurd (omega (arith, no))
one_kind latch input text other e = let no : ◌≡◌ {A = ℕ} 108 105 = cc in absurd (omega (arith, no))
one_kind latch latch text other e = (refl, (let same : text ≡ other = cc in same))
one_kind latch output text other e = let no : ◌≡◌ {A = ℕ} 108 111 = cc in absurd (omega (arith, no))
one_kind output input text other e = let no : ◌≡◌ {A = ℕ} 111 105 = cc in absurd (omega (arith, no))
one_kind output latch text other e = let no : ◌≡◌ {A = ℕ} 111 108 = cc in absurd (omega (arith, no))
one_kind output output text other e = (refl, (let same : text ≡ other = cc in same))

one_symbol : (s t : Symbol) → SayTheSame (symbol s) (symbol t) → s ≡ t
one_symbol s t same = of_parts s t same.line same.says_first same.says_second
  where
    of_parts : (s t : Symbol) (line : List ℕ) → Says line (symbol s) → Says line (symbol t) → s ≡ t
    of_parts s t line (ds, whole, number) (ds', whole', number') =
        let kinds = one_kind s.kind t.kind (ds ++ (32 ∷ s.name)) (ds' ++ (32 ∷ t.name)) (sym whole ∙ whole') in
        let parts = cut is_digit 32 ds ds' s.name t.name number.1 number'.1 refl kinds.1 in
        let position : s.position ≡ t.position = sym number.2 ∙ ap value_of parts.0 ∙ number'.2 in
        ap (λ k. record { kind = k; position = s.position; name = s.name }) kinds.0
        ∙ ap (λ n. record { kind = t.kind; position = n; name = s.name }) position
        ∙ ap (λ n. record { kind = t.kind; position = t.position; name = n }) parts.1

one_list : (xs ys : List Symbol) → Paired (map symbol xs) (map symbol ys) → xs ≡ ys
unfolding Paired
one_list [] [] are = refl
one_list [] (y ∷ ys) are = absurd are
one_list (x ∷ xs) [] are = absurd are
one_list (x ∷ xs) (y ∷ ys) are = ap (λ z. z ∷ xs) (one_symbol x y are.0) ∙ ap (λ zs. y ∷ zs) (one_list xs ys are.1)

same_circuit : (c d : Circuit) → c.greatest ≡ d.greatest → c.inputs ≡ d.inputs → c.latches ≡ d.latches → c.outputs ≡ d.outputs
    → c.gates ≡ d.gates → c ≡ d
same_circuit c d a b e f g =
    ap (λ x. record { greatest = x; inputs = c.inputs; latches = c.latches; outputs = c.outputs; gates = c.gates }) a
    ∙ ap (λ x. record { greatest = d.greatest; inputs = x; latches = c.latches; outputs = c.outputs; gates = c.gates }) b
    ∙ ap (λ x. record { greatest = d.greatest; inputs = d.inputs; latches = x; outputs = c.outputs; gates = c.gates }) e
    ∙ ap (λ x. record { greatest = d.greatest; inputs = d.inputs; latches = d.latches; outputs = x; gates = c.gates }) f
    ∙ ap (λ x. record { greatest = d.greatest; inputs = d.inputs; latches = d.latches; outputs = d.outputs; gates = x }) g

-- bytes are the rows of one circuit and its symbols
pub one_text : (c d : Circuit) (symbols others : List Symbol) (bytes : List ℕ) → AreRows bytes (rows_of c symbols) → AreRows bytes (rows_of d others)
    → (c ≡ d) × (symbols ≡ others)
unfolding Paired
one_text c d symbols others bytes first second =
    let are = paired bytes (rows_of c symbols) (rows_of d others) first second in
    let head = same_header are.0 in
    let counts = cells head in
    let i = split_rows literal_row one_literal c.inputs d.inputs _ _ counts.1 are.1 in
    let l = split_rows latch_row one_latch c.latches d.latches _ _ counts.2 i.1 in
    let o = split_rows literal_row one_literal c.outputs d.outputs _ _ counts.3 l.1 in
    let g = split_rows gate_row one_gate c.gates d.gates _ _ counts.4 o.1 in
    (same_circuit c d counts.0 i.0 l.0 o.0 g.0, one_list symbols others g.1)
  where
    head_of : Circuit → List ℕ
    head_of c = c.greatest ∷ length c.inputs ∷ length c.latches ∷ length c.outputs ∷ length c.gates ∷ []

    same_header : SayTheSame (header (head_of c)) (header (head_of d)) → head_of c ≡ head_of d
    same_header same = of_texts same.line same.says_first same.says_second
      where
        of_texts : (line : List ℕ) → Says line (header (head_of c)) → Says line (header (head_of d)) → head_of c ≡ head_of d
        of_texts line (text, whole, these) (text', whole', those) =
            let e : (97 ∷ 97 ∷ 103 ∷ 32 ∷ text) ≡ (97 ∷ 97 ∷ 103 ∷ 32 ∷ text') = sym whole ∙ whole' in
            let same : text ≡ text' = cc e in
            same_numbers text (head_of c) (head_of d) refl these (subst (λ t. AreNumbers t (head_of d)) (sym same) those)

    cells : head_of c ≡ head_of d → (c.greatest ≡ d.greatest) × (length c.inputs ≡ length d.inputs) × (length c.latches ≡ length d.latches)
        × (length c.outputs ≡ length d.outputs) × (length c.gates ≡ length d.gates)
    cells e = (cc e, cc e, cc e, cc e, cc e)

-- ---- the rows of a circuit can be printed

all_map : {X : Type 0} (P : X → Type 0) (row : X → Row) → ((x : X) → P x → IsPrintable (row x)) → (xs : List X) → All P xs
    → AllByRecursion IsPrintable (map row xs)
all_map P row each [] all = tt
all_map P row each (x ∷ xs) all = (each x (all 0 x (omega arith)), all_map P row each xs (λ k d l. all (suc k) d (omega arith)))

-- rows of one, two and three numbers
one_small : (l : ℕ) → l < 2 ^ 40 → IsPrintable (literal_row l)
one_small l small = ((λ e. cc e), (omega arith, tt))

two_small : (l : Latch) → (l.literal < 2 ^ 40) × (l.next < 2 ^ 40) → IsPrintable (latch_row l)
two_small l (first, second) = ((λ e. cc e), (omega arith, (omega arith, tt)))

three_small : (g : Gate) → g.lhs < 2 ^ 42 → g.rhs0 < 2 ^ 42 → g.rhs1 < 2 ^ 42 → IsPrintable (gate_row g)
three_small g a b c = ((λ e. cc e), (omega arith, (omega arith, (omega arith, tt))))

gates_printable : (gates : List Gate) (first : ℕ) → AreGatesFrom first gates → first + length gates ≤ 2 ^ 40
    → AllByRecursion IsPrintable (map gate_row gates)
gates_printable [] first are few = tt
gates_printable (gate ∷ gates) first (own, greater, order, others) few = (
  three_small gate (omega arith) (omega arith) (omega arith),
  gates_printable gates (suc first) others (omega arith),
)

all_append : {X : Type 0} (P : X → Type 0) (xs ys : List X) → AllByRecursion P xs → AllByRecursion P ys → AllByRecursion P (xs ++ ys)
all_append P [] ys a b = b
all_append P (x ∷ xs) ys a b = (a.0, all_append P xs ys a.1 b)

-- names are lines
names_inner : (names : List (List ℕ)) → AllByRecursion IsPropositionName names → AllByRecursion (Each is_inner) names
names_inner [] are = tt
names_inner (name ∷ names) are = (name_inner name are.0.1, names_inner names are.1)
  where
    byte_inner : (b : ℕ) → IsNameByte b → is_inner b ≡ true
    byte_inner b is = let ne : eqb b 10 ≡ false = ne_eqb b 10 (λ e. let low = is.0 in omega (arith, low, e)) in rw ne refl

    name_inner : (name : List ℕ) → AllByRecursion IsNameByte name → Each is_inner name
    name_inner [] are = tt
    name_inner (b ∷ name) are = (byte_inner b are.0, name_inner name are.1)

picked_inner : (marks : List Bool) (names : List (List ℕ)) → AllByRecursion (Each is_inner) names
    → AllByRecursion (Each is_inner) (items_where_true marks names)
picked_inner [] names are = tt
picked_inner (mark ∷ marks) [] are = tt
picked_inner (true ∷ marks) (name ∷ names) are = (are.0, picked_inner marks names are.1)
picked_inner (false ∷ marks) (name ∷ names) are = picked_inner marks names are.1

symbols_printable : (kind : Kind) (position : ℕ) (names : List (List ℕ)) → AllByRecursion (Each is_inner) names → position + length names < 2 ^ 40
    → AllByRecursion IsPrintable (map symbol (symbols_from kind position names))
symbols_printable kind position [] are few = tt
symbols_printable kind position (name ∷ names) are few = (((omega arith), are.0), symbols_printable kind (suc position) names are.1 (omega arith))

symbols_named : (circuit : Circuit) (kind : Kind) (position : ℕ) (names : List (List ℕ)) → position + length names ≤ count_of circuit kind
    → AllByRecursion (λ s. s.position < count_of circuit s.kind) (symbols_from kind position names)
symbols_named circuit kind position [] few = tt
symbols_named circuit kind position (name ∷ names) few = ((omega arith), symbols_named circuit kind (suc position) names (omega arith))

count_inputs : (controllable : List Bool) (names : List (List ℕ)) → length controllable ≡ length names
    → length (items_where_true (map not controllable) names) ≡ inputs controllable
count_inputs [] names e = refl
count_inputs (mark ∷ controllable) [] e = absurd (omega arith)
count_inputs (true ∷ controllable) (name ∷ names) e = count_inputs controllable names (omega arith)
count_inputs (false ∷ controllable) (name ∷ names) e = ap suc (count_inputs controllable names (omega arith))

count_outputs : (controllable : List Bool) (names : List (List ℕ)) → length controllable ≡ length names
    → length (items_where_true controllable names) ≡ outputs controllable
count_outputs [] names e = refl
count_outputs (mark ∷ controllable) [] e = absurd (omega arith)
count_outputs (true ∷ controllable) (name ∷ names) e = ap suc (count_outputs controllable names (omega arith))
count_outputs (false ∷ controllable) (name ∷ names) e = count_outputs controllable names (omega arith)

pub few_picked : (marks : List Bool) (names : List (List ℕ)) → length (items_where_true marks names) ≤ length names
few_picked [] names = omega arith
few_picked (mark ∷ marks) [] = omega arith
few_picked (true ∷ marks) (name ∷ names) = let h = few_picked marks names in omega (arith, h)
few_picked (false ∷ marks) (name ∷ names) = let h = few_picked marks names in omega (arith, h)

printable : (circuit : Circuit) (a : Automaton) → IsNumbered circuit → circuit.greatest ≤ 1073741823 → IsAutomaton a
    → length circuit.outputs ≡ outputs a.controllable → AllByRecursion IsPrintable (rows_of circuit (symbols_of a))
printable circuit a num within is same_outputs = (
  (
    (λ e. cc e),
    (
      omega (arith, within),
      (
        omega (arith, within, total),
        (
          omega (arith, within, total),
          (
            omega (arith, few_outputs),
            (omega (arith, within, total), tt),
          ),
        ),
      ),
    ),
  ),
  all_append IsPrintable (map literal_row circuit.inputs) _
      (all_map (λ l. l < 2 ^ 40) literal_row one_small circuit.inputs
      (λ k d l. let e = num.inputs k l in let any = get_or_default circuit.inputs k d 0 l in omega (arith, e, any, l, within, total)))
      (all_append IsPrintable (map latch_row circuit.latches) _
      (all_map (λ l. (l.literal < 2 ^ 40) × (l.next < 2 ^ 40)) latch_row two_small circuit.latches
      (λ k d l. subst (λ x. (x.literal < 2 ^ 40) × (x.next < 2 ^ 40)) (get_or_default circuit.latches k no_latch d l)
      ((let e = num.latches k l in omega (arith, e, l, within, total)), (let e = num.nexts k l in omega (arith, e, within)))))
      (all_append IsPrintable (map literal_row circuit.outputs) _
      (all_map (λ l. l < 2 ^ 40) literal_row one_small circuit.outputs
      (λ k d l. let e = num.outputs k l in let any = get_or_default circuit.outputs k d 0 l in omega (arith, e, any, within)))
      (all_append IsPrintable (map gate_row circuit.gates) _
      (gates_printable circuit.gates (1 + length circuit.inputs + length circuit.latches) num.gates (omega (arith, within, total)))
      (subst (AllByRecursion IsPrintable) (sym (map-append symbol (symbols_from input 0 (input_names a)) (symbols_from output 0 (output_names a))))
      (all_append IsPrintable (map symbol (symbols_from input 0 (input_names a))) _
      (symbols_printable input 0 (input_names a) (picked_inner (map not a.controllable) a.propositions names)
      (let few = few_picked (map not a.controllable) a.propositions in let most = is.few_propositions in omega (arith, few, most)))
      (symbols_printable output 0 (output_names a) (picked_inner a.controllable a.propositions names)
      (let few = few_picked a.controllable a.propositions in let most = is.few_propositions in omega (arith, few, most)))))))),
)
  where
    total : circuit.greatest ≡ length circuit.inputs + length circuit.latches + length circuit.gates
    total = num.greatest

    names : AllByRecursion (Each is_inner) a.propositions
    names = names_inner a.propositions is.names

    few_outputs : length circuit.outputs ≤ 16
    few_outputs =
        let marks = is.marks in
        let most = is.few_propositions in
        let count = count_outputs a.controllable a.propositions marks in
        let few = few_picked a.controllable a.propositions in
        omega (arith, same_outputs, count, few, most)

pub reads_back : (circuit : Circuit) (a : Automaton) → IsNumbered circuit → circuit.greatest ≤ 1073741823 → IsAutomaton a
    → length circuit.inputs ≡ inputs a.controllable → length circuit.outputs ≡ outputs a.controllable
    → IsCircuitText (circuit_text circuit a) circuit (symbols_of a)
    × ((other : Circuit) (symbols : List Symbol) → IsCircuitText (circuit_text circuit a) other symbols
    → (other ≡ circuit) × (symbols ≡ symbols_of a))
reads_back circuit a num within is same_inputs same_outputs = (
  record {
    spelt = spelt;
    named = all_append (λ s. s.position < count_of circuit s.kind) (symbols_from input 0 (input_names a)) (symbols_from output 0 (output_names a))
        (symbols_named circuit input 0 (input_names a)
        (let count = count_inputs a.controllable a.propositions is.marks in omega (arith, count, same_inputs)))
        (symbols_named circuit output 0 (output_names a)
        (let count = count_outputs a.controllable a.propositions is.marks in omega (arith, count, same_outputs)));
  },
  λ other symbols text. one_text other circuit symbols (symbols_of a) (circuit_text circuit a) text.spelt spelt,
)
  where
    spelt : AreRows (circuit_text circuit a) (rows_of circuit (symbols_of a))
    spelt = rows_spelt (rows_of circuit (symbols_of a)) (printable circuit a num within is same_outputs)
