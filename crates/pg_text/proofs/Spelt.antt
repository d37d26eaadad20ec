-- The printed layout of lines is spelt by their tokens.
use Rattle.pg_text.proofs.Common.{◌≡◌, ◌≢◌, ℕ, ◌<◌, ◌^◌, List, [], ◌∷◌, ◌++◌, Option, Some, None, IfSome, refl, sym, ap, subst, arith}
use Rattle.pg_text.proofs.Common.{rules, append_assoc, nat_tests, decimal, flat_map, AllByRecursion, digits_decimal, digits_value-decimal}
use Rattle.pg_text.proofs.Common.{decimal_nonempty, IsNumeralModel, numerals_by_fold, Player, Even, Odd, Line, number, semicolon, comma}
use Rattle.pg_text.proofs.Common.{is_space, is_plain, IsSpelt, Begins, Spells, is_digit, Each, Stops, player_number, name_lexemes}
use Rattle.pg_text.proofs.Common.{line_lexemes, comma_number_lexemes, numbers_lexemes, comma_number, numbers_text, name_text, line_text}
use Rattle.pg_text.proofs.Common.{value_from}
use Rattle.pg_text.proofs.Spelling.{spells_append}

numerals : IsNumeralModel (Each is_digit) (value_from 0)
numerals = numerals_by_fold (Each is_digit) (search rules) value_from (search rules)

pub number_spelt : (n : ℕ) (rest : List ℕ) → n < 2 ^ 32 → Stops is_digit rest → IsSpelt (number n) (decimal n) rest
number_spelt n rest small stops = grind (
  arith,
  nat_tests,
  decimal_nonempty n (omega arith),
  digits_decimal numerals n (omega arith),
  digits_value-decimal numerals n (omega arith),
)

-- a number behind a gap
pub number_begins : (gap : List ℕ) (n : ℕ) (rest : List ℕ) → Each is_space gap → n < 2 ^ 32 → Stops is_digit rest
    → Begins (gap ++ (decimal n ++ rest)) (number n) rest
number_begins gap n rest blank small stops = record { gap = gap; text = decimal n; parts = refl; blank = blank; spelt = number_spelt n rest small stops }

-- ---- the successors

further_stops : (ns tail : List ℕ) → Stops is_digit tail → Stops is_digit (flat_map comma_number ns ++ tail)
further_stops [] tail stops = stops
further_stops (n ∷ ns) tail stops = refl

further_spelt : (ns tail : List ℕ) → AllByRecursion (λ n. n < 2 ^ 32) ns → Stops is_digit tail
    → Spells (flat_map comma_number ns ++ tail) (flat_map comma_number_lexemes ns) tail
further_spelt [] tail small stops = refl
further_spelt (n ∷ ns) tail small stops =
    let later = flat_map comma_number ns ++ tail in
    let regroup : flat_map comma_number (n ∷ ns) ++ tail ≡ 44 ∷ (decimal n ++ later) =
    ap (λ (t : List ℕ). 44 ∷ t) (append_assoc (decimal n) (flat_map comma_number ns) tail) in
    let after : Begins (44 ∷ (decimal n ++ later)) comma (decimal n ++ later) = record { gap = []; text = 44 ∷ []; parts = refl; blank = tt; spelt = refl } in
    subst (λ (bytes : List ℕ). Spells bytes (flat_map comma_number_lexemes (n ∷ ns)) tail) (sym regroup)
    (decimal n ++ later, after, (later, number_begins [] n later tt small.0 (further_stops ns tail stops), further_spelt ns tail small.1 stops))

numbers_spelt : (gap ns tail : List ℕ) → Each is_space gap → AllByRecursion (λ n. n < 2 ^ 32) ns → ns ≢ [] → Stops is_digit tail
    → Spells (gap ++ (numbers_text ns ++ tail)) (numbers_lexemes ns) tail
numbers_spelt gap [] tail blank small some stops = absurd (some refl)
numbers_spelt gap (n ∷ ns) tail blank small some stops =
    let later = flat_map comma_number ns ++ tail in
    let regroup : gap ++ (numbers_text (n ∷ ns) ++ tail) ≡ gap ++ (decimal n ++ later) =
    ap (λ (t : List ℕ). gap ++ t) (append_assoc (decimal n) (flat_map comma_number ns) tail) in
    subst (λ (bytes : List ℕ). Spells bytes (numbers_lexemes (n ∷ ns)) tail) (sym regroup)
    (later, number_begins gap n later blank small.0 (further_stops ns tail stops), further_spelt ns tail small.1 stops)

-- ---- the name and the end of the line

ending_stops : (name : Option (List ℕ)) (rest : List ℕ) → Stops is_digit (name_text name ++ 59 ∷ rest)
ending_stops None rest = refl
ending_stops (Some name) rest = refl

ending_spelt : (name : Option (List ℕ)) (rest : List ℕ) → IfSome name (Each is_plain)
    → Spells (name_text name ++ 59 ∷ rest) (name_lexemes name ++ semicolon ∷ []) rest
ending_spelt None rest plain = (rest, record { gap = []; text = 59 ∷ []; parts = refl; blank = tt; spelt = refl }, refl)
ending_spelt (Some name) rest plain = (
  59 ∷ rest,
  record { gap = 32 ∷ []; text = 34 ∷ (name ++ 34 ∷ []); parts = refl; blank = (refl, tt); spelt = (plain, refl) },
  (rest, record { gap = []; text = 59 ∷ []; parts = refl; blank = tt; spelt = refl }, refl),
)

-- ---- a line

-- a line that the format can say
pub record IsPrintableLine (line : Line) : Type 0 where
  pub identifier : line.identifier < 2 ^ 32
  pub priority : line.priority < 2 ^ 32
  pub some : line.successors ≢ []
  pub successors : AllByRecursion (λ n. n < 2 ^ 32) line.successors
  pub name : IfSome line.name (Each is_plain)

player_small : (player : Player) → player_number player < 2 ^ 32
player_small Even = omega arith
player_small Odd = omega arith

line_regroup : (line : Line) (rest : List ℕ)
    → line_text line ++ rest ≡ decimal line.identifier ++
    (32 ∷ (decimal line.priority ++
    (32 ∷ (decimal (player_number line.owner) ++ (32 ∷ (numbers_text line.successors ++ (name_text line.name ++ (59 ∷ 10 ∷ rest))))))))
line_regroup line rest = simp append_assoc

line_spelt : (gap : List ℕ) (line : Line) (rest : List ℕ) → Each is_space gap → IsPrintableLine line
    → Spells (gap ++ (line_text line ++ rest)) (line_lexemes line) (10 ∷ rest)
line_spelt gap line rest blank p =
    let ending = name_text line.name ++ (59 ∷ 10 ∷ rest) in
    let successors = 32 ∷ (numbers_text line.successors ++ ending) in
    let owner = 32 ∷ (decimal (player_number line.owner) ++ successors) in
    let priority = 32 ∷ (decimal line.priority ++ owner) in
    let last = spells_append (numbers_lexemes line.successors) (name_lexemes line.name ++ semicolon ∷ []) successors ending (10 ∷ rest)
    (numbers_spelt (32 ∷ []) line.successors ending (refl, tt) p.successors p.some (ending_stops line.name (10 ∷ rest)))
    (ending_spelt line.name (10 ∷ rest) p.name) in
    subst (λ (bytes : List ℕ). Spells (gap ++ bytes) (line_lexemes line) (10 ∷ rest)) (sym (line_regroup line rest)) (
      priority,
      number_begins gap line.identifier priority blank p.identifier refl,
      (
        owner,
        number_begins (32 ∷ []) line.priority owner (refl, tt) p.priority refl,
        (successors, number_begins (32 ∷ []) (player_number line.owner) successors (refl, tt) (player_small line.owner) refl, last),
      ),
    )

-- ---- lines, each behind a newline

pub lines_spelt : (lines : List Line) → AllByRecursion IsPrintableLine lines → Spells (10 ∷ flat_map line_text lines) (flat_map line_lexemes lines) (10 ∷ [])
lines_spelt [] each = refl
lines_spelt (line ∷ lines) each =
    spells_append (line_lexemes line) (flat_map line_lexemes lines) (10 ∷ flat_map line_text (line ∷ lines))
    (10 ∷ flat_map line_text lines) (10 ∷ []) (line_spelt (10 ∷ []) line (flat_map line_text lines) (refl, tt) each.0)
    (lines_spelt lines each.1)
