-- What an automaton text is, token by token, and what it says of an automaton.
use Rattle.std.specs.Prelude.{◌≡◌, ◌≢◌, ℕ, suc, ◌*◌, ◌^◌, ◌<◌, ◌≤◌, true, ◌||◌, ◌==◌, nat_le, max, List, [], ◌∷◌, ◌++◌, length, map, Option}
use Rattle.std.specs.Prelude.{Some, None, codes, get_or, Contains}
use Rattle.std.specs.List.{fold, flat_map, list_any, AllByRecursion, All, range_with_len}
use Rattle.pg_hoa_syntax.specs.Lexemes.{Lexeme, number, identifier, header, string, body, end, left_bracket, right_bracket, left_brace}
use Rattle.pg_hoa_syntax.specs.Lexemes.{right_brace, Character, plain, escaped, Spells}
use Rattle.pg_hoa_syntax.specs.declared.formula.FormulaKind.TheVariants.{Label, Condition}
use Rattle.pg_hoa_automaton.specs.Formulas.{Formula}
use Rattle.pg_hoa_syntax.specs.FormulaTexts.{IsWritten, formula_lexemes}
use Rattle.pg_hoa_automaton.specs.Shapes.{HasShape}
use Rattle.pg_hoa_automaton.specs.Automata.{Automaton, IsPropositionName}

-- ---- headers

pub data Value : Type 0 where
  numeral : ℕ → Value
  word : List ℕ → Value
  quoted : List Character → Value

pub data Header : Type 0 where
  states : ℕ → Header
  start : ℕ → Header
  propositions : List (List Character) → Header
  acceptance : ℕ → Formula → Header
  controllable : List ℕ → Header
  skipped : List ℕ → List Value → Header

abbrev pub value_lexeme : Value → Lexeme
value_lexeme (numeral n) = number n
value_lexeme (word w) = identifier w
value_lexeme (quoted s) = string s

abbrev pub header_lexemes : Header → List Lexeme
header_lexemes (states n) = header (codes "States") ∷ number n ∷ []
header_lexemes (start q) = header (codes "Start") ∷ number q ∷ []
header_lexemes (propositions names) = header (codes "AP") ∷ number (length names) ∷ map string names
header_lexemes (acceptance n f) = header (codes "Acceptance") ∷ number n ∷ formula_lexemes f
header_lexemes (controllable ns) = header (codes "controllable-AP") ∷ map number ns
header_lexemes (skipped name values) = header name ∷ map value_lexeme values

-- a condition is well written; the name of a header that is skipped begins with a lower-case letter or `_`
abbrev pub IsHeader : Header → Type 0
IsHeader (acceptance n f) = IsWritten (Condition n) f
IsHeader (skipped name values) = (name ≢ codes "controllable-AP") × (nat_le 97 (get_or name 0 0) || get_or name 0 0 == 95 ≡ true)
IsHeader _ = Unit {0}

abbrev pub state_counts : Header → List ℕ
state_counts (states n) = n ∷ []
state_counts _ = []

abbrev pub starts : Header → List ℕ
starts (start q) = q ∷ []
starts _ = []

abbrev pub names : Header → List (List (List Character))
names (propositions ns) = ns ∷ []
names _ = []

abbrev pub acceptances : Header → List (ℕ × Formula)
acceptances (acceptance n f) = (n, f) ∷ []
acceptances _ = []

abbrev pub controls : Header → List (List ℕ)
controls (controllable ns) = ns ∷ []
controls _ = []

-- ---- the body

pub record Edge : Type 0 where
  pub letter : Formula
  pub target : ℕ
  pub sets : Option (List ℕ)

pub record StateLine : Type 0 where
  pub state : ℕ
  pub name : Option (List Character)
  pub sets : Option (List ℕ)
  pub edges : List Edge

abbrev pub sets_lexemes : Option (List ℕ) → List Lexeme
sets_lexemes None = []
sets_lexemes (Some sets) = left_brace ∷ (map number sets ++ right_brace ∷ [])

abbrev pub name_lexemes : Option (List Character) → List Lexeme
name_lexemes None = []
name_lexemes (Some s) = string s ∷ []

abbrev pub edge_lexemes : Edge → List Lexeme
edge_lexemes e = left_bracket ∷ (formula_lexemes e.letter ++ (right_bracket ∷ number e.target ∷ sets_lexemes e.sets))

abbrev pub state_lexemes : StateLine → List Lexeme
state_lexemes l = header (codes "State") ∷ number l.state ∷ (name_lexemes l.name ++ (sets_lexemes l.sets ++ flat_map edge_lexemes l.edges))

-- ---- the text

-- what is written, in order
pub record Written : Type 0 where
  pub headers : List Header
  pub lines : List StateLine

abbrev pub text_lexemes : Written → List Lexeme
text_lexemes w =
    header (codes "HOA") ∷ identifier (codes "v1") ∷ (flat_map header_lexemes
    w.headers ++ (body ∷ (flat_map state_lexemes w.lines ++ end ∷ [])))

-- the bytes are this text
pub record IsText (bytes : List ℕ) (w : Written) : Type 0 where
  pub spelt : Spells bytes (text_lexemes w)
  pub headers : AllByRecursion IsHeader w.headers

-- ---- what it says

abbrev pub set_list : Option (List ℕ) → List ℕ
set_list None = []
set_list (Some sets) = sets

-- each backslash before another byte is removed
abbrev pub character_code : Character → ℕ
character_code (plain b) = b
character_code (escaped b) = b

abbrev pub line_numbers : StateLine → List ℕ
line_numbers l = l.state ∷ map (λ e. e.target) l.edges

-- the number of states is given, or else it is one more than the greatest number that is named
abbrev pub count_of : List ℕ → List ℕ → ℕ
count_of (n ∷ counts) named = n
count_of [] named = suc (fold max 0 named)

abbrev pub AtMostOne : {A : Type 0} → List A → Type 0
AtMostOne list = length list ≤ 1

abbrev pub IsDistinct : List ℕ → Type 0
IsDistinct [] = Unit {0}
IsDistinct (n ∷ ns) = (Contains ns n → ⊥) × IsDistinct ns

abbrev pub EachBelow : ℕ → List ℕ → Type 0
EachBelow bound ns = All (λ n. n < bound) ns

-- the label is well written, and each number of the edge is in range
pub record EdgeFits (states propositions sets : ℕ) (e : Edge) : Type 0 where
  pub letter : IsWritten (Label propositions) e.letter
  pub target : e.target < states
  pub own_sets : EachBelow sets (set_list e.sets)

-- each number of the line is in range, and each of its edges fits
pub record LineFits (states propositions sets : ℕ) (l : StateLine) : Type 0 where
  pub state : l.state < states
  pub own_sets : EachBelow sets (set_list l.sets)
  pub edges : AllByRecursion (EdgeFits states propositions sets) l.edges

-- What the text says, except for its steps: an automaton within the limits, deterministic or not.
pub record Says (w : Written) (a : Automaton) : Type 0 where
  pub counted : AtMostOne (flat_map state_counts w.headers)
  pub states : a.states ≡ count_of (flat_map state_counts w.headers) (a.start ∷ flat_map line_numbers w.lines)
  pub start : flat_map starts w.headers ≡ a.start ∷ []
  pub named : AtMostOne (flat_map names w.headers)
  pub propositions : a.propositions ≡ map (λ name. map character_code name) (flat_map (λ x. x) (flat_map names w.headers))
  pub good_names : AllByRecursion IsPropositionName a.propositions
  pub controlled : AtMostOne (flat_map controls w.headers)
  pub controllable : a.controllable ≡ map (λ p. list_any (λ n. n == p) (flat_map (λ x. x) (flat_map controls w.headers)))
      (range_with_len 0 (length a.propositions))
  pub controls_below : EachBelow (length a.propositions) (flat_map (λ x. x) (flat_map controls w.headers))
  pub condition : Formula
  pub accepted : flat_map acceptances w.headers ≡ (a.sets, condition) ∷ []
  pub shape : HasShape condition a.sets a.shape
  pub start_below : a.start < a.states
  pub distinct : IsDistinct (map (λ l. l.state) w.lines)
  pub lines : AllByRecursion (LineFits a.states (length a.propositions) a.sets) w.lines
  pub few_states : a.states ≤ 65535
  pub few_propositions : length a.propositions ≤ 16
  pub few_sets : a.sets ≤ 4096
  pub few_steps : a.states * 2 ^ length a.propositions ≤ 16777216

-- the bytes are no text that says an automaton, deterministic or not
abbrev pub SaysNone : List ℕ → Type 0
SaysNone bytes = (w : Written) (a : Automaton) → IsText bytes w → Says w a → ⊥
