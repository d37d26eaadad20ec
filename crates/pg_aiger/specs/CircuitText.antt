-- Circuit texts, as lines of numbers and symbols.
use Rattle.std.specs.Prelude.{◌≡◌, ◌≢◌, ℕ, ◌<◌, Bool, true, false, ◌==◌, List, [], ◌∷◌, ◌++◌, length, map, codes, if◌then◌else◌}
use Rattle.std.specs.List.{AllByRecursion}
use Rattle.pg_list_lemmas.specs.Bytes.{Each, is_digit, value_of}
use Rattle.pg_aiger.specs.Circuits.{Circuit}

-- what a symbol names
pub data Kind : Type 0 where
  input : Kind
  latch : Kind
  output : Kind

pub record Symbol : Type 0 where
  pub kind : Kind
  -- its index among its kind, from 0 on
  pub position : ℕ
  pub name : List ℕ

-- the contents of a line
pub data Row : Type 0 where
  header : List ℕ → Row
  numbers : List ℕ → Row
  symbol : Symbol → Row

-- decimal digits that write the number
abbrev pub IsNumber : List ℕ → ℕ → Type 0
IsNumber digits n = (digits ≢ []) × Each is_digit digits × (value_of digits ≡ n)

-- numbers with single spaces between them
abbrev pub AreNumbers : List ℕ → List ℕ → Type 0
AreNumbers text [] = text ≡ []
AreNumbers text (n ∷ []) = IsNumber text n
AreNumbers text (n ∷ ns) =
    (digits : List ℕ) × (rest : List ℕ) × (text ≡ digits ++ (codes " " ++ rest)) × IsNumber digits n × AreNumbers rest ns

-- the letter of a symbol's kind
abbrev pub kind_text : Kind → List ℕ
kind_text input = codes "i"
kind_text latch = codes "l"
kind_text output = codes "o"

-- the bytes of a line, without its newline, have these contents
abbrev pub Says : List ℕ → Row → Type 0
Says line (header ns) = (text : List ℕ) × (line ≡ codes "aag " ++ text) × AreNumbers text ns
Says line (numbers ns) = AreNumbers line ns
Says line (symbol s) =
    (digits : List ℕ) × (line ≡ kind_text s.kind ++ (digits ++ (codes " " ++ s.name))) × IsNumber digits s.position

-- any byte but a newline
abbrev pub is_inner : ℕ → Bool
is_inner b = if b == 10 then false else true

-- the bytes begin with a line that a newline ends; the rest follows
pub record Begins (bytes : List ℕ) (row : Row) (rest : List ℕ) : Type 0 where
  pub line : List ℕ
  pub parts : bytes ≡ line ++ (codes "\n" ++ rest)
  pub single : Each is_inner line
  pub says : Says line row

-- the bytes are these lines, one after another
abbrev pub AreRows : List ℕ → List Row → Type 0
AreRows bytes [] = bytes ≡ []
AreRows bytes (row ∷ rows) = (rest : List ℕ) × Begins bytes row rest × AreRows rest rows

-- `aag M I L O A`: the greatest variable, and the numbers of inputs, latches, outputs and gates; then a line for each of these; then the
-- symbols
abbrev pub rows_of : Circuit → List Symbol → List Row
rows_of circuit symbols =
    header (circuit.greatest ∷ length circuit.inputs ∷ length circuit.latches ∷ length circuit.outputs ∷ length circuit.gates ∷ [])
    ∷ (map (λ literal. numbers (literal ∷ [])) circuit.inputs
    ++ (map (λ latch. numbers (latch.literal ∷ latch.next ∷ [])) circuit.latches
    ++ (map (λ literal. numbers (literal ∷ [])) circuit.outputs
    ++ (map (λ gate. numbers (gate.lhs ∷ gate.rhs0 ∷ gate.rhs1 ∷ [])) circuit.gates
    ++ map symbol symbols))))

abbrev pub count_of : Circuit → Kind → ℕ
count_of circuit input = length circuit.inputs
count_of circuit latch = length circuit.latches
count_of circuit output = length circuit.outputs

-- The bytes spell the circuit with these symbols, each of which names something of the circuit.
pub record IsCircuitText (bytes : List ℕ) (circuit : Circuit) (symbols : List Symbol) : Type 0 where
  pub spelt : AreRows bytes (rows_of circuit symbols)
  pub named : AllByRecursion (λ s. s.position < count_of circuit s.kind) symbols
