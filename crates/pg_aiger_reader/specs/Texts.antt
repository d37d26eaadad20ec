-- Circuits in the AIGER format as any tool writes them: in the ASCII form or the binary one, as of 2007 or as of version 1.9.
use Rattle.std.specs.Prelude.{◌≡◌, ◌≢◌, ◌⊎◌, ℕ, zero, suc, ◌+◌, ◌-◌, ◌*◌, ◌^◌, ◌<◌, ◌≤◌, List, [], ◌∷◌, ◌++◌, length, map, codes}
use Rattle.std.specs.List.{AllByRecursion}
use Rattle.pg_list_lemmas.specs.Bytes.{Each}
use Rattle.pg_aiger.specs.declared.gate.Gate.{Gate}
use Rattle.pg_aiger_reader.specs.declared.item.AigerFormat.{AigerFormat}
use Rattle.pg_aiger_reader.specs.declared.item.AigerFormat.TheVariants.{Ascii, Binary}
use Rattle.pg_aiger_reader.specs.declared.item.LatchLine.{LatchLine}
use Rattle.pg_aiger.specs.Circuits.{Circuit}
use Rattle.pg_aiger.specs.declared.gate.Latch.{Latch}
use Rattle.pg_aiger.specs.CircuitText.{Symbol, AreNumbers, Says, symbol, is_inner, count_of}

-- The bytes begin with this line, and the rest follows. A carriage return and a newline end the line, or a newline alone, if there is no
-- carriage return before it.
pub record HasLine (bytes line rest : List ℕ) : Type 0 where
  pub single : Each is_inner line
  pub ends : (bytes ≡ line ++ (codes "\r\n" ++ rest)) ⊎ ((bytes ≡ line ++ (codes "\n" ++ rest)) × ((front : List ℕ) → line ≢ front ++ codes "\r"))

-- the bytes begin with a line of these numbers, each below 2^32; the rest follows
pub record BeginsLine (bytes ns rest : List ℕ) : Type 0 where
  pub line : List ℕ
  pub begins : HasLine bytes line rest
  pub says : AreNumbers line ns
  pub small : AllByRecursion (λ n. n < 2 ^ 32) ns

-- items one after another, each for the next variable; the rest follows
abbrev pub AreItems : {A : Type 0} → (ℕ → List ℕ → A → List ℕ → Type 0) → ℕ → List ℕ → List A → List ℕ → Type 0
AreItems IsItem variable bytes [] rest = bytes ≡ rest
AreItems IsItem variable bytes (x ∷ xs) rest = (middle : List ℕ) × IsItem variable bytes x middle × AreItems IsItem (suc variable) middle xs rest

-- a line with its literal; in the binary form nothing, since an input's literal is twice the variable
abbrev pub IsInput : AigerFormat → ℕ → List ℕ → ℕ → List ℕ → Type 0
IsInput Ascii variable bytes literal rest = BeginsLine bytes (literal ∷ []) rest
IsInput Binary variable bytes literal rest = (literal ≡ 2 * variable) × (bytes ≡ rest)

-- a line with its literal
abbrev pub IsOutput : ℕ → List ℕ → ℕ → List ℕ → Type 0
IsOutput = IsInput Ascii

-- the rest of a latch's line after its next literal: its initial value, which is 0 if it isn't written
abbrev pub IsReset : ℕ → List ℕ → Type 0
IsReset reset ns = ((ns ≡ []) × (reset ≡ 0)) ⊎ (ns ≡ reset ∷ [])

-- a line with its literal, which the binary form leaves out, its next literal, and perhaps its initial value
abbrev pub IsLatch : AigerFormat → ℕ → List ℕ → LatchLine → List ℕ → Type 0
IsLatch Ascii variable bytes l rest = (reset : List ℕ) × IsReset l.reset reset × BeginsLine bytes (l.literal ∷ l.next ∷ reset) rest
IsLatch Binary variable bytes l rest =
    (reset : List ℕ) × IsReset l.reset reset × BeginsLine bytes (l.next ∷ reset) rest × (l.literal ≡ 2 * variable)

-- Groups of seven bits write the number, the low group first. A byte of 128 or more says that another group follows.
abbrev pub AreGroups : List ℕ → ℕ → Type 0
AreGroups [] n = ⊥
AreGroups (b ∷ []) n = (b < 128) × (n ≡ b)
AreGroups (b ∷ c ∷ bytes) n = (128 ≤ b) × (high : ℕ) × (n + 128 ≡ b + 128 * high) × AreGroups (c ∷ bytes) high

-- a number below 2^32 in at most five groups
pub record IsDifference (bytes : List ℕ) (n : ℕ) : Type 0 where
  pub groups : AreGroups bytes n
  pub few : length bytes ≤ 5
  pub small : n < 2 ^ 32

-- The gate of a variable in the binary form: how far its first literal is below its own, and its second below its first.
pub record IsBinaryGate (variable : ℕ) (bytes : List ℕ) (gate : Gate) (rest : List ℕ) : Type 0 where
  pub first : List ℕ
  pub second : List ℕ
  pub parts : bytes ≡ first ++ (second ++ rest)
  pub own : gate.lhs ≡ 2 * variable
  pub below : gate.rhs0 < gate.lhs
  pub order : gate.rhs1 ≤ gate.rhs0
  pub differ : IsDifference first (gate.lhs - gate.rhs0)
  pub differ_again : IsDifference second (gate.rhs0 - gate.rhs1)

-- a line of three literals; in the binary form bytes without a line
abbrev pub IsGate : AigerFormat → ℕ → List ℕ → Gate → List ℕ → Type 0
IsGate Ascii variable bytes gate rest = BeginsLine bytes (gate.lhs ∷ gate.rhs0 ∷ gate.rhs1 ∷ []) rest
IsGate Binary variable bytes gate rest = IsBinaryGate variable bytes gate rest

-- the bytes begin with a line of this symbol; the rest follows
abbrev pub BeginsSymbol : List ℕ → Symbol → List ℕ → Type 0
BeginsSymbol bytes s rest = (line : List ℕ) × HasLine bytes line rest × Says line (symbol s) × (s.position < 2 ^ 32)

-- a symbol's line; the symbol names something of the circuit
abbrev pub IsSymbol : Circuit → ℕ → List ℕ → Symbol → List ℕ → Type 0
IsSymbol circuit _ bytes s rest = BeginsSymbol bytes s rest × (s.position < count_of circuit s.kind)

-- this many empty lines, and nothing else
abbrev pub AreEmptyLines : ℕ → List ℕ → Type 0
AreEmptyLines zero bytes = bytes ≡ []
AreEmptyLines (suc count) bytes = (rest : List ℕ) × HasLine bytes [] rest × AreEmptyLines count rest

-- nothing but empty lines, if any, or `c` and anything after it
abbrev pub IsComment : List ℕ → Type 0
IsComment bytes = ((count : ℕ) × AreEmptyLines count bytes) ⊎ ((rest : List ℕ) × (bytes ≡ codes "c" ++ rest))

abbrev pub form_text : AigerFormat → List ℕ
form_text Ascii = codes "aag "
form_text Binary = codes "aig "

-- In the binary form there are no variables but those of inputs, latches and gates; in the ASCII form there may be more.
abbrev pub AreVariables : AigerFormat → ℕ → ℕ → Type 0
AreVariables Ascii defined greatest = defined ≤ greatest
AreVariables Binary defined greatest = defined ≡ greatest

-- a latch without its initial value
abbrev pub latch_in : LatchLine → Latch
latch_in l = record { literal = l.literal; next = l.next }

-- The bytes begin with a header `M I L O A`, perhaps with B, C, J and F after it, all 0; inputs, latches, outputs and gates follow. The
-- initial values of latches can be any.
pub record IsBody (form : AigerFormat) (bytes : List ℕ) (circuit : Circuit) (lines : List LatchLine) (behind_gates : List ℕ) : Type 0 where
  pub text : List ℕ
  pub zeros : List ℕ
  pub behind_header : List ℕ
  pub behind_inputs : List ℕ
  pub behind_latches : List ℕ
  pub behind_outputs : List ℕ
  pub begins : bytes ≡ form_text form ++ text
  pub header : BeginsLine text
      (circuit.greatest ∷ length circuit.inputs ∷ length circuit.latches ∷ length circuit.outputs ∷ length circuit.gates ∷ zeros) behind_header
  pub few_zeros : length zeros ≤ 4
  pub zero : AllByRecursion (λ n. n ≡ 0) zeros
  pub variables : AreVariables form (length circuit.inputs + length circuit.latches + length circuit.gates) circuit.greatest
  pub inputs : AreItems (IsInput form) 1 behind_header circuit.inputs behind_inputs
  pub latches : AreItems (IsLatch form) (1 + length circuit.inputs) behind_inputs lines behind_latches
  pub same : circuit.latches ≡ map latch_in lines
  pub outputs : AreItems IsOutput 1 behind_latches circuit.outputs behind_outputs
  pub gates : AreItems (IsGate form) (1 + length circuit.inputs + length circuit.latches) behind_outputs circuit.gates behind_gates
  pub few_variables : circuit.greatest ≤ 16777216
  pub few_outputs : length circuit.outputs ≤ 16777216

-- The bytes spell the circuit and the symbols: after the gates come symbols, and perhaps a comment or empty lines. All latches are 0 at first.
pub record IsText (form : AigerFormat) (bytes : List ℕ) (circuit : Circuit) (symbols : List Symbol) : Type 0 where
  pub lines : List LatchLine
  pub behind_gates : List ℕ
  pub comment : List ℕ
  pub body : IsBody form bytes circuit lines behind_gates
  pub start : AllByRecursion (λ l. l.reset ≡ 0) lines
  pub names : AreItems (IsSymbol circuit) 0 behind_gates symbols comment
  pub ends : IsComment comment

-- a text, perhaps after the first line of an answer
abbrev pub HasBody : List ℕ → List ℕ → Type 0
HasBody bytes body = (bytes ≡ body) ⊎ (HasLine bytes (codes "REALIZABLE") body ⊎ HasLine bytes (codes "UNREALIZABLE") body)

-- The bytes spell the circuit and the symbols, perhaps after a line `REALIZABLE` or `UNREALIZABLE`.
pub record IsRead (bytes : List ℕ) (circuit : Circuit) (symbols : List Symbol) : Type 0 where
  pub form : AigerFormat
  pub body : List ℕ
  pub whole : HasBody bytes body
  pub text : IsText form body circuit symbols

-- the bytes spell no circuit
abbrev pub SpellsNone : List ℕ → Type 0
SpellsNone bytes = (circuit : Circuit) (symbols : List Symbol) → ¬ IsRead bytes circuit symbols
