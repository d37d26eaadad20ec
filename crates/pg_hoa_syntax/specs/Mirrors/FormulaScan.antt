-- What the reader of labels and conditions does, token by token. The laws about it are in proofs/.
use Rattle.std.specs.Prelude.{ℕ, suc, zero, ◌+◌, Bool, true, false, List, [], ◌∷◌, Option, Some, None, codes, nat_lt, if◌then◌else◌}
use Rattle.std.specs.Str.{bytes_eq}
use Rattle.pg_hoa_syntax.specs.Lexemes.{Lexeme, number, identifier, left_paren, right_paren, bang, ampersand, bar, stray}
use Rattle.pg_hoa_syntax.specs.declared.formula.FormulaKind.{FormulaKind}
use Rattle.pg_hoa_syntax.specs.declared.formula.FormulaKind.TheVariants.{Label, Condition}
use Rattle.pg_hoa_automaton.specs.Formulas.{Formula, yes, no, proposition, inf, fin, not, both, either, bracket}
use Rattle.pg_hoa_automaton.specs.Mirrors.Steps.{◌>>=◌}

-- what was read before the next operand, within one bracket
pub record Bracket : Type 0 where
  pub sum : Option Formula
  pub product : Option Formula
  pub nots : ℕ

abbrev pub fresh : Bracket
fresh = record { sum = None; product = None; nots = 0 }

-- each state but the fourth has the number of brackets and `!` that may still be opened, and what was read within the open
-- brackets
pub data State : Type 0 where
  operand : ℕ → Bracket → List Bracket → State
  opening : Bool → ℕ → Bracket → List Bracket → State
  naming : Bool → ℕ → Bracket → List Bracket → State
  closing : Bool → ℕ → ℕ → Bracket → List Bracket → State
  operator : ℕ → Option Formula → Formula → List Bracket → State

abbrev pub summed : Option Formula → Formula → Formula
summed None f = f
summed (Some s) f = either s f

abbrev pub multiplied : Option Formula → Formula → Formula
multiplied None f = f
multiplied (Some p) f = both p f

abbrev pub negated : ℕ → Formula → Formula
negated zero f = f
negated (suc n) f = negated n (not f)

abbrev pub limited : Bool → ℕ → Formula
limited true s = inf s
limited false s = fin s

-- an operand is complete
abbrev pub completes : ℕ → Bracket → List Bracket → Formula → State
completes room top outer f = operator (room + top.nots) top.sum (multiplied top.product (negated top.nots f)) outer

abbrev pub word_step : FormulaKind → List ℕ → ℕ → Bracket → List Bracket → Option State
word_step (Label n) w room top outer =
    if bytes_eq w (codes "t") then Some (completes room top outer yes)
    else (if bytes_eq w (codes "f") then Some (completes room top outer no)
    else None)
word_step (Condition n) w room top outer =
    if bytes_eq w (codes "t") then Some (completes room top outer yes)
    else (if bytes_eq w (codes "f") then Some (completes room top outer no)
    else (if bytes_eq w (codes "Inf") then Some (opening true room top outer)
    else (if bytes_eq w (codes "Fin") then Some (opening false room top outer)
    else None)))

-- one more bracket or `!`, if it may be opened
abbrev pub deeper : ℕ → (ℕ → State) → Option State
deeper zero next = None
deeper (suc room) next = Some (next room)

abbrev pub operand_step : FormulaKind → ℕ → Bracket → List Bracket → Lexeme → Option State
operand_step (Label n) room top outer bang =
    deeper room (λ r. operand r (record { sum = top.sum; product = top.product; nots = suc top.nots }) outer)
operand_step (Label n) room top outer (number a) = if nat_lt a n then Some (completes room top outer (proposition a)) else None
operand_step k room top outer left_paren = deeper room (λ r. operand r fresh (top ∷ outer))
operand_step k room top outer (identifier w) = word_step k w room top outer
operand_step k room top outer t = None

abbrev pub opening_step : Bool → ℕ → Bracket → List Bracket → Lexeme → Option State
opening_step b room top outer left_paren = Some (naming b room top outer)
opening_step b room top outer t = None

abbrev pub naming_step : FormulaKind → Bool → ℕ → Bracket → List Bracket → Lexeme → Option State
naming_step (Condition n) b room top outer (number s) = if nat_lt s n then Some (closing b s room top outer) else None
naming_step k b room top outer t = None

abbrev pub closing_step : Bool → ℕ → ℕ → Bracket → List Bracket → Lexeme → Option State
closing_step b s room top outer right_paren = Some (completes room top outer (limited b s))
closing_step b s room top outer t = None

abbrev pub operator_step : ℕ → Option Formula → Formula → List Bracket → Lexeme → Option State
operator_step room sum product outer ampersand = Some (operand room (record { sum = sum; product = Some product; nots = 0 }) outer)
operator_step room sum product outer bar = Some (operand room (record { sum = Some (summed sum product); product = None; nots = 0 }) outer)
operator_step room sum product (top ∷ outer) right_paren = Some (completes (suc room) top outer (bracket (summed sum product)))
operator_step room sum product outer t = None

abbrev pub step : FormulaKind → State → Lexeme → Option State
step k (operand room top outer) t = operand_step k room top outer t
step k (opening b room top outer) t = opening_step b room top outer t
step k (naming b room top outer) t = naming_step k b room top outer t
step k (closing b s room top outer) t = closing_step b s room top outer t
step k (operator room sum product outer) t = operator_step room sum product outer t

-- the formula ends before a token other than `&` and `|`, outside the brackets
abbrev pub finish : State → List Lexeme → Option (Formula × List Lexeme)
finish (operator room sum product []) rest = Some (summed sum product, rest)
finish s rest = None

abbrev pub stops : State → Lexeme → Bool
stops (operator room sum product outer) ampersand = false
stops (operator room sum product outer) bar = false
stops (operator room sum product outer) stray = false
stops (operator room sum product []) t = true
stops s t = false

unfoldable pub formula_from : FormulaKind → State → List Lexeme → Option (Formula × List Lexeme)
formula_from k s [] = finish s []
formula_from k s (t ∷ rest) = if stops s t then finish s (t ∷ rest) else (step k s t >>= λ s. formula_from k s rest)

unfoldable pub formula_at : FormulaKind → List Lexeme → Option (Formula × List Lexeme)
formula_at k tokens = formula_from k (operand 8192 fresh []) tokens
