-- Which formula a text spells.
use Rattle.std.specs.Prelude.{◌≡◌, ℕ, suc, ◌+◌, ◌<◌, ◌≤◌, Option, Some, None, Bool, true, false, nat_lt, List, [], ◌∷◌, ◌++◌, length, if◌then◌else◌}
use Rattle.std.specs.List.{fold, count_by}
use Rattle.std.specs.Str.{bytes_eq}
use Rattle.pg_ltl.specs.declared.token.FormulaToken.{FormulaToken}
use Rattle.pg_ltl.specs.declared.token.FormulaToken.TheVariants.{Proposition, Before, Between}
use Rattle.pg_ltl.specs.declared.fault.FormulaFault.{FormulaFault}
use Rattle.pg_ltl.specs.declared.fault.FormulaFault.TheVariants.{OutOfMemory, Syntax, TooManyNames, TooManyOperators}
use Rattle.pg_ltl.specs.Formulas.{Formula}
use Rattle.pg_ltl.specs.FormulaTexts.{AreTokensOf, BeginsOne, BeginsNone}
use Rattle.pg_ltl.specs.Words.{Word, name, sign, behind_blanks, word_at, Spells, Begins}

-- the number of a name: its position among the known names, or their count if it isn't one of them
abbrev pub number_of : List ℕ → List (List ℕ) → ℕ
number_of w [] = 0
number_of w (known ∷ names) = if bytes_eq known w then 0 else suc (number_of w names)

abbrev pub with_name : List ℕ → List (List ℕ) → List (List ℕ)
with_name w names = if nat_lt (number_of w names) (length names) then names else names ++ (w ∷ [])

-- names in order of first appearance, and tokens
pub record Noted : Type 0 where
  pub names : List (List ℕ)
  pub tokens : List FormulaToken

abbrev pub note : Noted → Word → Noted
note n (sign t) = record { names = n.names; tokens = n.tokens ++ (t ∷ []) }
note n (name w) = record { names = with_name w n.names; tokens = n.tokens ++ (Proposition (number_of w n.names) ∷ []) }

abbrev pub noted : List Word → Noted
noted words = fold note (record { names = []; tokens = [] }) words

abbrev pub is_operator : FormulaToken → Bool
is_operator (Before op) = true
is_operator (Between op) = true
is_operator _ = false

-- the bytes spell the formula, whose propositions have these names, within the limits
pub record Spelt (bytes : List ℕ) (names : List (List ℕ)) (f : Formula) : Type 0 where
  pub words : List Word
  pub spelt : Spells bytes words
  pub named : (noted words).names ≡ names
  pub tokens : AreTokensOf (noted words).tokens f
  pub few_names : length names ≤ 65535
  pub few_operators : count_by is_operator (noted words).tokens ≤ 4096

-- the bytes spell no formula within the limits
abbrev pub SpellsNone : List ℕ → Type 0
SpellsNone bytes = (names : List (List ℕ)) (f : Formula) → Spelt bytes names f → ⊥

-- if a word comes next, these words followed by it begin no formula
abbrev pub IsWrong : Noted → Option (Word × List ℕ) → Type 0
IsWrong n None = Unit {0}
IsWrong n (Some found) = BeginsNone (note n found.0).tokens

-- The words before this byte can be continued so that they spell a formula. With the word at this byte they can't be, or no word begins
-- there, or the text ends there.
pub record StopsAt (bytes : List ℕ) (offset : ℕ) : Type 0 where
  pub words : List Word
  pub rest : List ℕ
  pub begins : Begins bytes words rest
  pub there : offset + length (behind_blanks rest) ≡ length bytes
  pub before : BeginsOne (noted words).tokens
  pub wrong : IsWrong (noted words) (word_at (behind_blanks rest))

-- words that can be continued to a formula have too many names
pub record HasTooManyNames (bytes : List ℕ) : Type 0 where
  pub words : List Word
  pub rest : List ℕ
  pub begins : Begins bytes words rest
  pub before : BeginsOne (noted words).tokens
  pub many : 65535 < length (noted words).names

-- the words are those of a formula with too many operators
pub record HasTooManyOperators (bytes : List ℕ) : Type 0 where
  pub words : List Word
  pub spelt : Spells bytes words
  pub formula : Formula
  pub tokens : AreTokensOf (noted words).tokens formula
  pub many : 4096 < count_by is_operator (noted words).tokens

-- memory may run out on any text
abbrev pub IsRefused : List ℕ → FormulaFault → Type 0
IsRefused bytes OutOfMemory = Unit {0}
IsRefused bytes (Syntax offset) = SpellsNone bytes × StopsAt bytes offset
IsRefused bytes TooManyNames = SpellsNone bytes × HasTooManyNames bytes
IsRefused bytes TooManyOperators = SpellsNone bytes × HasTooManyOperators bytes
