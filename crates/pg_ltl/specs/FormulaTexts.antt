-- Formulas as sequences of tokens.
use Rattle.std.specs.Prelude.{◌≡◌, ℕ, ◌+◌, ◌-◌, ◌%◌, ◌≤◌, Bool, List, [], ◌∷◌, ◌++◌, if◌then◌else◌}
use Rattle.pg_ltl.specs.declared.formula.Infix.{Infix}
use Rattle.pg_ltl.specs.declared.formula.Infix.TheVariants.{Implies, Equivalent, Or, Exclusive, And, Until, Release, Weak, Strong, Also}
use Rattle.pg_ltl.specs.declared.token.FormulaToken.{FormulaToken}
use Rattle.pg_ltl.specs.declared.token.FormulaToken.TheVariants as tokens
use Rattle.pg_ltl.specs.Formulas.{Formula, constant, proposition, bracket, one, two}

abbrev pub lexemes : Formula → List FormulaToken
lexemes (constant value) = tokens.Constant value ∷ []
lexemes (proposition p) = tokens.Proposition p ∷ []
lexemes (bracket f) = tokens.LeftParen ∷ (lexemes f ++ (tokens.RightParen ∷ []))
lexemes (one op f) = tokens.Before op ∷ lexemes f
lexemes (two op f g) = lexemes f ++ (tokens.Between op ∷ lexemes g)

-- a text is a formula, with or without a `;` after it
abbrev pub text_lexemes : Formula → Bool → List FormulaToken
text_lexemes f ended = lexemes f ++ (if ended then tokens.Between Also ∷ [] else [])

-- How strongly an operator binds: `;` least, then `->` and `<->`, `|`, `xor`, `&`, and then U, R, W and M. Operators with an odd number
-- group to the right, those with an even one to the left.
abbrev pub strength : Infix → ℕ
strength Also = 0
strength Implies = 1
strength Equivalent = 1
strength Or = 2
strength Exclusive = 4
strength And = 6
strength Until = 7
strength Release = 7
strength Weak = 7
strength Strong = 7

-- everything but an infix operator binds tightest
abbrev pub rank : Formula → ℕ
rank (two op f g) = strength op
rank _ = 8

-- the least rank of a left operand, and of a right operand
abbrev pub left_rank : Infix → ℕ
left_rank op = strength op + strength op % 2

abbrev pub right_rank : Infix → ℕ
right_rank op = strength op + 1 - strength op % 2

-- each operand binds tightly enough, and no brackets enclose a `;`
abbrev pub IsGrouped : Formula → Type 0
IsGrouped (constant value) = Unit {0}
IsGrouped (proposition p) = Unit {0}
IsGrouped (bracket f) = (1 ≤ rank f) × IsGrouped f
IsGrouped (one op f) = (8 ≤ rank f) × IsGrouped f
IsGrouped (two op f g) = (left_rank op ≤ rank f) × (right_rank op ≤ rank g) × IsGrouped f × IsGrouped g

-- the tokens are a text of this formula
pub record AreTokensOf (ts : List FormulaToken) (f : Formula) : Type 0 where
  pub ended : Bool
  pub is : ts ≡ text_lexemes f ended
  pub grouped : IsGrouped f

-- the tokens begin a text of some formula
pub record BeginsOne (ts : List FormulaToken) : Type 0 where
  pub more : List FormulaToken
  pub formula : Formula
  pub is : AreTokensOf (ts ++ more) formula

-- the tokens begin no text of any formula
abbrev pub BeginsNone : List FormulaToken → Type 0
BeginsNone ts = (more : List FormulaToken) (f : Formula) → AreTokensOf (ts ++ more) f → ⊥
