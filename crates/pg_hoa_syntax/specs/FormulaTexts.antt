-- Labels and acceptance conditions as they are written.
use Rattle.std.specs.Prelude.{ℕ, ◌+◌, ◌≤◌, ◌<◌, List, [], ◌∷◌, ◌++◌, codes, max}
use Rattle.pg_hoa_syntax.specs.declared.formula.FormulaKind.{FormulaKind}
use Rattle.pg_hoa_syntax.specs.declared.formula.FormulaKind.TheVariants.{Label, Condition}
use Rattle.pg_hoa_automaton.specs.Formulas.{Formula, yes, no, proposition, inf, fin, not, both, either, bracket}
use Rattle.pg_hoa_syntax.specs.Lexemes.{Lexeme, number, identifier, left_paren, right_paren, bang, ampersand, bar}

abbrev pub formula_lexemes : Formula → List Lexeme
formula_lexemes yes = identifier (codes "t") ∷ []
formula_lexemes no = identifier (codes "f") ∷ []
formula_lexemes (proposition a) = number a ∷ []
formula_lexemes (inf s) = identifier (codes "Inf") ∷ left_paren ∷ number s ∷ right_paren ∷ []
formula_lexemes (fin s) = identifier (codes "Fin") ∷ left_paren ∷ number s ∷ right_paren ∷ []
formula_lexemes (not f) = bang ∷ formula_lexemes f
formula_lexemes (both f g) = formula_lexemes f ++ (ampersand ∷ formula_lexemes g)
formula_lexemes (either f g) = formula_lexemes f ++ (bar ∷ formula_lexemes g)
formula_lexemes (bracket f) = left_paren ∷ (formula_lexemes f ++ right_paren ∷ [])

-- 0 for an operand, 1 for a conjunction, 2 for a disjunction
abbrev pub rank : Formula → ℕ
rank (both f g) = 1
rank (either f g) = 2
rank _ = 0

-- `!` binds tightest, then `&`, then `|`; `&` and `|` group to the left
abbrev pub IsGrouped : Formula → Type 0
IsGrouped (not f) = (rank f ≤ 0) × IsGrouped f
IsGrouped (both f g) = (rank f ≤ 1) × (rank g ≤ 0) × IsGrouped f × IsGrouped g
IsGrouped (either f g) = (rank g ≤ 1) × IsGrouped f × IsGrouped g
IsGrouped (bracket f) = IsGrouped f
IsGrouped _ = Unit {0}

-- the greatest number of brackets and `!` around one place
abbrev pub nesting : Formula → ℕ
nesting (not f) = 1 + nesting f
nesting (bracket f) = 1 + nesting f
nesting (both f g) = max (nesting f) (nesting g)
nesting (either f g) = max (nesting f) (nesting g)
nesting _ = 0

-- a label speaks of propositions below the given number, and may have `!`; a condition speaks of sets below the given
-- number
abbrev pub IsOf : FormulaKind → Formula → Type 0
IsOf (Label n) (inf s) = ⊥
IsOf (Label n) (fin s) = ⊥
IsOf (Condition n) (proposition a) = ⊥
IsOf (Condition n) (not f) = ⊥
IsOf (Label n) (proposition a) = a < n
IsOf (Condition n) (inf s) = s < n
IsOf (Condition n) (fin s) = s < n
IsOf (Label n) (not f) = IsOf (Label n) f
IsOf k (both f g) = IsOf k f × IsOf k g
IsOf k (either f g) = IsOf k f × IsOf k g
IsOf k (bracket f) = IsOf k f
IsOf k _ = Unit {0}

-- the formula can be written: it is grouped well, of the kind, and has at most 8,192 brackets and `!` around one place
pub record IsWritten (kind : FormulaKind) (f : Formula) : Type 0 where
  pub grouped : IsGrouped f
  pub of_kind : IsOf kind f
  pub nested : nesting f ≤ 8192
