-- What the reader of labels and conditions gives is written there, and what is written there it gives.
use Rattle.pg_hoa_syntax.proofs.Common.{◌≡◌, ℕ, List, [], ◌∷◌, ◌++◌, map, Some, sym, ap, ◌∙◌, AllByRecursion, FormulaKind, Op, Lexeme, number}
use Rattle.pg_hoa_syntax.proofs.Common.{right_paren, ampersand, bar, IsToken, Formula, yes, no, proposition, inf, fin, not, both, either}
use Rattle.pg_hoa_syntax.proofs.Common.{bracket, formula_lexemes, IsWritten, postfix, ops_at, formula_at, some, some_is}
use Rattle.pg_hoa_syntax.proofs.Lists.{all_of_both}
use Rattle.pg_hoa_syntax.proofs.Steps.{bind_some}
use Rattle.pg_hoa_syntax.proofs.FormulasTake.{formula_takes}
use Rattle.pg_hoa_syntax.proofs.FormulasAgain.{Ends, formula_again}
use Rattle.pg_hoa_syntax.proofs.FormulaOps.{as_ops, formula_keeps}

-- a formula that is written at the front of the tokens, its operations, and the tokens behind it
pub record ReadsFormula (k : FormulaKind) (tokens : List Lexeme) (ops : List Op) (rest : List Lexeme) : Type 0 where
  pub formula : Formula
  pub written : IsWritten k formula
  pub is : tokens ≡ formula_lexemes formula ++ rest
  pub computed : ops ≡ postfix formula

pub ops_take : (k : FormulaKind) (tokens : List Lexeme) (x : List Op × List Lexeme) → ops_at k tokens ≡ Some x → ReadsFormula k tokens x.0 x.1
ops_take k tokens x e =
    let found =
    bind_some (formula_at k tokens) (λ (y : Formula × List Lexeme). some (postfix y.0, y.1)) x (sym (formula_keeps k tokens) ∙ e) in
    let taken = formula_takes k tokens found.0 found.1 in
    let same : (postfix found.0.0, found.0.1) ≡ x = some_is (postfix found.0.0, found.0.1) x found.2 in
    record {
      formula = found.0.0;
      written = taken.written;
      is = taken.is ∙ ap (λ (y : List Op × List Lexeme). formula_lexemes found.0.0 ++ y.1) same;
      computed = sym (ap (λ (y : List Op × List Lexeme). y.0) same);
    }

pub ops_again : (k : FormulaKind) (f : Formula) (rest : List Lexeme) → IsWritten k f → Ends rest
    → ops_at k (formula_lexemes f ++ rest) ≡ Some (postfix f, rest)
ops_again k f rest written ends = formula_keeps k (formula_lexemes f ++ rest) ∙ ap as_ops (formula_again k f rest written ends)

-- ---- tokens of numbers and of a formula

pub number_tokens : (ns : List ℕ) → AllByRecursion IsToken (map number ns)
number_tokens [] = tt
number_tokens (n ∷ ns) = (tt, number_tokens ns)

pub formula_tokens : (f : Formula) → AllByRecursion IsToken (formula_lexemes f)
formula_tokens yes = (tt, tt)
formula_tokens no = (tt, tt)
formula_tokens (proposition a) = (tt, tt)
formula_tokens (inf s) = (tt, (tt, (tt, (tt, tt))))
formula_tokens (fin s) = (tt, (tt, (tt, (tt, tt))))
formula_tokens (not f) = (tt, formula_tokens f)
formula_tokens (both f g) =
    all_of_both IsToken (formula_lexemes f) (ampersand ∷ formula_lexemes g) (formula_tokens f) (tt, formula_tokens g)
formula_tokens (either f g) = all_of_both IsToken (formula_lexemes f) (bar ∷ formula_lexemes g) (formula_tokens f) (tt, formula_tokens g)
formula_tokens (bracket f) = (tt, all_of_both IsToken (formula_lexemes f) (right_paren ∷ []) (formula_tokens f) (tt, tt))
