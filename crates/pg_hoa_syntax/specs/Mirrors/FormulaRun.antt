-- What the reader of labels and conditions keeps of a formula: its operands before its operators, and what was read within each open bracket.
use Rattle.std.specs.Prelude.{ℕ, suc, zero, ◌+◌, ◌-◌, Bool, true, false, List, [], ◌∷◌, ◌++◌, Option, Some, None, codes, nat_lt}
use Rattle.std.specs.Prelude.{if◌then◌else◌}
use Rattle.std.specs.Str.{bytes_eq}
use Rattle.pg_hoa_syntax.specs.declared.formula.Bracket.{Bracket}
use Rattle.pg_hoa_syntax.specs.declared.formula.Mode.{Mode}
use Rattle.pg_hoa_syntax.specs.declared.formula.Mode.TheVariants.{Operand, Opening, Naming, Closing, Operator}
use Rattle.pg_hoa_syntax.specs.declared.formula.Op.{Op}
use Rattle.pg_hoa_syntax.specs.declared.formula.Op.TheVariants.{Yes, No, Proposition, Inf, Fin, Not, Both, Either}
use Rattle.pg_hoa_automaton.specs.Formulas.{Formula, yes, no, proposition, inf, fin, not, both, either, bracket}
use Rattle.pg_hoa_syntax.specs.declared.formula.FormulaKind.{FormulaKind}
use Rattle.pg_hoa_syntax.specs.declared.formula.FormulaKind.TheVariants.{Label, Condition}
use Rattle.pg_hoa_syntax.specs.declared.formula.FormulaReading.{FormulaReading}
use Rattle.pg_hoa_syntax.specs.Lexemes.{Lexeme, number, identifier, left_paren, right_paren, bang, ampersand, bar, stray}
use Rattle.pg_hoa_automaton.specs.Mirrors.Steps.{◌>>=◌}

-- operands before their operators
abbrev pub postfix : Formula → List Op
postfix yes = Yes ∷ []
postfix no = No ∷ []
postfix (proposition a) = Proposition a ∷ []
postfix (inf s) = Inf s ∷ []
postfix (fin s) = Fin s ∷ []
postfix (not f) = postfix f ++ (Not ∷ [])
postfix (both f g) = postfix f ++ (postfix g ++ (Both ∷ []))
postfix (either f g) = postfix f ++ (postfix g ++ (Either ∷ []))
postfix (bracket f) = postfix f

-- a reading, apart from its place in memory
pub record KeptReading : Type 0 where
  pub mode : Mode
  pub top : Bracket
  pub outer : List Bracket
  pub ops : List Op

abbrev pub view : FormulaReading → KeptReading
view r = record { mode = r.mode; top = r.top; outer = r.outer.items; ops = r.ops.items }

abbrev pub not_ops : ℕ → List Op
not_ops zero = []
not_ops (suc n) = Not ∷ not_ops n

abbrev pub split_last : List Bracket → Option (List Bracket × Bracket)
split_last [] = None
split_last (f ∷ []) = Some ([], f)
split_last (f ∷ g ∷ fs) = split_last (g ∷ fs) >>= λ x. Some (f ∷ x.0, x.1)

abbrev pub both_ops : Bool → List Op
both_ops true = Both ∷ []
both_ops false = []

abbrev pub either_ops : Bool → List Op
either_ops true = Either ∷ []
either_ops false = []

unfoldable pub completed_at : KeptReading → Option KeptReading
completed_at r = Some (record {
  mode = Operator;
  top = record { sum = r.top.sum; product = false; nots = 0; room = r.top.room };
  outer = r.outer;
  ops = (r.ops ++ not_ops r.top.nots) ++ both_ops r.top.product;
})

abbrev pub with_op : KeptReading → Op → KeptReading
with_op r op = record { mode = r.mode; top = r.top; outer = r.outer; ops = r.ops ++ (op ∷ []) }

abbrev pub in_mode : KeptReading → Mode → KeptReading
in_mode r mode = record { mode = mode; top = r.top; outer = r.outer; ops = r.ops }

unfoldable pub operand_at : KeptReading → Op → Option KeptReading
operand_at r op = completed_at (with_op r op)

unfoldable pub negated_at : KeptReading → Option KeptReading
negated_at r =
    if nat_lt r.top.nots r.top.room
    then Some (record {
      mode = Operand;
      top = record {
        sum = r.top.sum;
        product = r.top.product;
        nots = r.top.nots + 1;
        room = r.top.room;
      };
      outer = r.outer;
      ops = r.ops;
    })
    else None

unfoldable pub opened_at : KeptReading → Option KeptReading
opened_at r =
    if nat_lt r.top.nots r.top.room
    then Some (record {
      mode = Operand;
      top = record { sum = false; product = false; nots = 0; room = r.top.room - r.top.nots - 1 };
      outer = r.outer ++ (r.top ∷ []);
      ops = r.ops;
    })
    else None

unfoldable pub product_at : KeptReading → Option KeptReading
product_at r =
    Some (record {
      mode = Operand;
      top = record { sum = r.top.sum; product = true; nots = 0; room = r.top.room };
      outer = r.outer;
      ops = r.ops;
    })

unfoldable pub sum_at : KeptReading → Option KeptReading
sum_at r = Some (record {
  mode = Operand;
  top = record { sum = true; product = false; nots = 0; room = r.top.room };
  outer = r.outer;
  ops = r.ops ++ either_ops r.top.sum;
})

unfoldable pub closed_at : KeptReading → Option KeptReading
closed_at r =
    split_last r.outer >>= λ x. completed_at (record { mode = Operand; top = x.1; outer = x.0; ops = r.ops ++ either_ops r.top.sum })

unfoldable pub limit_at : FormulaKind → List ℕ → KeptReading → Option KeptReading
limit_at (Label n) w r = None
limit_at (Condition n) w r =
    if bytes_eq w (codes "Inf") then Some (in_mode r (Opening true))
    else (if bytes_eq w (codes "Fin") then Some (in_mode r (Opening false))
    else None)

unfoldable pub word_at : FormulaKind → List ℕ → KeptReading → Option KeptReading
word_at k w r =
    if bytes_eq w (codes "t") then operand_at r Yes
    else (if bytes_eq w (codes "f") then operand_at r No
    else limit_at k w r)

abbrev pub limit_op : Bool → ℕ → Op
limit_op true s = Inf s
limit_op false s = Fin s

unfoldable pub operand_turn : FormulaKind → KeptReading → Lexeme → Option KeptReading
operand_turn (Label n) r bang = negated_at r
operand_turn (Label n) r (number a) = if nat_lt a n then operand_at r (Proposition a) else None
operand_turn k r left_paren = opened_at r
operand_turn k r (identifier w) = word_at k w r
operand_turn k r t = None

unfoldable pub operator_turn : KeptReading → Lexeme → Option KeptReading
operator_turn r ampersand = product_at r
operator_turn r bar = sum_at r
operator_turn r right_paren = closed_at r
operator_turn r t = None

unfoldable pub opening_turn : KeptReading → Bool → Lexeme → Option KeptReading
opening_turn r b left_paren = Some (in_mode r (Naming b))
opening_turn r b t = None

unfoldable pub naming_turn : FormulaKind → KeptReading → Bool → Lexeme → Option KeptReading
naming_turn (Condition n) r b (number s) = if nat_lt s n then Some (in_mode r (Closing (limit_op b s))) else None
naming_turn k r b t = None

unfoldable pub closing_turn : KeptReading → Op → Lexeme → Option KeptReading
closing_turn r op right_paren = operand_at r op
closing_turn r op t = None

abbrev pub mode_turn : FormulaKind → KeptReading → Mode → Lexeme → Option KeptReading
mode_turn k r Operand t = operand_turn k r t
mode_turn k r (Opening b) t = opening_turn r b t
mode_turn k r (Naming b) t = naming_turn k r b t
mode_turn k r (Closing op) t = closing_turn r op t
mode_turn k r Operator t = operator_turn r t

unfoldable pub turn_at : FormulaKind → KeptReading → Lexeme → Option KeptReading
turn_at k r t = mode_turn k r r.mode t

abbrev pub goes_on : List Bracket → Lexeme → Bool
goes_on outer ampersand = true
goes_on outer bar = true
goes_on outer stray = true
goes_on [] right_paren = false
goes_on (f ∷ outer) right_paren = true
goes_on [] t = false
goes_on (f ∷ outer) t = true

abbrev pub mode_goes_on : Mode → List Bracket → Lexeme → Bool
mode_goes_on Operator outer t = goes_on outer t
mode_goes_on mode outer t = true

unfoldable pub goes_on_at : KeptReading → Lexeme → Bool
goes_on_at r t = mode_goes_on r.mode r.outer t

-- the token, if it may belong to the formula
unfoldable pub taken_at : KeptReading → Option Lexeme → Option Lexeme
taken_at r None = None
taken_at r (Some t) = if goes_on_at r t then Some t else None

abbrev pub ops_in : Mode → List Bracket → List Op → Option (List Op)
ops_in Operator [] ops = Some ops
ops_in mode outer ops = None

unfoldable pub over_at : KeptReading → Option (List Op)
over_at r = ops_in r.mode r.outer (r.ops ++ either_ops r.top.sum)

unfoldable pub ops_from : FormulaKind → KeptReading → List Lexeme → Option (List Op × List Lexeme)
ops_from k r [] = over_at r >>= λ ops. Some (ops, [])
ops_from k r (t ∷ rest) =
    if goes_on_at r t then (turn_at k r t >>= λ r. ops_from k r rest)
    else (over_at r >>= λ ops. Some (ops, t ∷ rest))

abbrev pub starting : KeptReading
starting = record { mode = Operand; top = record { sum = false; product = false; nots = 0; room = 8192 }; outer = []; ops = [] }

unfoldable pub ops_at : FormulaKind → List Lexeme → Option (List Op × List Lexeme)
ops_at k tokens = ops_from k starting tokens
