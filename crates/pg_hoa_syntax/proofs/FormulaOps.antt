-- The operations that are kept are those of the formula that is read.
use Rattle.pg_hoa_syntax.proofs.Common.{◌≡◌, ℕ, suc, zero, ◌+◌, Bool, true, false, cond, ltb, List, [], ◌∷◌, ◌++◌, Option, Some, None, refl}
use Rattle.pg_hoa_syntax.proofs.Common.{sym, ◌∙◌, arith, append_assoc, nat_tests, codes, nat_lt, bytes_eq, append-nil, lt-ltb, le-ltb, FormulaKind}
use Rattle.pg_hoa_syntax.proofs.Common.{Label, Condition, Op, Mode, Lexeme, number, identifier, left_paren, right_paren, bang, ampersand, bar}
use Rattle.pg_hoa_syntax.proofs.Common.{Formula, yes, no, proposition, not, bracket, ◌>>=◌, Bracket, fresh, State, operand, opening, naming}
use Rattle.pg_hoa_syntax.proofs.Common.{closing, operator, summed, deeper, word_step, operand_step, operator_step, multiplied, negated, limited}
use Rattle.pg_hoa_syntax.proofs.Common.{completes, step, finish, stops, formula_from, formula_at, KeptReading, with_op, not_ops, both_ops}
use Rattle.pg_hoa_syntax.proofs.Common.{either_ops, limit_op, completed_at, operand_at, negated_at, opened_at, product_at, sum_at, closed_at}
use Rattle.pg_hoa_syntax.proofs.Common.{limit_at, word_at, operand_turn, operator_turn, opening_turn, naming_turn, closing_turn, turn_at}
use Rattle.pg_hoa_syntax.proofs.Common.{goes_on, goes_on_at, ops_in, over_at, ops_from, ops_at, postfix}
use Rattle.pg_hoa_syntax.specs.declared.formula.Op.TheVariants as ops
use Rattle.pg_hoa_syntax.specs.declared.formula.Bracket as rust
use Rattle.pg_hoa_syntax.specs.declared.formula.Mode.TheVariants as modes
use Rattle.pg_hoa_syntax.proofs.OpenBrackets.{split_pushed}

abbrev is_some : Option Formula → Bool
is_some None = false
is_some (Some f) = true

abbrev ops_if : Option Formula → List Op
ops_if None = []
ops_if (Some f) = postfix f

abbrev kept_bracket : ℕ → Bracket → rust.Bracket
kept_bracket room f = record { sum = is_some f.sum; product = is_some f.product; nots = f.nots; room = room + f.nots }

-- inside these brackets so many brackets and `!` more may be opened
abbrev kept_outer : ℕ → List Bracket → List rust.Bracket
kept_outer room [] = []
kept_outer room (f ∷ outer) = kept_outer (suc room + f.nots) outer ++ (kept_bracket (suc room) f ∷ [])

abbrev bracket_ops : Bracket → List Op
bracket_ops f = ops_if f.sum ++ ops_if f.product

abbrev outer_ops : List Bracket → List Op
outer_ops [] = []
outer_ops (f ∷ outer) = outer_ops outer ++ bracket_ops f

-- what is kept before an operand is complete
abbrev before : Mode → ℕ → Bracket → List Bracket → KeptReading
before mode room top outer = record {
  mode = mode;
  top = kept_bracket room top;
  outer = kept_outer (room + top.nots) outer;
  ops = outer_ops outer ++ bracket_ops top;
}

abbrev pub keep : State → KeptReading
keep (operand room top outer) = before modes.Operand room top outer
keep (opening b room top outer) = before (modes.Opening b) room top outer
keep (naming b room top outer) = before (modes.Naming b) room top outer
keep (closing b s room top outer) = before (modes.Closing (limit_op b s)) room top outer
keep (operator room sum product outer) =
    record {
      mode = modes.Operator;
      top = record { sum = is_some sum; product = false; nots = 0; room = room };
      outer = kept_outer room outer;
      ops = outer_ops outer ++ (ops_if sum ++ postfix product);
    }

negated_ops : (n : ℕ) (f : Formula) → postfix (negated n f) ≡ postfix f ++ not_ops n
negated_ops zero f = sym (append-nil (postfix f))
negated_ops (suc n) f = negated_ops n (not f) ∙ append_assoc (postfix f) (ops.Not ∷ []) (not_ops n)

multiplied_ops : (p : Option Formula) (f : Formula) → postfix (multiplied p f) ≡ (ops_if p ++ postfix f) ++ both_ops (is_some p)
multiplied_ops None f = sym (append-nil (postfix f))
multiplied_ops (Some g) f = sym (append_assoc (postfix g) (postfix f) (ops.Both ∷ []))

pub summed_ops : (s : Option Formula) (f : Formula) → postfix (summed s f) ≡ (ops_if s ++ postfix f) ++ either_ops (is_some s)
summed_ops None f = sym (append-nil (postfix f))
summed_ops (Some g) f = sym (append_assoc (postfix g) (postfix f) (ops.Either ∷ []))

-- an operand whose operations were kept is complete
pub completed_keeps : (room : ℕ) (top : Bracket) (outer : List Bracket) (f : Formula) (r : KeptReading) → r.top ≡ kept_bracket room top
    → r.outer ≡ kept_outer (room + top.nots) outer → r.ops ≡ (outer_ops outer ++ bracket_ops top) ++ postfix f
    → completed_at r ≡ Some (keep (completes room top outer f))
unfolding completed_at
completed_keeps room top outer f r et eo ep =
    grind (arith, nat_tests, multiplied_ops top.product (negated top.nots f), negated_ops top.nots f, append_assoc)

-- ---- each step of the formula is a turn of what is kept

operand_keeps : (room : ℕ) (top : Bracket) (outer : List Bracket) (f : Formula) (op : Op) (mode : Mode) → postfix f ≡ op ∷ []
    → operand_at (before mode room top outer) op ≡ Some (keep (completes room top outer f))
unfolding operand_at
operand_keeps room top outer f op mode e =
    completed_keeps room top outer f (with_op (before mode room top outer) op) refl refl (rw e refl)

deeper_none : (top : Bracket) → ltb top.nots (0 + top.nots) ≡ false
deeper_none top = le-ltb top.nots (0 + top.nots) (omega arith)

deeper_some : (room : ℕ) (top : Bracket) → ltb top.nots (suc room + top.nots) ≡ true
deeper_some room top = lt-ltb top.nots (suc room + top.nots) (omega arith)

-- what was kept, of a state that may be none
abbrev kept_if : Option State → Option KeptReading
kept_if found = found >>= λ s. Some (keep s)

bang_keeps : (room : ℕ) (top : Bracket) (outer : List Bracket)
    → negated_at (keep (operand room top outer)) ≡ kept_if
    (deeper room (λ r. operand r (record { sum = top.sum; product = top.product; nots = suc top.nots }) outer))
unfolding negated_at
bang_keeps zero top outer = rw (deeper_none top) refl
bang_keeps (suc room) top outer = grind (arith, nat_tests, deeper_some room top)

paren_keeps : (room : ℕ) (top : Bracket) (outer : List Bracket)
    → opened_at (keep (operand room top outer)) ≡ kept_if (deeper room (λ r. operand r fresh (top ∷ outer)))
unfolding opened_at
paren_keeps zero top outer = rw (deeper_none top) refl
paren_keeps (suc room) top outer = grind (arith, nat_tests, deeper_some room top, append-nil)

tested_keeps : (b : Bool) (x y : Option KeptReading) (u v : Option State) → x ≡ kept_if u → y ≡ kept_if v
    → cond b x y ≡ kept_if (cond b u v)
tested_keeps true x y u v p q = p
tested_keeps false x y u v p q = q

word_keeps : (k : FormulaKind) (w : List ℕ) (room : ℕ) (top : Bracket) (outer : List Bracket)
    → word_at k w (keep (operand room top outer)) ≡ kept_if (word_step k w room top outer)
unfolding word_at limit_at
word_keeps (Label n) w room top outer =
    tested_keeps (bytes_eq w (codes "t")) _ _ (Some (completes room top outer yes)) _
    (operand_keeps room top outer yes ops.Yes modes.Operand refl)
    (tested_keeps (bytes_eq w (codes "f")) _ _ (Some (completes room top outer no)) None
    (operand_keeps room top outer no ops.No modes.Operand refl) refl)
word_keeps (Condition n) w room top outer =
    grind (
      arith,
      nat_tests,
      tested_keeps (bytes_eq w (codes "t")) _ _ (Some (completes room top outer yes)) _
          (operand_keeps room top outer yes ops.Yes modes.Operand refl) (tested_keeps (bytes_eq w (codes "f")) _ _
          (Some (completes room top outer no)) _ (operand_keeps room top outer no ops.No modes.Operand refl)
          (tested_keeps (bytes_eq w (codes "Inf")) _ _ (Some (opening true room top outer)) _ refl
          (tested_keeps (bytes_eq w (codes "Fin")) _ _ (Some (opening false room top outer)) None refl refl))),
    )

operand_turns : (k : FormulaKind) (room : ℕ) (top : Bracket) (outer : List Bracket) (t : Lexeme)
    → operand_turn k (keep (operand room top outer)) t ≡ kept_if (operand_step k room top outer t)
unfolding operand_turn
operand_turns (Label n) room top outer bang = bang_keeps room top outer
operand_turns (Label n) room top outer (number a) = tested_keeps (nat_lt a n) _ None (Some (completes room top outer (proposition a))) None
    (operand_keeps room top outer (proposition a) (ops.Proposition a) modes.Operand refl) refl
operand_turns k room top outer left_paren = paren_keeps room top outer
operand_turns k room top outer (identifier w) = word_keeps k w room top outer
operand_turns _ room top outer t = refl

limit_keeps : (b : Bool) (s : ℕ) → postfix (limited b s) ≡ limit_op b s ∷ []
limit_keeps true s = refl
limit_keeps false s = refl

operator_turns : (room : ℕ) (sum : Option Formula) (product : Formula) (outer : List Bracket) (t : Lexeme)
    → operator_turn (keep (operator room sum product outer)) t ≡ kept_if (operator_step room sum product outer t)
unfolding operator_turn product_at sum_at closed_at
operator_turns room sum product outer ampersand = let b : room + 0 ≡ room = omega arith in rw b refl
operator_turns room sum product outer bar =
    let b : room + 0 ≡ room = omega arith in rw (b, summed_ops sum product) (simp (append-nil, append_assoc))
operator_turns room sum product (top ∷ outer) right_paren =
    rw (split_pushed (kept_outer (suc room + top.nots) outer) (kept_bracket (suc room) top))
    (completed_keeps (suc room) top outer (bracket (summed sum product)) _ refl refl (rw (summed_ops sum product) (simp append_assoc)))
operator_turns room sum product [] right_paren = refl
operator_turns room sum product outer t = refl

turns_keep : (k : FormulaKind) (s : State) (t : Lexeme) → turn_at k (keep s) t ≡ kept_if (step k s t)
unfolding turn_at opening_turn naming_turn closing_turn
turns_keep k (operand room top outer) t = operand_turns k room top outer t
turns_keep k (opening b room top outer) left_paren = refl
turns_keep k (opening b room top outer) t = refl
turns_keep (Condition n) (naming b room top outer) (number s) =
    tested_keeps (nat_lt s n) _ None (Some (closing b s room top outer)) None refl refl
turns_keep (Condition n) (naming b room top outer) t = refl
turns_keep (Label n) (naming b room top outer) t = refl
turns_keep k (closing b s room top outer) right_paren = operand_keeps room top outer (limited b s) (limit_op b s)
    (modes.Closing (limit_op b s)) (limit_keeps b s)
turns_keep k (closing b s room top outer) t = refl
turns_keep k (operator room sum product outer) t = operator_turns room sum product outer t

-- ---- the whole

snoc_goes : (fs : List rust.Bracket) (f : rust.Bracket) (t : Lexeme) → goes_on (fs ++ (f ∷ [])) t ≡ true
snoc_goes [] f ampersand = refl
snoc_goes [] f _ = refl
snoc_goes (g ∷ fs) f ampersand = refl
snoc_goes (g ∷ fs) f _ = refl

inside_goes : (room : ℕ) (sum : Option Formula) (product : Formula) (top : Bracket) (outer : List Bracket) (t : Lexeme)
    → stops (operator room sum product (top ∷ outer)) t ≡ false
inside_goes room sum product top outer ampersand = refl
inside_goes room sum product top outer _ = refl

abbrev negation : Bool → Bool
negation true = false
negation false = true

goes_keep : (s : State) (t : Lexeme) → goes_on_at (keep s) t ≡ negation (stops s t)
unfolding goes_on_at
goes_keep (operand room top outer) t = refl
goes_keep (opening b room top outer) t = refl
goes_keep (naming b room top outer) t = refl
goes_keep (closing b s room top outer) t = refl
goes_keep (operator room sum product []) ampersand = refl
goes_keep (operator room sum product []) _ = refl
goes_keep (operator room sum product (top ∷ outer)) t = rw (inside_goes room sum product top outer t)
    (snoc_goes (kept_outer (suc room + top.nots) outer) (kept_bracket (suc room) top) t)

snoc_over : (fs : List rust.Bracket) (f : rust.Bracket) (ops : List Op) → ops_in modes.Operator (fs ++ (f ∷ [])) ops ≡ None
snoc_over [] f ops = refl
snoc_over (g ∷ fs) f ops = refl

abbrev pub as_ops : Option (Formula × List Lexeme) → Option (List Op × List Lexeme)
as_ops found = found >>= λ y. Some (postfix y.0, y.1)

over_keeps : (s : State) (rest : List Lexeme) → (over_at (keep s) >>= λ ops. Some (ops, rest)) ≡ as_ops (finish s rest)
unfolding over_at
over_keeps (operand room top outer) rest = refl
over_keeps (opening b room top outer) rest = refl
over_keeps (naming b room top outer) rest = refl
over_keeps (closing b s room top outer) rest = refl
over_keeps (operator room sum product []) rest = rw (summed_ops sum product) refl
over_keeps (operator room sum product (top ∷ outer)) rest =
    rw (snoc_over (kept_outer (suc room + top.nots) outer) (kept_bracket (suc room) top)) refl

later_keeps : (k : FormulaKind) (rest : List Lexeme) (found : Option State)
    → ((s : State) → ops_from k (keep s) rest ≡ as_ops (formula_from k s rest))
    → (kept_if found >>= λ r. ops_from k r rest) ≡ as_ops (found >>= λ s. formula_from k s rest)
later_keeps k rest None all = refl
later_keeps k rest (Some s) all = all s

from_keeps : (k : FormulaKind) (s : State) (tokens : List Lexeme) → ops_from k (keep s) tokens ≡ as_ops (formula_from k s tokens)
unfolding ops_from formula_from
from_keeps k s [] = over_keeps s []
from_keeps k s (t ∷ rest) =
    elim (stops s t) as (λ v. stops s t ≡ v
    → ops_from k (keep s) (t ∷ rest) ≡ as_ops (cond v (finish s (t ∷ rest)) (step k s t >>= λ s. formula_from k s rest))) [
      | true ↦ λ e. rw (goes_keep s t, e) (over_keeps s (t ∷ rest))
      | false ↦ λ e. rw (goes_keep s t, e, turns_keep k s t) (later_keeps k rest (step k s t) (λ s. from_keeps k s rest))
    ] refl

-- the operations that are read are those of the formula that is read
pub formula_keeps : (k : FormulaKind) (tokens : List Lexeme) → ops_at k tokens ≡ as_ops (formula_at k tokens)
unfolding ops_at formula_at
formula_keeps k tokens = from_keeps k (operand 8192 fresh []) tokens
