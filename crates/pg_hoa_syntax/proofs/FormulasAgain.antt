-- A formula that is written is read.
use Rattle.pg_hoa_syntax.proofs.Common.{◌≡◌, ℕ, suc, zero, ◌+◌, ◌≤◌, ◌<◌, List, [], ◌∷◌, ◌++◌, Option, Some, None, refl, ap, ◌∙◌, arith}
use Rattle.pg_hoa_syntax.proofs.Common.{append_assoc, nat_tests, lt-ltb, Lexeme, right_paren, ampersand, bar, stray, FormulaKind, Label, Condition}
use Rattle.pg_hoa_syntax.proofs.Common.{Formula, yes, no, proposition, inf, fin, not, both, either, bracket, formula_lexemes, rank, IsGrouped}
use Rattle.pg_hoa_syntax.proofs.Common.{nesting, IsOf, IsWritten, Bracket, fresh, State, operand, operator, summed, completes, formula_from}
use Rattle.pg_hoa_syntax.proofs.Common.{formula_at}

abbrev starting : Option Formula → Bracket
starting sum = record { sum = sum; product = None; nots = 0 }

-- a whole formula has been read within its bracket
abbrev whole : ℕ → Formula → List Bracket → State
whole room (either f g) outer = operator room (Some f) g outer
whole room f outer = operator room None f outer

abbrev Operand : FormulaKind → Formula → Type 0
Operand k f = (room : ℕ) (top : Bracket) (outer : List Bracket) (rest : List Lexeme) → nesting f ≤ room
    → formula_from k (operand room top outer) (formula_lexemes f ++ rest) ≡ formula_from k (completes room top outer f) rest

abbrev Product : FormulaKind → Formula → Type 0
Product k f = (room : ℕ) (sum : Option Formula) (outer : List Bracket) (rest : List Lexeme) → nesting f ≤ room
    → formula_from k (operand room (starting sum) outer) (formula_lexemes f ++ rest) ≡ formula_from k (operator room sum f outer) rest

abbrev Sum : FormulaKind → Formula → Type 0
Sum k f = (room : ℕ) (outer : List Bracket) (rest : List Lexeme) → nesting f ≤ room
    → formula_from k (operand room fresh outer) (formula_lexemes f ++ rest) ≡ formula_from k (whole room f outer) rest

record Again (k : FormulaKind) (f : Formula) : Type 0 where
  as_operand : rank f ≤ 0 → Operand k f
  as_product : rank f ≤ 1 → Product k f
  as_sum : Sum k f

add_none : (n : ℕ) → n + 0 ≡ n
add_none n = omega arith

product_of : (k : FormulaKind) (f : Formula) → Operand k f → Product k f
product_of k f op room sum outer rest n = grind (arith, nat_tests, add_none room)

of_operand : (k : FormulaKind) (f : Formula) → Operand k f → ((room : ℕ) (outer : List Bracket) → whole room f outer ≡ operator room None f outer)
    → Again k f
of_operand k f op plain = grind (arith, nat_tests, product_of k f op)

both_product : (k : FormulaKind) (f g : Formula) → Product k f → Operand k g → Product k (both f g)
unfolding formula_from
both_product k f g pf og room sum outer rest n =
    grind (arith, nat_tests, append_assoc (formula_lexemes f) (ampersand ∷ formula_lexemes g) rest, add_none room)

of_both : (k : FormulaKind) (f g : Formula) → Product k f → Operand k g → Again k (both f g)
of_both k f g pf og = grind (arith, nat_tests, both_product k f g pf og)

-- a bar behind a whole formula
bar_next : (k : FormulaKind) (f : Formula) (room : ℕ) (outer : List Bracket) (rest : List Lexeme)
    → formula_from k (whole room f outer) (bar ∷ rest) ≡ formula_from k (operand room (starting (Some f)) outer) rest
unfolding formula_from
bar_next k (either f g) room outer rest = refl
bar_next k _ room outer rest = refl

-- a bracket behind a whole formula
closes : (k : FormulaKind) (f : Formula) (room : ℕ) (top : Bracket) (outer : List Bracket) (rest : List Lexeme)
    → formula_from k (whole room f (top ∷ outer)) (right_paren ∷ rest) ≡ formula_from k (completes (suc room) top outer (bracket f)) rest
unfolding formula_from
closes k (either f g) room top outer rest = refl
closes k _ room top outer rest = refl

of_either : (k : FormulaKind) (f g : Formula) → Sum k f → Product k g → Again k (either f g)
of_either k f g sf pg = record {
  as_operand = λ high. absurd (omega arith);
  as_product = λ high. absurd (omega arith);
  as_sum = λ room outer rest n.
      ap (λ (ts : List Lexeme). formula_from k (operand room fresh outer) ts)
      (append_assoc (formula_lexemes f) (bar ∷ formula_lexemes g) rest)
      ∙ sf room outer (bar ∷ (formula_lexemes g ++ rest)) (omega arith)
      ∙ bar_next k f room outer (formula_lexemes g ++ rest)
      ∙ pg room (Some f) outer rest (omega arith);
}

not_operand : (n : ℕ) (f : Formula) → Operand (Label n) f → Operand (Label n) (not f)
unfolding formula_from
not_operand n f op zero top outer rest deep = absurd (omega arith)
not_operand n f op (suc room) top outer rest deep = grind (arith, nat_tests)

bracket_operand : (k : FormulaKind) (f : Formula) → Sum k f → Operand k (bracket f)
unfolding formula_from
bracket_operand k f sf zero top outer rest n = absurd (omega arith)
bracket_operand (Label n) f sf (suc room) top outer rest deep =
    grind (arith, nat_tests, append_assoc (formula_lexemes f) (right_paren ∷ []) rest, closes (Label n) f room top outer rest)
bracket_operand (Condition n) f sf (suc room) top outer rest deep =
    grind (arith, nat_tests, append_assoc (formula_lexemes f) (right_paren ∷ []) rest, closes (Condition n) f room top outer rest)

yes_operand : (k : FormulaKind) → Operand k yes
unfolding formula_from
yes_operand (Label n) room top outer rest deep = refl
yes_operand (Condition n) room top outer rest deep = refl

no_operand : (k : FormulaKind) → Operand k no
unfolding formula_from
no_operand (Label n) room top outer rest deep = refl
no_operand (Condition n) room top outer rest deep = refl

proposition_operand : (n a : ℕ) → a < n → Operand (Label n) (proposition a)
unfolding formula_from
proposition_operand n a h room top outer rest deep = rw (lt-ltb a n h) refl

inf_operand : (n s : ℕ) → s < n → Operand (Condition n) (inf s)
unfolding formula_from
inf_operand n s h room top outer rest deep = rw (lt-ltb s n h) refl

fin_operand : (n s : ℕ) → s < n → Operand (Condition n) (fin s)
unfolding formula_from
fin_operand n s h room top outer rest deep = rw (lt-ltb s n h) refl

again : (k : FormulaKind) (f : Formula) → IsGrouped f → IsOf k f → Again k f
again k yes g o = of_operand k yes (yes_operand k) (λ room outer. refl)
again k no g o = of_operand k no (no_operand k) (λ room outer. refl)
again (Label n) (proposition a) g o = of_operand (Label n) (proposition a) (proposition_operand n a o) (λ room outer. refl)
again (Condition n) (proposition a) g o = absurd o
again (Label n) (inf s) g o = absurd o
again (Condition n) (inf s) g o = of_operand (Condition n) (inf s) (inf_operand n s o) (λ room outer. refl)
again (Label n) (fin s) g o = absurd o
again (Condition n) (fin s) g o = of_operand (Condition n) (fin s) (fin_operand n s o) (λ room outer. refl)
again (Label n) (not f) g o = of_operand (Label n) (not f) (not_operand n f ((again (Label n) f g.1 o).as_operand g.0)) (λ room outer. refl)
again (Condition n) (not f) g o = absurd o
again (Label n) (both f h) g o =
    of_both (Label n) f h ((again (Label n) f g.2 o.0).as_product g.0) ((again (Label n) h g.3 o.1).as_operand g.1)
again (Condition n) (both f h) g o =
    of_both (Condition n) f h ((again (Condition n) f g.2 o.0).as_product g.0) ((again (Condition n) h g.3 o.1).as_operand g.1)
again (Label n) (either f h) g o = of_either (Label n) f h (again (Label n) f g.1 o.0).as_sum ((again (Label n) h g.2 o.1).as_product g.0)
again (Condition n) (either f h) g o =
    of_either (Condition n) f h (again (Condition n) f g.1 o.0).as_sum ((again (Condition n) h g.2 o.1).as_product g.0)
again (Label n) (bracket f) g o =
    of_operand (Label n) (bracket f) (bracket_operand (Label n) f (again (Label n) f g o).as_sum) (λ room outer. refl)
again (Condition n) (bracket f) g o =
    of_operand (Condition n) (bracket f) (bracket_operand (Condition n) f (again (Condition n) f g o).as_sum) (λ room outer. refl)

-- the token behind a formula is neither `&` nor `|`, and is one
abbrev pub Ends : List Lexeme → Type 0
Ends [] = Unit {0}
Ends (ampersand ∷ rest) = ⊥
Ends (bar ∷ rest) = ⊥
Ends (stray ∷ rest) = ⊥
Ends (_ ∷ rest) = Unit {0}

stops_there : (k : FormulaKind) (room : ℕ) (sum : Option Formula) (f : Formula) (rest : List Lexeme) → Ends rest
    → formula_from k (operator room sum f []) rest ≡ Some (summed sum f, rest)
unfolding formula_from
stops_there k room sum f [] h = refl
stops_there k room sum f (ampersand ∷ rest) h = absurd h
stops_there k room sum f (bar ∷ rest) h = absurd h
stops_there k room sum f (stray ∷ rest) h = absurd h
stops_there k room sum f (_ ∷ rest) h = refl

whole_stops : (k : FormulaKind) (room : ℕ) (f : Formula) (rest : List Lexeme) → Ends rest → formula_from k (whole room f []) rest ≡ Some (f, rest)
whole_stops k room (either f g) rest h = stops_there k room (Some f) g rest h
whole_stops k room yes rest h = stops_there k room None yes rest h
whole_stops k room no rest h = stops_there k room None no rest h
whole_stops k room (proposition a) rest h = stops_there k room None (proposition a) rest h
whole_stops k room (inf s) rest h = stops_there k room None (inf s) rest h
whole_stops k room (fin s) rest h = stops_there k room None (fin s) rest h
whole_stops k room (not f) rest h = stops_there k room None (not f) rest h
whole_stops k room (both f g) rest h = stops_there k room None (both f g) rest h
whole_stops k room (bracket f) rest h = stops_there k room None (bracket f) rest h

pub formula_again : (k : FormulaKind) (f : Formula) (rest : List Lexeme) → IsWritten k f → Ends rest
    → formula_at k (formula_lexemes f ++ rest) ≡ Some (f, rest)
unfolding formula_at
formula_again k f rest w h = (again k f w.grouped w.of_kind).as_sum 8192 [] rest w.nested ∙ whole_stops k 8192 f rest h
