-- A formula that is read is written there.
use Rattle.pg_hoa_syntax.proofs.Common.{◌≡◌, ℕ, suc, zero, ◌+◌, ◌≤◌, ◌<◌, Bool, cond, List, [], ◌∷◌, ◌++◌, Option, Some, None, refl, sym, ap}
use Rattle.pg_hoa_syntax.proofs.Common.{subst, ◌∙◌, arith, append_assoc, true, false, inl, inr, nat_tests, codes, nat_lt, bytes_eq}
use Rattle.pg_hoa_syntax.proofs.Common.{bytes_eq-Decides, append-nil, Lexeme, number, identifier, left_paren, right_paren, bang, ampersand, bar}
use Rattle.pg_hoa_syntax.proofs.Common.{FormulaKind, Label, Condition, Formula, yes, no, proposition, inf, fin, not, bracket, formula_lexemes, rank}
use Rattle.pg_hoa_syntax.proofs.Common.{IsGrouped, nesting, IsOf, IsWritten, ◌>>=◌, Bracket, fresh, State, operand, opening, naming, closing}
use Rattle.pg_hoa_syntax.proofs.Common.{operator, summed, multiplied, negated, limited, completes, deeper, word_step, operand_step}
use Rattle.pg_hoa_syntax.proofs.Common.{opening_step, naming_step, closing_step, operator_step, step, finish, stops, formula_from, formula_at}
use Rattle.pg_hoa_syntax.proofs.Common.{chosen, some, some_is, none_is_some}
use Rattle.pg_hoa_syntax.proofs.Steps.{bind_some}

-- ---- the tokens read so far

abbrev before : Lexeme → Option Formula → List Lexeme
before t None = []
before t (Some f) = formula_lexemes f ++ (t ∷ [])

abbrev bangs : ℕ → List Lexeme
bangs zero = []
bangs (suc n) = bang ∷ bangs n

abbrev bracket_lexemes : Bracket → List Lexeme
bracket_lexemes f = before bar f.sum ++ (before ampersand f.product ++ bangs f.nots)

abbrev outer_lexemes : List Bracket → List Lexeme
outer_lexemes [] = []
outer_lexemes (f ∷ outer) = outer_lexemes outer ++ (bracket_lexemes f ++ (left_paren ∷ []))

abbrev limit_word : Bool → Lexeme
limit_word true = identifier (codes "Inf")
limit_word false = identifier (codes "Fin")

abbrev closing_lexemes : Formula → List Lexeme
closing_lexemes (inf s) = limit_word true ∷ left_paren ∷ number s ∷ []
closing_lexemes (fin s) = limit_word false ∷ left_paren ∷ number s ∷ []
closing_lexemes _ = []

abbrev so_far : State → List Lexeme
so_far (operand room top outer) = outer_lexemes outer ++ bracket_lexemes top
so_far (opening b room top outer) = outer_lexemes outer ++ (bracket_lexemes top ++ (limit_word b ∷ []))
so_far (naming b room top outer) = outer_lexemes outer ++ (bracket_lexemes top ++ (limit_word b ∷ left_paren ∷ []))
so_far (closing b s room top outer) = outer_lexemes outer ++ (bracket_lexemes top ++ closing_lexemes (limited b s))
so_far (operator room sum product outer) = outer_lexemes outer ++ (before bar sum ++ formula_lexemes product)

-- ---- what was read is well written

record Fits (k : FormulaKind) (room most : ℕ) (f : Formula) : Type 0 where
  grouped : IsGrouped f
  of_kind : IsOf k f
  nested : nesting f ≤ room
  low : rank f ≤ most

abbrev FitsIf : FormulaKind → ℕ → ℕ → Option Formula → Type 0
FitsIf k room most None = Unit {0}
FitsIf k room most (Some f) = Fits k room most f

abbrev NotsFit : FormulaKind → ℕ → Type 0
NotsFit (Label m) n = Unit {0}
NotsFit (Condition m) n = n ≡ 0

record BracketFits (k : FormulaKind) (room : ℕ) (f : Bracket) : Type 0 where
  sum : FitsIf k room 2 f.sum
  product : FitsIf k room 1 f.product
  nots : NotsFit k f.nots

abbrev OuterFits : FormulaKind → ℕ → List Bracket → Type 0
OuterFits k room [] = room ≡ 8192
OuterFits k room (f ∷ outer) = BracketFits k (suc room + f.nots) f × OuterFits k (suc room + f.nots) outer

record Within (k : FormulaKind) (room : ℕ) (top : Bracket) (outer : List Bracket) : Type 0 where
  top_fits : BracketFits k (room + top.nots) top
  outer_fit : OuterFits k (room + top.nots) outer

abbrev Sound : FormulaKind → State → Type 0
Sound k (operand room top outer) = Within k room top outer
Sound k (opening b room top outer) = Within k room top outer
Sound k (naming b room top outer) = Within k room top outer
Sound k (closing b s room top outer) = Within k room top outer × IsOf k (limited b s)
Sound k (operator room sum product outer) = FitsIf k room 2 sum × Fits k room 1 product × OuterFits k room outer

-- ---- `!` before an operand

negated_lexemes : (n : ℕ) (f : Formula) → formula_lexemes (negated n f) ≡ bangs n ++ formula_lexemes f
negated_lexemes zero f = refl
negated_lexemes (suc n) f = negated_lexemes n (not f) ∙ moved n (formula_lexemes f)
  where
    moved : (n : ℕ) (ts : List Lexeme) → bangs n ++ (bang ∷ ts) ≡ bang ∷ (bangs n ++ ts)
    moved zero ts = refl
    moved (suc n) ts = ap (λ (l : List Lexeme). bang ∷ l) (moved n ts)

negated_label : (m n room : ℕ) (f : Formula) → Fits (Label m) room 0 f → Fits (Label m) (room + n) 0 (negated n f)
negated_label m zero room f h = record { grouped = h.grouped; of_kind = h.of_kind; nested = let n = h.nested in omega arith; low = h.low }
negated_label m (suc n) room f h =
    let inner : Fits (Label m) (suc room) 0 (not f) = record {
      grouped = (h.low, h.grouped);
      of_kind = h.of_kind;
      nested = let n =
          h.nested in omega arith;
      low = omega arith;
    } in
    subst (λ (r : ℕ). Fits (Label m) r 0 (negated n (not f))) (omega arith) (negated_label m n (suc room) (not f) inner)

negated_fits : (k : FormulaKind) (n room : ℕ) (f : Formula) → NotsFit k n → Fits k room 0 f → Fits k (room + n) 0 (negated n f)
negated_fits (Label m) n room f e h = negated_label m n room f h
negated_fits (Condition m) zero room f e h =
    record { grouped = h.grouped; of_kind = h.of_kind; nested = let n = h.nested in omega arith; low = h.low }
negated_fits (Condition m) (suc n) room f e h = absurd (omega arith)

summed_fits : (k : FormulaKind) (room : ℕ) (s : Option Formula) (f : Formula) → FitsIf k room 2 s → Fits k room 1 f → Fits k room 2 (summed s f)
summed_fits k room None f p h = record { grouped = h.grouped; of_kind = h.of_kind; nested = h.nested; low = let l = h.low in omega arith }
summed_fits (Label n) room (Some g) f p h = let a = p.nested in let b = h.nested in
    record { grouped = (h.low, p.grouped, h.grouped); of_kind = (p.of_kind, h.of_kind); nested = omega arith; low = omega arith }
summed_fits (Condition n) room (Some g) f p h = let a = p.nested in let b = h.nested in
    record { grouped = (h.low, p.grouped, h.grouped); of_kind = (p.of_kind, h.of_kind); nested = omega arith; low = omega arith }

multiplied_lexemes : (p : Option Formula) (f : Formula) → formula_lexemes (multiplied p f) ≡ before ampersand p ++ formula_lexemes f
multiplied_lexemes None f = refl
multiplied_lexemes (Some g) f = sym (append_assoc (formula_lexemes g) (ampersand ∷ []) (formula_lexemes f))

summed_lexemes : (s : Option Formula) (f : Formula) → formula_lexemes (summed s f) ≡ before bar s ++ formula_lexemes f
summed_lexemes None f = refl
summed_lexemes (Some g) f = sym (append_assoc (formula_lexemes g) (bar ∷ []) (formula_lexemes f))

-- ---- a step goes on with what was read

-- the state is sound, and so far it has read these tokens
record Reads (k : FormulaKind) (s : State) (tokens : List Lexeme) : Type 0 where
  sound : Sound k s
  is : so_far s ≡ tokens

completes_reads : (k : FormulaKind) (room : ℕ) (top : Bracket) (outer : List Bracket) (f : Formula) → Within k room top outer → Fits k room 0 f
    → Reads k (completes room top outer f) (outer_lexemes outer ++ (bracket_lexemes top ++ formula_lexemes f))
completes_reads k room top outer f w h = grind (
  arith,
  nat_tests,
  negated_fits k top.nots room f w.top_fits.nots h,
  multiplied_lexemes top.product (negated top.nots f),
  negated_lexemes top.nots f,
  append_assoc,
)

abbrev Next : FormulaKind → State → Lexeme → Option State → Type 0
Next k s t found = (s2 : State) → found ≡ Some s2 → Reads k s2 (so_far s ++ (t ∷ []))

none_next : (k : FormulaKind) (s : State) (t : Lexeme) → Next k s t None
none_next k s t s2 e = absurd (none_is_some s2 e)

some_next : (k : FormulaKind) (s : State) (t : Lexeme) (found : State) → Reads k found (so_far s ++ (t ∷ [])) → Next k s t (Some found)
some_next k s t found r s2 e = subst (λ (x : State). Reads k x (so_far s ++ (t ∷ []))) (some_is found s2 e) r

completed : (k : FormulaKind) (room : ℕ) (top : Bracket) (outer : List Bracket) (f : Formula) (t : Lexeme) → Within k room top outer → Fits k room 0 f
    → formula_lexemes f ≡ t ∷ [] → Next k (operand room top outer) t (Some (completes room top outer f))
completed k room top outer f t w h one =
    grind (
      arith,
      nat_tests,
      some_next k (operand room top outer) t (completes room top outer f)
          (subst (Reads k (completes room top outer f)) (rw one (sym (append_assoc (outer_lexemes outer) (bracket_lexemes top) (t ∷ []))))
          (completes_reads k room top outer f w h)),
    )

plain : (k : FormulaKind) (f : Formula) (room : ℕ) → IsGrouped f → IsOf k f → nesting f ≡ 0 → rank f ≡ 0 → Fits k room 0 f
plain k f room g o n r = record { grouped = g; of_kind = o; nested = omega arith; low = omega arith }

one_more : (n : ℕ) → bangs n ++ (bang ∷ []) ≡ bangs (suc n)
one_more zero = refl
one_more (suc n) = ap (λ (l : List Lexeme). bang ∷ l) (one_more n)

bang_next : (n room : ℕ) (top : Bracket) (outer : List Bracket) → Within (Label n) room top outer
    → Next (Label n) (operand room top outer) bang
    (deeper room (λ r. operand r (record { sum = top.sum; product = top.product; nots = suc top.nots }) outer))
bang_next n zero top outer w = none_next (Label n) (operand zero top outer) bang
bang_next n (suc room) top outer w = grind (arith, nat_tests, one_more top.nots, append_assoc)

paren_next : (k : FormulaKind) (room : ℕ) (top : Bracket) (outer : List Bracket) → Within k room top outer
    → Next k (operand room top outer) left_paren (deeper room (λ r. operand r fresh (top ∷ outer)))
paren_next k zero top outer w = none_next k (operand zero top outer) left_paren
paren_next k (suc room) top outer w = grind (arith, nat_tests, append-nil, append_assoc)

abbrev Words : FormulaKind → List ℕ → ℕ → Bracket → List Bracket → Option State → Type 0
Words k w room top outer found = Next k (operand room top outer) (identifier w) found

tested : (k : FormulaKind) (w name : List ℕ) (room : ℕ) (top : Bracket) (outer : List Bracket) (yes_state : State) (otherwise : Option State)
    → Words k name room top outer (Some yes_state) → Words k w room top outer otherwise
    → Words k w room top outer (cond (bytes_eq w name) (Some yes_state) otherwise)
tested k w name room top outer yes_state otherwise there else_there s2 e =
    grind (arith, nat_tests, chosen (bytes_eq w name) (some yes_state) otherwise (some s2) e, bytes_eq-Decides w name)

opened : (n : ℕ) (b : Bool) (w : List ℕ) (room : ℕ) (top : Bracket) (outer : List Bracket) → identifier w ≡ limit_word b
    → Within (Condition n) room top outer → Words (Condition n) w room top outer (Some (opening b room top outer))
opened n b w room top outer e h = grind (arith, nat_tests, append_assoc (outer_lexemes outer) (bracket_lexemes top) (limit_word b ∷ []))

word_next : (k : FormulaKind) (w : List ℕ) (room : ℕ) (top : Bracket) (outer : List Bracket) → Within k room top outer
    → Words k w room top outer (word_step k w room top outer)
word_next (Label n) w room top outer h =
    tested (Label n) w (codes "t") room top outer (completes room top outer yes) _
    (completed (Label n) room top outer yes (identifier (codes "t")) h (plain (Label n) yes room tt tt refl refl) refl)
    (tested (Label n) w (codes "f") room top outer (completes room top outer no) None
    (completed (Label n) room top outer no (identifier (codes "f")) h (plain (Label n) no room tt tt refl refl) refl)
    (none_next (Label n) (operand room top outer) (identifier w)))
word_next (Condition n) w room top outer h =
    grind (
      arith,
      nat_tests,
      tested (Condition n) w (codes "t") room top outer (completes room top outer yes) _
          (completed (Condition n) room top outer yes (identifier (codes "t")) h (plain (Condition n) yes room tt tt refl refl) refl)
          (tested (Condition n) w (codes "f") room top outer (completes room top outer no) _
          (completed (Condition n) room top outer no (identifier (codes "f")) h (plain (Condition n) no room tt tt refl refl) refl)
          (tested (Condition n) w (codes "Inf") room top outer (opening true room top outer) _
          (opened n true (codes "Inf") room top outer refl h) (tested (Condition n) w (codes "Fin") room top outer
          (opening false room top outer) None (opened n false (codes "Fin") room top outer refl h)
          (none_next (Condition n) (operand room top outer) (identifier w))))),
    )

-- a number that is below its bound
below_next : (k : FormulaKind) (s : State) (t : Lexeme) (a n : ℕ) (found : State) → (a < n → Next k s t (Some found))
    → Next k s t (cond (nat_lt a n) (Some found) None)
below_next k s t a n found below s2 e = grind (arith, nat_tests, chosen (nat_lt a n) (some found) None (some s2) e)

operand_next : (k : FormulaKind) (room : ℕ) (top : Bracket) (outer : List Bracket) (t : Lexeme) → Within k room top outer
    → Next k (operand room top outer) t (operand_step k room top outer t)
operand_next (Label n) room top outer bang h = bang_next n room top outer h
operand_next (Label n) room top outer (number a) h = below_next (Label n) (operand room top outer) (number a) a n
    (completes room top outer (proposition a)) (λ low. completed (Label n) room top outer (proposition a) (number a) h
    (plain (Label n) (proposition a) room tt low refl refl) refl)
operand_next k room top outer left_paren h = paren_next k room top outer h
operand_next k room top outer (identifier w) h = word_next k w room top outer h
operand_next (Label n) room top outer t h = none_next (Label n) (operand room top outer) t
operand_next (Condition n) room top outer t h = none_next (Condition n) (operand room top outer) t

opening_next : (k : FormulaKind) (b : Bool) (room : ℕ) (top : Bracket) (outer : List Bracket) (t : Lexeme) → Sound k (opening b room top outer)
    → Next k (opening b room top outer) t (opening_step b room top outer t)
opening_next k b room top outer left_paren h = some_next k (opening b room top outer) left_paren (naming b room top outer)
    (record { sound = h; is = simp append_assoc })
opening_next k b room top outer t h = none_next k (opening b room top outer) t

limited_lexemes : (b : Bool) (s : ℕ) → closing_lexemes (limited b s) ≡ limit_word b ∷ left_paren ∷ number s ∷ []
limited_lexemes true s = refl
limited_lexemes false s = refl

naming_next : (k : FormulaKind) (b : Bool) (room : ℕ) (top : Bracket) (outer : List Bracket) (t : Lexeme) → Sound k (naming b room top outer)
    → Next k (naming b room top outer) t (naming_step k b room top outer t)
naming_next (Condition n) b room top outer (number s) h = grind (arith, nat_tests, limited_lexemes b s, append_assoc)
naming_next (Condition n) b room top outer t h = none_next (Condition n) (naming b room top outer) t
naming_next (Label n) b room top outer t h = none_next (Label n) (naming b room top outer) t

limit_fits : (k : FormulaKind) (b : Bool) (s room : ℕ) → IsOf k (limited b s) → Fits k room 0 (limited b s)
limit_fits k true s room h = plain k (inf s) room tt h refl refl
limit_fits k false s room h = plain k (fin s) room tt h refl refl

limit_closed : (b : Bool) (s : ℕ) → formula_lexemes (limited b s) ≡ closing_lexemes (limited b s) ++ (right_paren ∷ [])
limit_closed true s = refl
limit_closed false s = refl

closing_next : (k : FormulaKind) (b : Bool) (s room : ℕ) (top : Bracket) (outer : List Bracket) (t : Lexeme) → Sound k (closing b s room top outer)
    → Next k (closing b s room top outer) t (closing_step b s room top outer t)
closing_next k b s room top outer right_paren h = grind (arith, nat_tests, limit_fits k b s room h.1, limit_closed b s, append_assoc)
closing_next k b s room top outer t h = none_next k (closing b s room top outer) t

bracket_fits : (k : FormulaKind) (room : ℕ) (f : Formula) → Fits k room 2 f → Fits k (suc room) 0 (bracket f)
bracket_fits (Label n) room f h =
    let deep = h.nested in record { grouped = h.grouped; of_kind = h.of_kind; nested = omega arith; low = omega arith }
bracket_fits (Condition n) room f h =
    let deep = h.nested in record { grouped = h.grouped; of_kind = h.of_kind; nested = omega arith; low = omega arith }

started : (k : FormulaKind) (room : ℕ) (sum product : Option Formula) (outer : List Bracket) → FitsIf k room 2 sum → FitsIf k room 1 product
    → OuterFits k room outer → Within k room (record { sum = sum; product = product; nots = 0 }) outer
started (Label n) room sum product outer s p o = let same : room ≡ room + 0 = omega arith in
    record {
      top_fits = subst (λ (r : ℕ). BracketFits (Label n) r (record { sum = sum; product = product; nots = 0 })) same
          (record { sum = s; product = p; nots = tt });
      outer_fit = subst (λ (r : ℕ). OuterFits (Label n) r outer) same o;
    }
started (Condition n) room sum product outer s p o = let same : room ≡ room + 0 = omega arith in
    record {
      top_fits = subst (λ (r : ℕ). BracketFits (Condition n) r (record { sum = sum; product = product; nots = 0 })) same
          (record { sum = s; product = p; nots = refl });
      outer_fit = subst (λ (r : ℕ). OuterFits (Condition n) r outer) same o;
    }

operator_next : (k : FormulaKind) (room : ℕ) (sum : Option Formula) (product : Formula) (outer : List Bracket) (t : Lexeme)
    → Sound k (operator room sum product outer) → Next k (operator room sum product outer) t (operator_step room sum product outer t)
operator_next k room sum product outer ampersand h =
    grind (arith, nat_tests, started k room sum (Some product) outer h.0 h.1 h.2, append-nil, append_assoc)
operator_next k room sum product outer bar h =
    grind (
      arith,
      nat_tests,
      started k room (Some (summed sum product)) None outer (summed_fits k room sum product h.0 h.1) tt h.2,
      summed_lexemes sum product,
      append-nil,
      append_assoc,
    )
operator_next k room sum product (top ∷ outer) right_paren h =
    let within : Within k (suc room) top outer = record { top_fits = h.2.0; outer_fit = h.2.1 } in
    some_next k (operator room sum product (top ∷ outer)) right_paren (completes (suc room) top outer (bracket (summed sum product)))
    (subst (Reads k (completes (suc room) top outer (bracket (summed sum product)))) (rw (summed_lexemes sum product) (simp append_assoc))
    (completes_reads k (suc room) top outer (bracket (summed sum product)) within
    (bracket_fits k room (summed sum product) (summed_fits k room sum product h.0 h.1))))
operator_next k room sum product [] right_paren h = none_next k (operator room sum product []) right_paren
operator_next k room sum product [] t h = none_next k (operator room sum product []) t
operator_next k room sum product (top ∷ outer) t h = none_next k (operator room sum product (top ∷ outer)) t

step_next : (k : FormulaKind) (s : State) (t : Lexeme) → Sound k s → Next k s t (step k s t)
step_next k (operand room top outer) t h = operand_next k room top outer t h
step_next k (opening b room top outer) t h = opening_next k b room top outer t h
step_next k (naming b room top outer) t h = naming_next k b room top outer t h
step_next k (closing b s room top outer) t h = closing_next k b s room top outer t h
step_next k (operator room sum product outer) t h = operator_next k room sum product outer t h

-- ---- the whole

-- these tokens are those of a formula, and others behind it
pub record Taken (k : FormulaKind) (tokens : List Lexeme) (found : Formula × List Lexeme) : Type 0 where
  pub written : IsWritten k found.0
  pub is : tokens ≡ formula_lexemes found.0 ++ found.1

finish_takes : (k : FormulaKind) (s : State) (rest : List Lexeme) (y : Formula × List Lexeme) → Sound k s → finish s rest ≡ Some y
    → Taken k (so_far s ++ rest) y
finish_takes k (operator room sum product []) rest y h e = grind (
  arith,
  nat_tests,
  summed_fits k room sum product h.0 h.1,
  some_is (summed sum product, rest) y e,
  summed_lexemes sum product,
)
finish_takes k (operator room sum product (top ∷ outer)) rest y h e = absurd (none_is_some y e)
finish_takes k _ rest y h e = absurd (none_is_some y e)

from_takes : (k : FormulaKind) (s : State) (tokens : List Lexeme) (y : Formula × List Lexeme) → Sound k s → formula_from k s tokens ≡ Some y
    → Taken k (so_far s ++ tokens) y
unfolding formula_from
from_takes k s [] y h e = finish_takes k s [] y h e
from_takes k s (t ∷ rest) y h e =
    elim (chosen (stops s t) (finish s (t ∷ rest)) (step k s t >>= λ s. formula_from k s rest) (some y) e) [
      | inl c ↦ finish_takes k s (t ∷ rest) y h c.1
      | inr c ↦
          let b = bind_some (step k s t) (λ s. formula_from k s rest) y c.1 in
          let r = step_next k s t h b.0 b.1 in
          subst (λ (ts : List Lexeme). Taken k ts y) (ap (λ (ts : List Lexeme). ts ++ rest) r.is ∙ append_assoc (so_far s) (t ∷ []) rest)
          (from_takes k b.0 rest y r.sound b.2)
    ]

pub formula_takes : (k : FormulaKind) (tokens : List Lexeme) (y : Formula × List Lexeme) → formula_at k tokens ≡ Some y → Taken k tokens y
unfolding formula_at
formula_takes k tokens y e = from_takes k (operand 8192 fresh []) tokens y (started k 8192 None None [] tt tt refl) e
