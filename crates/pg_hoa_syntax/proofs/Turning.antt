-- Token by token through a formula.
use Rattle.pg_hoa_syntax.proofs.Common.{◌≡◌, ℕ, suc, zero, ◌+◌, ◌<◌, length, true, List, [], ◌∷◌, ◌++◌, Option, Some, None, refl, sym, ap}
use Rattle.pg_hoa_syntax.proofs.Common.{subst, inl, inr, arith, append_assoc, nat_tests, PartRefusal, Memory, Wrong, FormulaKind, Label, Condition, Op}
use Rattle.pg_hoa_syntax.proofs.Common.{Not, Mode, Operand, Opening, Naming, Operator, Lexeme, stray, first, ◌>>=◌, Fails, KeptReading, not_ops}
use Rattle.pg_hoa_syntax.proofs.Common.{mode_goes_on, goes_on_at, taken_at, mode_turn, operand_turn, operator_turn, opening_turn, naming_turn}
use Rattle.pg_hoa_syntax.proofs.Common.{closing_turn, turn_at, over_at, ops_from, chosen, some, some_is, none, none_is_some}
use Rattle.pg_hoa_syntax.specs.declared.formula.Bracket.{Bracket}

nots_more : (n : ℕ) → not_ops n ++ (Not ∷ []) ≡ not_ops (suc n)
nots_more zero = refl
nots_more (suc n) = ap (λ (l : List Op). Not ∷ l) (nots_more n)

pub not_more : (n : ℕ) (xs : List Op) → (xs ++ not_ops n) ++ (Not ∷ []) ≡ xs ++ not_ops (n + 1)
not_more n xs = let next : n + 1 ≡ suc n = omega arith in rw (next, ← nots_more n) (append_assoc xs (not_ops n) (Not ∷ []))

-- ---- the first token

pub first_end : (ts rest : List Lexeme) → first ts ≡ Some (None, rest) → (ts ≡ []) × (rest ≡ [])
first_end [] rest e = (refl, sym (ap (λ (p : Option Lexeme × List Lexeme). p.1) (some_is (None, []) (None, rest) e)))
first_end (stray ∷ ts) rest e = absurd cc
first_end (t ∷ ts) rest e =
    absurd (none_is_some t (sym (ap (λ (p : Option Lexeme × List Lexeme). p.0) (some_is (Some t, ts) (None, rest) e))))

pub first_token : (ts : List Lexeme) (t : Lexeme) (rest : List Lexeme) → first ts ≡ Some (Some t, rest) → ts ≡ t ∷ rest
first_token [] t rest e = absurd (none_is_some t (ap (λ (p : Option Lexeme × List Lexeme). p.0) (some_is (None, []) (Some t, rest) e)))
first_token (stray ∷ ts) t rest e = absurd cc
first_token (u ∷ ts) t rest e = grind (arith, nat_tests, some_is (Some u, ts) (Some t, rest) e)

-- ---- the loop

stray_goes : (mode : Mode) (outer : List Bracket) → mode_goes_on mode outer stray ≡ true
stray_goes Operand outer = refl
stray_goes Operator [] = refl
stray_goes Operator (f ∷ outer) = refl
stray_goes _ outer = refl

stray_turn : (k : FormulaKind) (r : KeptReading) (mode : Mode) → mode_turn k r mode stray ≡ None
unfolding operand_turn operator_turn opening_turn naming_turn closing_turn
stray_turn (Label n) r Operand = refl
stray_turn (Condition n) r Operand = refl
stray_turn k r (Opening b) = refl
stray_turn (Label n) r (Naming b) = refl
stray_turn (Condition n) r (Naming b) = refl
stray_turn k r _ = refl

pub first_none : (k : FormulaKind) (r : KeptReading) (ts : List Lexeme) → first ts ≡ None → ops_from k r ts ≡ None
unfolding ops_from goes_on_at turn_at
first_none k r [] e = absurd cc
first_none k r (stray ∷ ts) e = rw (stray_goes r.mode r.outer, stray_turn k r r.mode) refl
first_none k r (t ∷ ts) e = absurd cc

pub first_fails : (refusal : PartRefusal) (k : FormulaKind) (r : KeptReading) (ts : List Lexeme) → Fails refusal (first ts)
    → Fails refusal (ops_from k r ts)
first_fails Memory k r ts h = tt
first_fails (Wrong fault) k r ts h = first_none k r ts h

-- the token that is taken stands first, and may belong to the formula
record IsTaken (r : KeptReading) (ts : List Lexeme) (t : Lexeme) (after : List Lexeme) : Type 0 where
  stands : ts ≡ t ∷ after
  goes : goes_on_at r t ≡ true

is_taken : (r : KeptReading) (ts after : List Lexeme) (found : Option Lexeme) (t : Lexeme) → first ts ≡ Some (found, after)
    → taken_at r found ≡ Some t → IsTaken r ts t after
unfolding taken_at
is_taken r ts after None t f e = absurd (none_is_some t e)
is_taken r ts after (Some u) t f e =
    elim (chosen (goes_on_at r u) (some u) none (some t) e) [
      | inl c ↦
          let stands = first_token ts u after f in
          subst (λ (v : Lexeme). IsTaken r ts v after) (some_is u t c.1) (record { stands = stands; goes = c.0 })
      | inr c ↦ absurd (none_is_some t c.1)
    ]

pub turns : (k : FormulaKind) (r more : KeptReading) (ts after : List Lexeme) (found : Option Lexeme) (t : Lexeme) → first ts ≡ Some (found, after)
    → taken_at r found ≡ Some t → turn_at k r t ≡ Some more → ops_from k r ts ≡ ops_from k more after
unfolding ops_from
turns k r more ts after found t f e h = let i = is_taken r ts after found t f e in rw (i.stands, i.goes, h) refl

pub turn_fails : (refusal : PartRefusal) (k : FormulaKind) (r : KeptReading) (ts after : List Lexeme) (found : Option Lexeme) (t : Lexeme)
    → first ts ≡ Some (found, after) → taken_at r found ≡ Some t → Fails refusal (turn_at k r t) → Fails refusal (ops_from k r ts)
unfolding ops_from
turn_fails Memory k r ts after found t f e h = tt
turn_fails (Wrong fault) k r ts after found t f e h = let i = is_taken r ts after found t f e in rw (i.stands, i.goes, h) refl

pub taken_shorter : (r : KeptReading) (ts after : List Lexeme) (found : Option Lexeme) (t : Lexeme) → first ts ≡ Some (found, after)
    → taken_at r found ≡ Some t → length after < length ts
taken_shorter r ts after found t f e = let i = is_taken r ts after found t f e in omega (arith, ap length i.stands)

pub ends_there : (k : FormulaKind) (r : KeptReading) (ts after : List Lexeme) (found : Option Lexeme) → first ts ≡ Some (found, after)
    → taken_at r found ≡ None → ops_from k r ts ≡ (over_at r >>= λ ops. Some (ops, ts))
unfolding ops_from taken_at
ends_there k r ts after None f e = rw ((first_end ts after f).0) refl
ends_there k r ts after (Some t) f e =
    elim (chosen (goes_on_at r t) (some t) none none e) [
      | inl c ↦ absurd (none_is_some t (sym c.1))
      | inr c ↦ rw (first_token ts t after f, c.0) refl
    ]

pub over_fails : (refusal : PartRefusal) (r : KeptReading) (rest : List Lexeme) → Fails refusal (over_at r)
    → Fails {Y = List Op × List Lexeme} refusal (over_at r >>= λ ops. Some (ops, rest))
over_fails Memory r rest h = tt
over_fails (Wrong fault) r rest h = rw h refl
