-- Tokens one after another.
use Rattle.pg_text.proofs.Common.{◌≡◌, ℕ, zero, suc, ◌≤◌, ◌<◌, List, [], ◌∷◌, ◌++◌, length, Ok, refl, sym, ap, subst, ◌∙◌, arith, nat_tests}
use Rattle.pg_text.proofs.Common.{flat_map, AllByRecursion, length-append, Lexeme, number, word, semicolon, comma, quoted, end, Begins}
use Rattle.pg_text.proofs.Common.{Spells, IsSpelt, Read, Step, item, stop, after_step, items_within, items_at}
use Rattle.pg_text.proofs.Steps.{bind_ok, ok_is}
use Rattle.pg_text.proofs.Items.{Shrinks, items_end, items_more}

pub spells_append : (xs ys : List Lexeme) (bytes mid rest : List ℕ) → Spells bytes xs mid → Spells mid ys rest → Spells bytes (xs ++ ys) rest
spells_append [] ys bytes mid rest p q = subst (λ (b : List ℕ). Spells b ys rest) (sym p) q
spells_append (x ∷ xs) ys bytes mid rest p q = (p.0, p.1, spells_append xs ys (p.0) mid rest (p.2) q)

pub spells_parts : (xs ys : List Lexeme) (bytes rest : List ℕ) → Spells bytes (xs ++ ys) rest → (mid : List ℕ) × Spells bytes xs mid × Spells mid ys rest
spells_parts [] ys bytes rest p = (bytes, refl, p)
spells_parts (x ∷ xs) ys bytes rest p = grind (arith, nat_tests, spells_parts xs ys (p.0) rest (p.2))

pub begins_within : (bytes : List ℕ) (token : Lexeme) (rest : List ℕ) → Begins bytes token rest → length rest ≤ length bytes
begins_within bytes token rest b = omega (arith, ap length (b.parts), length-append (b.gap) (b.text ++ rest), length-append (b.text) rest)

spelt_long : (token : Lexeme) (text rest : List ℕ) → (token ≡ end → ⊥) → IsSpelt token text rest → 0 < length text
spelt_long (number n) [] rest h s = absurd (s.0 refl)
spelt_long (number n) (b ∷ text) rest h s = omega arith
spelt_long (word w) [] rest h s = absurd (s.0 refl)
spelt_long (word w) (b ∷ text) rest h s = omega arith
spelt_long semicolon text rest h s = omega (arith, ap length s)
spelt_long comma text rest h s = omega (arith, ap length s)
spelt_long (quoted q) text rest h s = omega (arith, ap length (s.1))
spelt_long end text rest h s = absurd (h refl)

pub begins_shorter : (bytes : List ℕ) (token : Lexeme) (rest : List ℕ) → (token ≡ end → ⊥) → Begins bytes token rest → length rest < length bytes
begins_shorter bytes token rest h b = grind (
  arith,
  nat_tests,
  spelt_long token (b.text) rest h (b.spelt),
  length-append (b.gap) (b.text ++ rest),
  length-append (b.text) rest,
)

pub spells_within : (tokens : List Lexeme) (bytes rest : List ℕ) → Spells bytes tokens rest → length rest ≤ length bytes
spells_within [] bytes rest p = omega (arith, ap length p)
spells_within (t ∷ ts) bytes rest p = omega (arith, begins_within bytes t (p.0) (p.1), spells_within ts (p.0) rest (p.2))

-- a step whose items are spelt by their tokens
pub record IsExact {A E : Type 0} (step : List ℕ → Read (Step A E × List ℕ)) (lexemes : A → List Lexeme) (P : A → Type 0) : Type 0 where
  pub takes : (bytes : List ℕ) (x : A) (rest : List ℕ) → step bytes ≡ Ok (item x, rest) → Spells bytes (lexemes x) rest × P x
  pub again : (bytes : List ℕ) (x : A) (rest : List ℕ) → P x → Spells bytes (lexemes x) rest → step bytes ≡ Ok (item x, rest)

abbrev Taken : {A E : Type 0} → (List ℕ → Read (Step A E × List ℕ)) → (A → List Lexeme) → (A → Type 0) → List ℕ → List A × E × List ℕ → Type 0
Taken step lexemes P bytes y = (mid : List ℕ) × Spells bytes (flat_map lexemes (y.0)) mid × (step mid ≡ Ok (stop (y.1), y.2)) × AllByRecursion P (y.0)

within_take : {A E : Type 0} (step : List ℕ → Read (Step A E × List ℕ)) (lexemes : A → List Lexeme) (P : A → Type 0)
    → IsExact step lexemes P → (n : ℕ) (bytes : List ℕ) (y : List A × E × List ℕ) → items_within step n bytes ≡ Ok y
    → Taken step lexemes P bytes y
unfolding items_within
within_take step lexemes P exact zero bytes y e = absurd cc
within_take {A} {E} step lexemes P exact (suc n) bytes y e =
    let b = bind_ok (step bytes) (after_step (items_within step n)) y e in
    let go : (o : Step A E) (rest : List ℕ) → step bytes ≡ Ok (o, rest) → after_step (items_within step n) (o, rest) ≡ Ok y → Taken step lexemes P bytes y
    = λ o rest. elim o as (λ o. step bytes ≡ Ok (o, rest) → after_step (items_within step n) (o, rest) ≡ Ok y → Taken step lexemes P bytes y) [
      | stop z ↦ λ h k. subst (Taken step lexemes P bytes) (ok_is ([], z, rest) y k) (bytes, refl, h, tt)
      | item x ↦ λ h k.
          let c = bind_ok (items_within step n rest) (λ others. Ok (x ∷ others.0, others.1, others.2)) y k in
          let first = exact.takes bytes x rest h in
          let later = within_take step lexemes P exact n rest (c.0) (c.1) in
          subst (Taken step lexemes P bytes) (ok_is (x ∷ c.0.0, c.0.1, c.0.2) y (c.2))
          (later.0, spells_append (lexemes x) (flat_map lexemes (c.0.0)) bytes rest (later.0) (first.0) (later.1), later.2, (first.1, later.3))
    ] in
    go (b.0.0) (b.0.1) (b.1) (b.2)

pub items_take : {A E : Type 0} (step : List ℕ → Read (Step A E × List ℕ)) (lexemes : A → List Lexeme) (P : A → Type 0)
    → IsExact step lexemes P → (bytes : List ℕ) (y : List A × E × List ℕ) → items_at step bytes ≡ Ok y
    → (mid : List ℕ) × Spells bytes (flat_map lexemes (y.0)) mid × (step mid ≡ Ok (stop (y.1), y.2)) × AllByRecursion P (y.0)
unfolding items_at
items_take step lexemes P exact bytes y e = within_take step lexemes P exact (suc (length bytes)) bytes y e

pub items_again : {A E : Type 0} (step : List ℕ → Read (Step A E × List ℕ)) (lexemes : A → List Lexeme) (P : A → Type 0)
    → IsExact step lexemes P → Shrinks step → (items : List A) (bytes mid : List ℕ) (z : E) (rest : List ℕ) → AllByRecursion P items
    → Spells bytes (flat_map lexemes items) mid → step mid ≡ Ok (stop z, rest) → items_at step bytes ≡ Ok (items, z, rest)
items_again step lexemes P exact shrinks [] bytes mid z rest each s e = items_end step bytes z rest (ap step s ∙ e)
items_again step lexemes P exact shrinks (x ∷ items) bytes mid z rest each s e =
    let parts = spells_parts (lexemes x) (flat_map lexemes items) bytes mid s in
    let first = exact.again bytes x (parts.0) (each.0) (parts.1) in
    let later = items_again step lexemes P exact shrinks items (parts.0) mid z rest (each.1) (parts.2) e in
    items_more step shrinks bytes x (parts.0) first ∙ rw later refl
