-- Steps that may fail, and what a function that makes them returns: helpers of proofs.
use Rattle.std.specs.Prelude.{◌≡◌, ℕ, suc, zero, List, [], ◌∷◌, length, Result, Ok, Err}
use Rattle.pg_text.specs.declared.tokens.TokenFault.{TokenFault}
use Rattle.pg_text.specs.declared.tokens.TokenFault.TheVariants.{Syntax}
use Rattle.pg_text.specs.declared.reading.Refusal.{Refusal}
use Rattle.pg_text.specs.declared.reading.Refusal.TheVariants.{Memory, Token}
use Rattle.pg_text.specs.Lexemes.{after_space}

-- what a reader of a part gives: the part, or the fault of the first token that doesn't fit
abbrev pub Read : Type 0 → Type 0
Read A = Result A TokenFault

infixl 10 ◌>>=◌
abbrev pub ◌>>=◌ : {A B : Type 0} → Read A → (A → Read B) → Read B
(Err e) >>= f = Err e
(Ok x) >>= f = f x

-- another token must come next
abbrev pub unexpected : List ℕ → TokenFault
unexpected bytes = Syntax (length (after_space bytes))

-- What a function returned, seen by view, is what reading gives.
abbrev pub Reads : {X Y : Type 0} → (X → Y) → Read X → Read Y → Type 0
Reads view (Ok x) read = read ≡ Ok (view x)
Reads view (Err e) read = read ≡ Err e

-- Reading fails as a function refuses, unless memory ran out.
abbrev pub Fails : {Y : Type 0} → Refusal → Read Y → Type 0
Fails Memory read = Unit {0}
Fails (Token e) read = read ≡ Err e

-- What a function returned, seen by view, is what reading gives, unless memory ran out.
abbrev pub Gives : {X Y : Type 0} → (X → Y) → Result X Refusal → Read Y → Type 0
Gives view (Ok x) read = read ≡ Ok (view x)
Gives view (Err e) read = Fails e read

-- the next part of a list of items: one of them, or what ends the list
pub data Step (A E : Type 0) : Type 0 where
  item : A → Step A E
  stop : E → Step A E

abbrev pub after_step : {A E : Type 0} → (List ℕ → Read (List A × E × List ℕ)) → Step A E × List ℕ
    → Read (List A × E × List ℕ)
after_step again (item x, rest) = again rest >>= λ others. Ok (x ∷ others.0, others.1, others.2)
after_step again (stop e, rest) = Ok ([], e, rest)

unfoldable pub items_within : {A E : Type 0} → (List ℕ → Read (Step A E × List ℕ)) → ℕ → List ℕ
    → Read (List A × E × List ℕ)
items_within step zero bytes = Err (Syntax 0)
items_within step (suc n) bytes = step bytes >>= after_step (items_within step n)

-- items one after another, up to what ends them; each item takes at least one byte
unfoldable pub items_at : {A E : Type 0} → (List ℕ → Read (Step A E × List ℕ)) → List ℕ → Read (List A × E × List ℕ)
items_at step bytes = items_within step (suc (length bytes)) bytes
