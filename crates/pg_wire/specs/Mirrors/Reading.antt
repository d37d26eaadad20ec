-- The private readers: a field is read from the start of the bytes that are left.
use Rattle.std.specs.Prelude.{◌≡◌, ℕ, zero, suc, ◌%◌, ◌^◌, List, [], ◌∷◌, length, take, drop, Bool, Option, Some, None, Result, Ok}
use Rattle.std.specs.Prelude.{Err, nat_lt, nat_le, ◌==◌, ◌&&◌, ◌||◌, if◌then◌else◌}
use Rattle.std.specs.Int.{w32, from_be_bytes}
use Rattle.pg_wire.specs.declared.fault.FieldFault.{FieldFault}
use Rattle.pg_wire.specs.declared.fault.FieldFault.TheVariants.{At, Version}
use Rattle.pg_wire.specs.declared.fault.ReadFault.{ReadFault}
use Rattle.pg_wire.specs.declared.fault.ReadFault.TheVariants as faults

infixl 10 ◌>>=◌
abbrev pub ◌>>=◌ : {A B : Type 0} → Result A FieldFault → (A → Result B FieldFault) → Result B FieldFault
(Ok x) >>= f = f x
(Err e) >>= f = Err e

-- the function returned what the reader gives
abbrev pub Yields : {X Y : Type 0} → (X → Y) → Result X FieldFault → Result Y FieldFault → Type 0
Yields view (Ok x) read = read ≡ Ok (view x)
Yields view (Err e) read = read ≡ Err e

-- the function returned what the reader gives, or memory ran out
abbrev pub Fails : {Y : Type 0} → ReadFault → Result Y FieldFault → Type 0
Fails faults.Memory read = Unit {0}
Fails (faults.Field f) read = read ≡ Err f

abbrev pub Gives : {X Y : Type 0} → (X → Y) → Result X ReadFault → Result Y FieldFault → Type 0
Gives view (Ok x) read = read ≡ Ok (view x)
Gives view (Err e) read = Fails e read

-- a reader gives a value and the bytes after it
abbrev pub Reader : Type 0 → Type 0
Reader A = List ℕ → Result (A × List ℕ) FieldFault

-- ---- from readers to readers

abbrev pub both : {A B : Type 0} → Reader A → (A → Reader B) → Reader (A × B)
both first second bytes = first bytes >>= λ a. second a.0 a.1 >>= λ b. Ok ((a.0, b.0), b.1)

abbrev pub made : {A B : Type 0} → (A → B) → Reader A → Reader B
made make read bytes = read bytes >>= λ a. Ok (make a.0, a.1)

-- the bytes after the value that is read
abbrev pub skipped : {A : Type 0} → Reader A → List ℕ → Result (List ℕ) FieldFault
skipped read bytes = read bytes >>= λ x. Ok x.1

-- each item has a place, which the item before it sets
unfoldable pub items_at : {A : Type 0} → (ℕ → Reader A) → (A → ℕ) → ℕ → ℕ → Reader (List A)
items_at item next zero at bytes = Ok ([], bytes)
items_at item next (suc n) at bytes = item at bytes >>= λ x. items_at item next n (next x.0) x.1 >>= λ xs. Ok (x.0 ∷ xs.0, xs.1)

-- ---- numbers and bytes

abbrev pub number_at : Reader ℕ
number_at bytes = if nat_lt (length bytes) 4 then Err (At (length bytes)) else Ok (from_be_bytes w32 (take 4 bytes), drop 4 bytes)

-- a number from low on, below high
unfoldable pub within_at : ℕ → ℕ → Reader ℕ
within_at low high bytes = number_at bytes >>= λ n. if nat_le low n.0 && nat_lt n.0 high then Ok n else Err (At (length bytes))

-- an odd number below high
unfoldable pub odd_at : ℕ → Reader ℕ
odd_at high bytes = within_at 1 high bytes >>= λ p. if p.0 % 2 == 1 then Ok p else Err (At (length bytes))

-- a byte below high
unfoldable pub byte_at : ℕ → Reader ℕ
byte_at high [] = Err (At 0)
byte_at high (b ∷ rest) = if nat_lt b high then Ok (b, rest) else Err (At (suc (length rest)))

unfoldable pub version_at : Reader ℕ
version_at [] = Err (At 0)
version_at (b ∷ rest) = if nat_le 1 b && nat_lt b 3 then Ok (b, rest) else Err Version

-- a code that fits the status
abbrev pub is_code : ℕ → ℕ → Bool
is_code status code = if nat_lt status 2 then code == 0 else (nat_le 1 code && nat_lt code 5) || (nat_le 11 code && nat_lt code 19)

unfoldable pub code_at : ℕ → Reader ℕ
code_at status bytes = byte_at 19 bytes >>= λ c. if is_code status c.0 then Ok c else Err (At (length bytes))

-- ---- lists

-- the number of items, from least on and below high, and then each item
unfoldable pub counted_at : {A : Type 0} → (ℕ → Reader A) → (A → ℕ) → ℕ → ℕ → ℕ → Reader (List A)
counted_at item next least high at bytes = within_at least high bytes >>= λ n. items_at item next n.0 at n.1

-- a vertex, at least `low`, and a tag, and a value if the tag is 0
unfoldable pub headed_at : {A : Type 0} → ℕ → Reader A → Reader (ℕ × Option A)
headed_at low read bytes = both (within_at low (2 ^ 32)) (λ _. byte_at 2) bytes
    >>= λ h. if h.0.1 == 0 then made (λ x. (h.0.0, Some x)) read h.1 else Ok ((h.0.0, None), h.1)

-- there is a byte
abbrev pub HasBytes : List ℕ → Type 0
HasBytes [] = ⊥
HasBytes (b ∷ bytes) = Unit {0}
