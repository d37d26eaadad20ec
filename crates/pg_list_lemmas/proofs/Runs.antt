-- The longest run of bytes at the front that pass a test.
use Rattle.std.proofs.Common.{◌≡◌, ℕ, suc, ◌+◌, ◌-◌, ◌*◌, ◌≤◌, Bool, true, false, List, [], ◌∷◌, ◌++◌, length, drop, refl, sym, ap, inl, inr, arith}
use Rattle.std.specs.List.{fold, prefix_len, take_while}
use Rattle.std.proofs.lemmas.Bool.{cases_Bool}
use Rattle.std.proofs.lemmas.List.{take_at, drop_at, take-append-drop}
use Rattle.std.proofs.lemmas.List.Sums.{prefix_len-le-length}
use Rattle.pg_list_lemmas.specs.Bytes.{Each, Stops}

pub run_within : (test : ℕ → Bool) (bytes : List ℕ) → prefix_len test bytes ≤ length bytes
run_within test bytes = prefix_len-le-length test bytes

pub one_more : (test : ℕ → Bool) (b : ℕ) (bytes : List ℕ) → test b ≡ true → prefix_len test (b ∷ bytes) ≡ suc (prefix_len test bytes)
one_more test b bytes holds = rw holds (omega arith)

pub none_more : (test : ℕ → Bool) (b : ℕ) (bytes : List ℕ) → test b ≡ false → prefix_len test (b ∷ bytes) ≡ 0
none_more test b bytes fails = rw fails refl

pub run_first : (test : ℕ → Bool) (b : ℕ) (bytes : List ℕ) → test b ≡ true → take_while test (b ∷ bytes) ≡ b ∷ take_while test bytes
run_first test b bytes holds = rw (one_more test b bytes holds) refl

pub run_some : (test : ℕ → Bool) (bytes : List ℕ) → (prefix_len test bytes ≡ 0 → ⊥) → take_while test bytes ≡ [] → ⊥
run_some test [] more none = more refl
run_some test (b ∷ bytes) more none =
    elim (cases_Bool (test b)) [
      | inl holds ↦ let first = run_first test b bytes holds in absurd cc
      | inr fails ↦ more (none_more test b bytes fails)
    ]

pub run_each : (test : ℕ → Bool) (bytes : List ℕ) → Each test (take_while test bytes)
run_each test [] = tt
run_each test (b ∷ bytes) =
    elim (test b) as (λ v. test b ≡ v → Each test (take_while test (b ∷ bytes))) [
      | true ↦ λ holds. rw (one_more test b bytes holds) (holds, run_each test bytes)
      | false ↦ λ fails. rw (none_more test b bytes fails) tt
    ] refl

pub run_stops : (test : ℕ → Bool) (bytes : List ℕ) → Stops test (drop (prefix_len test bytes) bytes)
run_stops test [] = tt
run_stops test (b ∷ bytes) =
    elim (test b) as (λ v. test b ≡ v → Stops test (drop (prefix_len test (b ∷ bytes)) (b ∷ bytes))) [
      | true ↦ λ holds. rw (one_more test b bytes holds) (run_stops test bytes)
      | false ↦ λ fails. rw (none_more test b bytes fails) fails
    ] refl

pub run_parts : (test : ℕ → Bool) (bytes : List ℕ) → bytes ≡ take_while test bytes ++ drop (prefix_len test bytes) bytes
run_parts test bytes = sym (take-append-drop (prefix_len test bytes) bytes)

-- a run and what stops it fix its length
pub run_is : (test : ℕ → Bool) (text rest : List ℕ) → Each test text → Stops test rest → prefix_len test (text ++ rest) ≡ length text
run_is test [] [] each stops = refl
run_is test [] (b ∷ rest) each stops = none_more test b rest stops
run_is test (b ∷ text) rest each stops = rw (one_more test b (text ++ rest) each.0) (ap suc (run_is test text rest each.1 stops))

pub run_again : (test : ℕ → Bool) (text rest : List ℕ) → Each test text → Stops test rest → take_while test (text ++ rest) ≡ text
run_again test text rest each stops = rw (run_is test text rest each stops) (take_at text rest (length text) refl)

pub rest_again : (test : ℕ → Bool) (text rest : List ℕ) → Each test text → Stops test rest → drop (prefix_len test (text ++ rest)) (text ++ rest) ≡ rest
rest_again test text rest each stops = rw (run_is test text rest each stops) (drop_at text rest (length text) refl)

-- ---- digits

-- the value of digits behind others of value n
abbrev pub value_from : ℕ → List ℕ → ℕ
value_from n digits = fold (λ n b. 10 * n + (b - 48)) n digits

pub value_grows : (n : ℕ) (digits : List ℕ) → n ≤ value_from n digits
value_grows n [] = omega arith
value_grows n (b ∷ digits) = let more : 10 * n + (b - 48) ≤ value_from (10 * n + (b - 48)) digits = value_grows (10 * n + (b - 48)) digits in omega arith
