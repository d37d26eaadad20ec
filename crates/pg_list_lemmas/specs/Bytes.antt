-- Runs of bytes, and the numbers that digits write.
use Rattle.std.specs.Prelude.{◌≡◌, ℕ, ◌+◌, ◌-◌, ◌*◌, Bool, true, false, ◌&&◌, nat_le, List, [], ◌∷◌}
use Rattle.std.specs.List.{fold, AllByRecursion}

-- '0' to '9'
abbrev pub is_digit : ℕ → Bool
is_digit b = nat_le 48 b && nat_le b 57

-- each byte passes the test
abbrev pub Each : (ℕ → Bool) → List ℕ → Type 0
Each test bytes = AllByRecursion (λ b. test b ≡ true) bytes

-- the first byte, if there is one, fails the test
abbrev pub Stops : (ℕ → Bool) → List ℕ → Type 0
Stops test [] = Unit {0}
Stops test (b ∷ bytes) = test b ≡ false

-- the number that decimal digits write
abbrev pub value_of : List ℕ → ℕ
value_of digits = fold (λ n b. 10 * n + (b - 48)) 0 digits
