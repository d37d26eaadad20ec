-- What the functions that read compute: a mirror of them for proofs, whose laws are in proofs/.
use Rattle.std.specs.Prelude.{ℕ, suc, zero, ◌^◌, ◌==◌, ◌&&◌, Bool, true, false, List, [], ◌∷◌}
use Rattle.std.specs.Prelude.{drop, Option, Some, None, nat_lt, if◌then◌else◌}
use Rattle.std.specs.List.{prefix_len, take_while}
use Rattle.pg_list_lemmas.specs.Bytes.{is_digit, value_of}
use Rattle.pg_hoa_automaton.specs.Mirrors.Steps.{◌>>=◌}

-- ---- lines of numbers

-- the rest of the text after the end of a line
abbrev pub newline_at : List ℕ → Option (List ℕ)
newline_at [] = None
newline_at (b ∷ []) = if b == 10 then Some [] else None
newline_at (b ∷ c ∷ rest) =
    if b == 10 then Some (c ∷ rest)
    else (if b == 13 && c == 10 then Some rest
    else None)

-- what follows a number: whether its line ends, and the rest of the text
abbrev pub ended : ℕ → List ℕ → Option (ℕ × Bool × List ℕ)
ended n [] = None
ended n (b ∷ rest) = if b == 32 then Some (n, false, rest) else (newline_at (b ∷ rest) >>= λ after. Some (n, true, after))

unfoldable pub field_at : List ℕ → Option (ℕ × Bool × List ℕ)
field_at bytes =
    if prefix_len is_digit bytes == 0 then None
    else (if nat_lt (value_of (take_while is_digit bytes)) (2 ^ 32)
    then ended (value_of (take_while is_digit bytes)) (drop (prefix_len is_digit bytes) bytes)
    else None)

abbrev pub behind_field : (List ℕ → Option (List ℕ × List ℕ)) → ℕ × Bool × List ℕ → Option (List ℕ × List ℕ)
behind_field again (n, true, rest) = Some (n ∷ [], rest)
behind_field again (n, false, rest) = again rest >>= λ x. Some (n ∷ x.0, x.1)

-- a line of at most the given number of numbers
unfoldable pub line_at : ℕ → List ℕ → Option (List ℕ × List ℕ)
line_at zero bytes = None
line_at (suc n) bytes = field_at bytes >>= behind_field (line_at n)
