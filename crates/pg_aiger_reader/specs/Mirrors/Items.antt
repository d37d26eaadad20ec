-- What the functions that read inputs, outputs, latches and gates compute: a mirror of them for proofs, whose laws are in proofs/.
use Rattle.std.specs.Prelude.{ℕ, suc, zero, ◌+◌, ◌*◌, ◌-◌, ◌^◌, ◌==◌, ◌||◌, List, [], ◌∷◌, Option, Some, None, nat_lt, if◌then◌else◌}
use Rattle.pg_hoa_automaton.specs.Mirrors.Steps.{◌>>=◌}
use Rattle.pg_aiger.specs.declared.gate.Gate.{Gate}
use Rattle.pg_aiger_reader.specs.declared.item.AigerFormat.{AigerFormat}
use Rattle.pg_aiger_reader.specs.declared.item.AigerFormat.TheVariants.{Ascii, Binary}
use Rattle.pg_aiger_reader.specs.declared.item.LatchLine.{LatchLine}
use Rattle.pg_aiger_reader.specs.Mirrors.Scan.{line_at}

-- the only number of a line
abbrev pub only_number : List ℕ × List ℕ → Option (ℕ × List ℕ)
only_number (n ∷ [], rest) = Some (n, rest)
only_number _ = None

unfoldable pub literal_at : List ℕ → Option (ℕ × List ℕ)
literal_at bytes = line_at 1 bytes >>= only_number

unfoldable pub input_at : AigerFormat → ℕ → List ℕ → Option (ℕ × List ℕ)
input_at Ascii variable bytes = literal_at bytes
input_at Binary variable bytes = Some (2 * variable, bytes)

abbrev pub latch_line : ℕ → ℕ → ℕ → LatchLine
latch_line literal next reset = record { literal = literal; next = next; reset = reset }

abbrev pub latch_of : AigerFormat → ℕ → List ℕ → Option LatchLine
latch_of Ascii variable (l ∷ n ∷ []) = Some (latch_line l n 0)
latch_of Ascii variable (l ∷ n ∷ r ∷ []) = Some (latch_line l n r)
latch_of Binary variable (n ∷ []) = Some (latch_line (2 * variable) n 0)
latch_of Binary variable (n ∷ r ∷ []) = Some (latch_line (2 * variable) n r)
latch_of form variable ns = None

unfoldable pub latch_at : AigerFormat → ℕ → List ℕ → Option (LatchLine × List ℕ)
latch_at form variable bytes = line_at 3 bytes >>= λ x. latch_of form variable x.0 >>= λ l. Some (l, x.1)

abbrev pub gate_of : ℕ → ℕ → ℕ → Gate
gate_of lhs rhs0 rhs1 = record { lhs = lhs; rhs0 = rhs0; rhs1 = rhs1 }

abbrev pub three_numbers : List ℕ × List ℕ → Option (Gate × List ℕ)
three_numbers (a ∷ b ∷ c ∷ [], rest) = Some (gate_of a b c, rest)
three_numbers _ = None

unfoldable pub ascii_gate_at : List ℕ → Option (Gate × List ℕ)
ascii_gate_at bytes = line_at 3 bytes >>= three_numbers

-- the number in at most the given number of groups
unfoldable pub groups_at : ℕ → List ℕ → Option (ℕ × List ℕ)
groups_at zero bytes = None
groups_at (suc n) [] = None
groups_at (suc n) (b ∷ bytes) =
    if nat_lt b 128 then Some (b, bytes)
    else (groups_at n bytes >>= λ x. if nat_lt (b - 128 + 128 * x.0) (2 ^ 32) then Some (b - 128 + 128 * x.0, x.1) else None)

unfoldable pub binary_gate_at : ℕ → List ℕ → Option (Gate × List ℕ)
binary_gate_at variable bytes =
    groups_at 5 bytes >>= λ x.
    if x.0 == 0 || nat_lt (2 * variable) x.0 then None
    else (groups_at 5 x.1 >>= λ y.
    if nat_lt (2 * variable - x.0) y.0 then None
    else Some (gate_of (2 * variable) (2 * variable - x.0) (2 * variable - x.0 - y.0), y.1))

unfoldable pub gate_at : AigerFormat → ℕ → List ℕ → Option (Gate × List ℕ)
gate_at Ascii variable bytes = ascii_gate_at bytes
gate_at Binary variable bytes = binary_gate_at variable bytes
