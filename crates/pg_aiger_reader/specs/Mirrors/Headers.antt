-- What the functions that read the first line compute: a mirror of them for proofs, whose laws are in proofs/.
use Rattle.std.specs.Prelude.{ℕ, ◌+◌, ◌≤◌, ◌==◌, ◌&&◌, ◌||◌, Bool, List, [], ◌∷◌, Option, Some, None, nat_lt, nat_le, if◌then◌else◌}
use Rattle.pg_hoa_automaton.specs.Mirrors.Steps.{◌>>=◌}
use Rattle.pg_aiger_reader.specs.declared.fault.Section.{Section}
use Rattle.pg_aiger_reader.specs.declared.fault.Section.TheVariants.{BadStates, Constraints, Justice, Fairness}
use Rattle.pg_aiger_reader.specs.declared.fault.ReaderFault.{ReaderFault}
use Rattle.pg_aiger_reader.specs.declared.fault.ReaderFault.TheVariants.{TooLarge, TooFewVariables, OtherVariables, LeftOut}
use Rattle.pg_aiger_reader.specs.declared.header.Header.{Header}
use Rattle.pg_aiger_reader.specs.declared.item.AigerFormat.{AigerFormat}
use Rattle.pg_aiger_reader.specs.declared.item.AigerFormat.TheVariants.{Ascii, Binary}
use Rattle.pg_aiger_reader.specs.Mirrors.Scan.{line_at}

-- `aag ` or `aig `
abbrev pub form_at : List ℕ → Option (AigerFormat × List ℕ)
form_at (a ∷ b ∷ c ∷ d ∷ rest) =
    if a == 97 && b == 97 && c == 103 && d == 32 then Some (Ascii, rest)
    else (if a == 97 && b == 105 && c == 103 && d == 32 then Some (Binary, rest)
    else None)
form_at bytes = None

abbrev pub left_out : List ℕ → Option Section
left_out [] = None
left_out (b ∷ []) = if b == 0 then None else Some BadStates
left_out (b ∷ c ∷ []) = if b == 0 then (if c == 0 then None else Some Constraints) else Some BadStates
left_out (b ∷ c ∷ j ∷ []) =
    if b == 0 then (if c == 0 then (if j == 0 then None else Some Justice) else Some Constraints) else Some BadStates
left_out (b ∷ c ∷ j ∷ f ∷ others) =
    if b == 0 then (if c == 0 then (if j == 0 then (if f == 0 then None else Some Fairness) else Some Justice) else Some Constraints) else Some BadStates

abbrev pub fits : AigerFormat → ℕ → ℕ → ℕ → ℕ → Bool
fits Ascii greatest inputs latches gates = nat_le (inputs + latches + gates) greatest
fits Binary greatest inputs latches gates = (inputs + latches + gates) == greatest

abbrev pub head : AigerFormat → ℕ → ℕ → ℕ → ℕ → ℕ → Header
head form greatest inputs latches outputs gates =
    record { form = form; greatest = greatest; inputs = inputs; latches = latches; outputs = outputs; gates = gates }

-- the header, if nothing is left out and it is within the limits
abbrev pub within : AigerFormat → ℕ → ℕ → ℕ → ℕ → ℕ → Option Section → Option Header
within form m i l o a (Some section) = None
within form m i l o a None =
    if nat_lt 16777216 m || nat_lt 16777216 o then None
    else (if fits form m i l a then Some (head form m i l o a) else None)

unfoldable pub header_of : AigerFormat → List ℕ → Option Header
header_of form (m ∷ i ∷ l ∷ o ∷ a ∷ more) = within form m i l o a (left_out more)
header_of form ns = None

unfoldable pub header_at : List ℕ → Option (Header × List ℕ)
header_at bytes = form_at bytes >>= λ x. line_at 9 x.1 >>= λ y. header_of x.0 y.0 >>= λ h. Some (h, y.1)

-- the fault of a header whose counts don't fit
abbrev pub misfit : AigerFormat → ReaderFault
misfit Ascii = TooFewVariables
misfit Binary = OtherVariables

-- the named fault of a header, if it has one
abbrev pub over : AigerFormat → ℕ → ℕ → ℕ → ℕ → ℕ → Option Section → Option ReaderFault
over form m i l o a (Some section) = Some (LeftOut section)
over form m i l o a None =
    if nat_lt 16777216 m || nat_lt 16777216 o then Some TooLarge
    else (if fits form m i l a then None else Some (misfit form))

unfoldable pub header_fault : AigerFormat → List ℕ → Option ReaderFault
header_fault form (m ∷ i ∷ l ∷ o ∷ a ∷ more) = over form m i l o a (left_out more)
header_fault form ns = None

unfoldable pub fault_at : List ℕ → Option ReaderFault
fault_at bytes = form_at bytes >>= λ x. line_at 9 x.1 >>= λ y. header_fault x.0 y.0

-- what the sections can rely on
pub record IsSmall (header : Header) : Type 0 where
  pub defined : header.inputs + header.latches + header.gates ≤ 16777216
  pub outputs : header.outputs ≤ 16777216
