-- What the reader computes: a mirror of it for proofs, whose laws are in proofs/.
use Rattle.std.specs.Prelude.{ℕ, suc, ◌+◌, ◌==◌, List, [], ◌∷◌, length, take, drop, Option, Some, None, codes, unwrap_or, if◌then◌else◌}
use Rattle.std.specs.Str.{bytes_eq}
use Rattle.pg_hoa_automaton.specs.Mirrors.Steps.{◌>>=◌}
use Rattle.pg_aiger.specs.declared.gate.Latch.{Latch}
use Rattle.pg_aiger_reader.specs.declared.item.LatchLine.{LatchLine}
use Rattle.pg_aiger_reader.specs.declared.reader.Parts as declared
use Rattle.pg_aiger.specs.Circuits.{Circuit}
use Rattle.pg_aiger.specs.CircuitText.{Symbol}
use Rattle.pg_aiger_reader.specs.Texts.{latch_in}
use Rattle.pg_aiger_reader.specs.Views.{circuit_in, symbols_in}
use Rattle.pg_aiger_reader.specs.declared.fault.ReaderFault.{ReaderFault}
use Rattle.pg_aiger_reader.specs.declared.fault.ReaderFault.TheVariants.{Reset}
use Rattle.pg_aiger_reader.specs.Mirrors.Scan.{newline_at}
use Rattle.pg_aiger_reader.specs.Mirrors.Steps.{first_named}
use Rattle.pg_aiger_reader.specs.Mirrors.Headers.{header_at, fault_at}
use Rattle.pg_aiger_reader.specs.Mirrors.Sections.{Parts, sections_at}
use Rattle.pg_aiger_reader.specs.Mirrors.Symbols.{symbols_at}

-- the rest of a text that begins with this line
unfoldable pub behind_line : List ℕ → List ℕ → Option (List ℕ)
behind_line line bytes = if bytes_eq (take (length line) bytes) line then newline_at (drop (length line) bytes) else None

abbrev pub behind_verdict : List ℕ → List ℕ
behind_verdict bytes =
    unwrap_or (behind_line (codes "REALIZABLE") bytes) (unwrap_or (behind_line (codes "UNREALIZABLE") bytes) bytes)

unfoldable pub latches_at : List LatchLine → Option (List Latch)
latches_at [] = Some []
latches_at (l ∷ ls) = if l.reset == 0 then (latches_at ls >>= λ xs. Some (latch_in l ∷ xs)) else None

-- the first latch that doesn't start at 0, counted from this place
unfoldable pub reset_fault : ℕ → List LatchLine → Option ReaderFault
reset_fault place [] = None
reset_fault place (l ∷ lines) = if l.reset == 0 then reset_fault (suc place) lines else Some (Reset place)

abbrev pub circuit_of : ℕ → Parts → List Latch → Circuit
circuit_of greatest parts latches =
    record { greatest = greatest; inputs = parts.inputs; latches = latches; outputs = parts.outputs; gates = parts.gates }

abbrev pub parts_in : declared.Parts → Circuit × List Symbol
parts_in parts = (circuit_in parts, symbols_in parts)

unfoldable pub text_at : List ℕ → Option (Circuit × List Symbol)
text_at bytes =
    header_at (behind_verdict bytes) >>= λ h.
    sections_at h.0 h.1 >>= λ s.
    latches_at s.0.lines >>= λ latches.
    symbols_at h.0 (length s.1 + 1) s.1 >>= λ symbols.
    Some (circuit_of h.0.greatest s.0 latches, symbols)

-- the named fault of a text, if it has one
unfoldable pub text_fault : List ℕ → Option ReaderFault
text_fault bytes =
    first_named (fault_at (behind_verdict bytes))
    (header_at (behind_verdict bytes) >>= λ h. sections_at h.0 h.1 >>= λ s. reset_fault 0 s.0.lines)
