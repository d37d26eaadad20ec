-- What the functions that read sections compute: a mirror of them for proofs, whose laws are in proofs/.
use Rattle.std.specs.Prelude.{ℕ, suc, zero, ◌+◌, List, [], ◌∷◌, Option, Some}
use Rattle.pg_hoa_automaton.specs.Mirrors.Steps.{◌>>=◌}
use Rattle.pg_aiger.specs.declared.gate.Gate.{Gate}
use Rattle.pg_aiger_reader.specs.declared.header.Header.{Header}
use Rattle.pg_aiger_reader.specs.declared.item.AigerFormat.TheVariants.{Ascii}
use Rattle.pg_aiger_reader.specs.declared.item.LatchLine.{LatchLine}
use Rattle.pg_aiger_reader.specs.declared.sections.Sections as declared
use Rattle.pg_aiger_reader.specs.Mirrors.Items.{input_at, latch_at, gate_at}

-- the given number of items, one after another, each with its variable
unfoldable pub many_at : {A : Type 0} → (ℕ → List ℕ → Option (A × List ℕ)) → ℕ → ℕ → List ℕ → Option (List A × List ℕ)
many_at item zero variable bytes = Some ([], bytes)
many_at item (suc n) variable bytes =
    item variable bytes >>= λ x. many_at item n (suc variable) x.1 >>= λ xs. Some (x.0 ∷ xs.0, xs.1)

pub record Parts : Type 0 where
  pub inputs : List ℕ
  pub lines : List LatchLine
  pub outputs : List ℕ
  pub gates : List Gate

abbrev pub parts_of : List ℕ → List LatchLine → List ℕ → List Gate → Parts
parts_of inputs lines outputs gates = record { inputs = inputs; lines = lines; outputs = outputs; gates = gates }

abbrev pub sections_in : declared.Sections → Parts
sections_in s = parts_of s.inputs.items s.latches.items s.outputs.items s.gates.items

unfoldable pub sections_at : Header → List ℕ → Option (Parts × List ℕ)
sections_at header bytes =
    many_at (input_at header.form) header.inputs 1 bytes >>= λ i.
    many_at (latch_at header.form) header.latches (1 + header.inputs) i.1 >>= λ l.
    many_at (input_at Ascii) header.outputs 1 l.1 >>= λ o.
    many_at (gate_at header.form) header.gates (1 + header.inputs + header.latches) o.1 >>= λ g.
    Some (parts_of i.0 l.0 o.0 g.0, g.1)
