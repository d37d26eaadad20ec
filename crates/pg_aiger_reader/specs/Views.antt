-- The values that are read, apart from where they are in memory.
use Rattle.std.specs.Prelude.{ℕ, List, map}
use Rattle.pg_aiger_reader.specs.declared.reader.Parts.{Parts}
use Rattle.pg_aiger_reader.specs.declared.symbol.SymbolKind as declared
use Rattle.pg_aiger_reader.specs.declared.symbol.SymbolKind.TheVariants as kinds
use Rattle.pg_aiger_reader.specs.declared.symbol.Symbol as symbols
use Rattle.pg_aiger.specs.Circuits.{Circuit}
use Rattle.pg_aiger.specs.CircuitText.{Kind, input, latch, output, Symbol}

abbrev pub kind_in : declared.SymbolKind → Kind
kind_in kinds.Input = input
kind_in kinds.Latch = latch
kind_in kinds.Output = output

abbrev pub symbol_of : Kind → ℕ → List ℕ → Symbol
symbol_of kind position name = record { kind = kind; position = position; name = name }

abbrev pub symbol_in : symbols.Symbol → Symbol
symbol_in s = symbol_of (kind_in s.kind) s.position s.name.now

abbrev pub circuit_in : Parts → Circuit
circuit_in parts = record {
  greatest = parts.greatest;
  inputs = parts.inputs.items;
  latches = parts.latches.items;
  outputs = parts.outputs.items;
  gates = parts.gates.items;
}

abbrev pub symbols_in : Parts → List Symbol
symbols_in parts = map symbol_in parts.symbols.items
