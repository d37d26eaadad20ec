use Rattle.pg_aiger_reader.proofs.Common.{◌≡◌, ◌-◌, ◌+◌, length, map, symbols_at}
use Rattle.pg_aiger_reader.proofs.Symbols.{with_symbols}
use Rattle.pg_aiger_reader.specs.Views.{symbol_in}
use Rattle.pg_aiger_reader.proofs.symbol.symbols.Given as goal

abbrev pub invariant-loop : goal.invariant-loop
invariant-loop l =
    with_symbols (map symbol_in l.symbols.items) (symbols_at l.header (length l.bytes + 1 - l.counter) l.rest)
    ≡ symbols_at l.header (length l.bytes + 1) l.bytes
