use Rattle.pg_aiger_reader.proofs.Common.{map}
use Rattle.pg_aiger_reader.specs.Views.{kind_in, symbol_in}
use Rattle.pg_aiger_reader.proofs.ties.side.Goals as goal

pub returns-then-by_place : goal.returns-then-by_place
returns-then-by_place c = rw c.if-by_place.true (c.in_order.ensures (kind_in c.args.kind) (map symbol_in c.args.symbols.now))
