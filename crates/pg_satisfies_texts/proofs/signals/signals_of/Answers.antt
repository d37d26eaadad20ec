use Rattle.std.proofs.Common.{◌<◌, ap, arith, length, map, subst, take_all, List}
use Rattle.pg_aiger.specs.CircuitText.{Symbol}
use Rattle.pg_aiger_reader.specs.Views.{symbol_in, circuit_in}
use Rattle.pg_satisfies_texts.specs.Mirrors.Signals.{AreKept}
use Rattle.pg_satisfies_texts.proofs.Meant.{texts}
use Rattle.pg_satisfies_texts.proofs.Tables.{kept_none, kept_more}
use Rattle.pg_satisfies_texts.proofs.signals.signals_of.Goals as goal

pub loop-symbol-init : goal.loop-symbol-init
loop-symbol-init c = kept_none (circuit_in c.args.parts.now) (texts c.args.names.now) c.in_ok-table.table c.in_ok-table.ensures

pub loop-symbol-preserved : goal.loop-symbol-preserved
loop-symbol-preserved c =
    let symbols = c.args.parts.now.symbols.items in
    let items = c.deref-symbol-items.ensures in
    let within : c.loop-symbol.symbol-index < length symbols = omega (arith, c.loop-symbol-test.true, ap length items.value) in
    kept_more (circuit_in c.args.parts.now) symbols c.loop-symbol.symbol-index _ (texts c.args.names.now) c.loop-symbol.table c.note.new.table within
    (rw items.value at c.note.ensures) c.loop-symbol.invariant

pub returns : goal.returns
returns c =
    let items = c.deref-symbol-items.ensures in
    subst (λ (ss : List Symbol). AreKept (circuit_in c.args.parts.now) ss (texts c.args.names.now) c.loop-symbol.table)
    (ap (map symbol_in) (take_all c.loop-symbol.symbol-index c.args.parts.now.symbols.items
    (omega (arith, c.loop-symbol-test.false, ap length items.value)))) c.loop-symbol.invariant
