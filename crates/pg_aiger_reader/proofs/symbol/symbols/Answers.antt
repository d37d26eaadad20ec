use Rattle.pg_aiger_reader.proofs.Common.{◌+◌, ◌++◌, ◌∷◌, ◌≡◌, ◌∙◌, [], sym, length, map, map_push, err_from_is_err_and, symbols_at}
use Rattle.pg_aiger_reader.proofs.Symbols.{symbols_go_on, symbols_fail, symbols_end, symbols_too_many}
use Rattle.pg_aiger_reader.specs.Views.{symbol_in}
use Rattle.pg_aiger_reader.proofs.symbol.symbols.Goals as goal

pub returns-then-is_end : goal.returns-then-is_end
returns-then-is_end c =
    let most = length c.args.bytes.now + 1 in
    symbols_end c.args.header.now (map symbol_in c.loop.symbols.items) most c.loop.counter c.loop.rest.now
    (symbols_at c.args.header.now most c.args.bytes.now) c.loop-test.true (sym c.is_end.ensures ∙ c.if-is_end.true) c.loop.invariant

pub returns-in_err-symbol : goal.returns-in_err-symbol
returns-in_err-symbol c =
    let most = length c.args.bytes.now + 1 in
    let p = err_from_is_err_and c.from_residual.result c.from_residual.ensures.1 in
    rw (p.1, p.2) (symbols_fail c.args.header.now c.in_err-symbol.field-0.0 (map symbol_in c.loop.symbols.items) most c.loop.counter c.loop.rest.now
    (symbols_at c.args.header.now most c.args.bytes.now) c.loop-test.true (sym c.is_end.ensures ∙ c.if-is_end.false) c.in_err-symbol.ensures
    c.loop.invariant)

pub loop-preserved : goal.loop-preserved
loop-preserved c =
    let most = length c.args.bytes.now + 1 in
    let x = c.in_ok-symbol.symbol in
    let e : map symbol_in c.push.new.self.items ≡ map symbol_in c.loop.symbols.items ++ symbol_in x ∷ [] =
    rw c.in_ok-push.ensures.items (map_push symbol_in c.loop.symbols.items x) in
    rw e (symbols_go_on c.args.header.now (map symbol_in c.loop.symbols.items) most c.loop.counter c.loop.rest.now (symbol_in x)
    c.in_ok-symbol.after.now (symbols_at c.args.header.now most c.args.bytes.now) c.loop-test.true (sym c.is_end.ensures ∙ c.if-is_end.false)
    c.in_ok-symbol.ensures c.loop.invariant)

pub returns : goal.returns
returns c =
    let most = length c.args.bytes.now + 1 in
    symbols_too_many c.args.header.now (map symbol_in c.loop.symbols.items) most c.loop.counter c.loop.rest.now
    (symbols_at c.args.header.now most c.args.bytes.now) c.loop-test.false c.loop.invariant
