use Rattle.pg_aiger_reader.proofs.Common.{map, take, take_all, subst, sym, get_or}
use Rattle.pg_aiger_reader.proofs.Places.{seen_more}
use Rattle.pg_aiger_reader.proofs.Given.{more_symbols, no_symbol}
use Rattle.pg_aiger_reader.specs.Views.{kind_in, symbol_in}
use Rattle.pg_aiger_reader.specs.Mirrors.Places.{IsPlaceOf}
use Rattle.pg_aiger_reader.proofs.ties.place_of.Goals as goal

pub loop-i-preserved : goal.loop-i-preserved
loop-i-preserved c =
    let kind = kind_in c.args.kind in
    let symbols = c.args.symbols.now in
    let i = c.loop-i.i in
    subst (λ ss. IsPlaceOf kind c.args.count ss c.args.name.now c.noted-found.result) (sym (more_symbols symbols i c.loop-i-test.true))
    (rw c.noted-found.ensures (seen_more kind c.args.count (map symbol_in (take i symbols)) (symbol_in (get_or symbols i no_symbol)) c.args.name.now
    c.loop-i.found c.loop-i.invariant))

pub returns : goal.returns
returns c =
    subst (λ ss. IsPlaceOf (kind_in c.args.kind) c.args.count (map symbol_in ss) c.args.name.now c.loop-i.found)
    (take_all c.loop-i.i c.args.symbols.now c.loop-i-test.false) c.loop-i.invariant
