use Rattle.pg_aiger_reader.proofs.Common.{◌≡◌, ◌<◌, arith, cases_lt, inl, inr, length-map, map, subst, sym}
use Rattle.pg_aiger_reader.proofs.Given.{unknown_first, symbol_at, no_symbol}
use Rattle.pg_aiger.specs.CircuitText.{Symbol}
use Rattle.pg_aiger_reader.specs.Ties.{IsUnknown, IsFirstUnknown}
use Rattle.pg_aiger_reader.specs.Mirrors.Places.{texts}
use Rattle.pg_aiger_reader.specs.Views.{kind_in, symbol_in}
use Rattle.pg_aiger_reader.proofs.ties.first_unknown.Goals as goal

pub returns-then-is_unknown : goal.returns-then-is_unknown
returns-then-is_unknown c =
    let kind = kind_in c.args.kind in
    let names = texts c.args.names.now in
    let symbols = map symbol_in c.args.symbols.now in
    let i = c.loop-i.i in
    let d = symbol_in no_symbol in
    let within = c.loop-i-test.true in
    let same = symbol_at c.args.symbols.now i d within in
    subst (λ (s : Symbol). IsFirstUnknown kind c.args.count names symbols s) same
    (unknown_first kind c.args.count names symbols i d (subst (λ n. i < n) (sym (length-map c.args.symbols.now symbol_in)) within)
    (λ k short. c.loop-i.invariant k d short (omega (arith, within)))
    (subst (λ (s : Symbol). IsUnknown kind c.args.count names s) (sym same) c.if-is_unknown.ensures))

pub loop-i-preserved : goal.loop-i-preserved
loop-i-preserved c = λ k d below within.
    elim (cases_lt k c.loop-i.i) [
      | inl lt ↦ c.loop-i.invariant k d lt within
      | inr le ↦
          let same : k ≡ c.loop-i.i = omega arith in
          rw (same, symbol_at c.args.symbols.now c.loop-i.i d c.loop-i-test.true) c.if-is_unknown.ensures
    ]
