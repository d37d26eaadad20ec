use Rattle.pg_aiger_reader.proofs.Common.{◌≡◌, ◌<◌, ◌∙◌, arith, cases_lt, get_or, inl, inr, length, length-map, map, subst, sym, true, false, Contains-get_or}
use Rattle.pg_aiger_reader.proofs.Places.{kind_is, kind_same}
use Rattle.pg_aiger_reader.specs.Mirrors.Places.{is_kind}
use Rattle.pg_aiger_reader.proofs.Given.{symbol_at, no_symbol}
use Rattle.pg_aiger.specs.CircuitText.{latch, Symbol}
use Rattle.pg_aiger_reader.specs.Views.{kind_in, symbol_in}
use Rattle.pg_aiger_reader.proofs.ties.has_latches_alone.Goals as goal

pub loop-i-preserved : goal.loop-i-preserved
loop-i-preserved c = λ k d below within.
    elim (cases_lt k c.loop-i.i) [
      | inl lt ↦ c.loop-i.invariant k d lt within
      | inr le ↦
          let same : k ≡ c.loop-i.i = omega arith in
          let here : kind_in (get_or c.args.symbols.now c.loop-i.i no_symbol).kind ≡ latch =
          kind_is (kind_in (get_or c.args.symbols.now c.loop-i.i no_symbol).kind) latch (sym c.is_kind.ensures ∙ c.if-not-is_kind.false) in
          rw (same, symbol_at c.args.symbols.now c.loop-i.i d c.loop-i-test.true) here
    ]

pub returns : goal.returns
returns c = λ s there.
    let (k, below, is) = there in
    let within : k < length c.args.symbols.now = subst (λ n. k < n) (length-map c.args.symbols.now symbol_in) below in
    let done = c.loop-i-test.false in
    subst (λ (t : Symbol). t.kind ≡ latch) is (c.loop-i.invariant k s (omega arith) within)

pub returns-then-not-is_kind : goal.returns-then-not-is_kind
returns-then-not-is_kind c = λ all.
    let symbols = map symbol_in c.args.symbols.now in
    let i = c.loop-i.i in
    let d = symbol_in no_symbol in
    let here = get_or c.args.symbols.now i no_symbol in
    let below : i < length symbols = subst (λ n. i < n) (sym (length-map c.args.symbols.now symbol_in)) c.loop-i-test.true in
    let same = symbol_at c.args.symbols.now i d c.loop-i-test.true in
    let is : kind_in here.kind ≡ latch =
    subst (λ (s : Symbol). s.kind ≡ latch) same (all (get_or symbols i d) (Contains-get_or symbols i d below)) in
    let yes : is_kind (kind_in here.kind) latch ≡ true = subst (λ k. is_kind k latch ≡ true) (sym is) (kind_same latch) in
    let no : true ≡ false = sym yes ∙ sym c.is_kind.ensures ∙ c.if-not-is_kind.true in
    cc no
