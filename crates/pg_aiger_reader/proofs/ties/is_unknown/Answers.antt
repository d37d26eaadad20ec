use Rattle.pg_aiger_reader.proofs.Common.{◌≡◌, ◌∙◌, ◌<◌, true, false, [], Contains, Contains-get_or, arith, bytes_eq, bytes_eq-Decides, cases_lt, get_or}
use Rattle.pg_aiger_reader.proofs.Common.{get_or_default, inl, inr, subst, sym}
use Rattle.pg_aiger_reader.proofs.Given.{as_many, name_at, no_name}
use Rattle.pg_aiger_reader.proofs.Places.{kind_is}
use Rattle.pg_aiger_reader.specs.Mirrors.Places.{texts}
use Rattle.pg_aiger_reader.specs.Views.{kind_in}
use Rattle.pg_aiger_reader.proofs.ties.is_unknown.Goals as goal

pub returns-then-eq : goal.returns-then-eq
returns-then-eq c = λ is.
    let names = c.args.names.now in
    let k = c.loop-k.k in
    let here : get_or (texts names) k [] ≡ c.args.symbol.now.name.now =
    name_at names k c.loop-k-test.true ∙ (bytes_eq-Decides (get_or names k no_name).now c.args.symbol.now.name.now).0 (sym c.eq.ensures ∙ c.if-eq.true) in
    is.other (subst (Contains (texts names)) here
    (Contains-get_or (texts names) k [] (subst (λ n. k < n) (sym (as_many names)) c.loop-k-test.true)))

pub loop-k-preserved : goal.loop-k-preserved
loop-k-preserved c = λ j below same.
    let names = c.args.names.now in
    let k = c.loop-k.k in
    elim (cases_lt j k) [
      | inl lt ↦ c.loop-k.invariant j lt same
      | inr le ↦
          let last : j ≡ k = omega arith in
          let here : (get_or names k no_name).now ≡ c.args.symbol.now.name.now =
          sym (name_at names k c.loop-k-test.true) ∙ subst (λ i. get_or (texts names) i [] ≡ c.args.symbol.now.name.now) last same in
          let yes : bytes_eq (get_or names k no_name).now c.args.symbol.now.name.now ≡ true = (bytes_eq-Decides _ _).1 here in
          let no : true ≡ false = sym yes ∙ sym c.eq.ensures ∙ c.if-eq.false in
          cc no
    ]

pub returns : goal.returns
returns c =
    let names = c.args.names.now in
    let done = c.loop-k-test.false in
    let within = c.if-symbol-count.false in
    let many = as_many names in record {
      of_kind = kind_is (kind_in c.args.symbol.now.kind) (kind_in c.args.kind) (sym c.is_kind.ensures ∙ c.if-not-is_kind.false);
      within = omega (arith, within);
      other = λ there.
          let (j, below, is) = there in
          c.loop-k.invariant j (omega (arith, below, many, done)) (get_or_default (texts names) j [] c.args.symbol.now.name.now below ∙ is);
    }
