use Rattle.std.proofs.Common.{◌∙◌, List, ℕ, ◌+◌, sym, subst, map, take, take_all, arith, ap}
use Rattle.std.proofs.lemmas.List.{length-map}
use Rattle.pg_aiger_reader.specs.Views.{circuit_in, symbols_in}
use Rattle.pg_aiger_reader.specs.declared.symbol.Symbol as memory
use Rattle.pg_satisfies_texts.specs.Names.{AreMeant, IsMissing, IsAmbiguous}
use Rattle.pg_satisfies_texts.specs.Mirrors.Signals.{IsMeaning}
use Rattle.pg_satisfies_texts.specs.declared.signals.NamedLiteral.{NamedLiteral}
use Rattle.pg_satisfies_texts.proofs.Meant.{texts, meaning_of, meant_more, next_of, symbol_names}
use Rattle.pg_satisfies_texts.proofs.names.literals_of.Goals as goal

pub returns-in-Nowhere : goal.returns-in-Nowhere
returns-in-Nowhere c =
    let circuit = circuit_in c.args.parts.now in
    let symbols = symbols_in c.args.parts.now in
    let i = c.loop-name.name-index in
    let v = c.name-item.result in
    let found = meaning_of circuit symbols c.args.names.now c.in_ok-table.table i v c.deref.result.now c.meaning.result c.in_ok-table.ensures
    c.loop-name-test.true c.name-item.is c.deref.ensures.value c.meaning.ensures in
    let is = c.in_ok-name_of-in-Nowhere.ensures ∙ c.deref-in-Nowhere-2.ensures.value in (
      next_of circuit symbols c.args.names.now i v c.loop-name.literals.items _ c.loop-name-test.true c.name-item.is is c.loop-name.invariant,
      subst (IsMissing circuit symbols) (sym is) (subst (λ (l : NamedLiteral). IsMeaning circuit symbols v.items l) c.in-Nowhere.is found),
      c.in_ok-known-in-Nowhere.ensures
          ∙ ap (λ (ss : List memory.Symbol). take 65 (map (λ s. s.name.now) ss)) c.deref-in-Nowhere.ensures.value
          ∙ ap (take 65) (symbol_names c.args.parts.now.symbols.items),
    )

pub returns-in-Twice : goal.returns-in-Twice
returns-in-Twice c =
    let circuit = circuit_in c.args.parts.now in
    let symbols = symbols_in c.args.parts.now in
    let i = c.loop-name.name-index in
    let v = c.name-item.result in
    let found = meaning_of circuit symbols c.args.names.now c.in_ok-table.table i v c.deref.result.now c.meaning.result c.in_ok-table.ensures
    c.loop-name-test.true c.name-item.is c.deref.ensures.value c.meaning.ensures in
    let is = c.in_ok-name_of-in-Twice.ensures ∙ c.deref-in-Twice.ensures.value in (
      next_of circuit symbols c.args.names.now i v c.loop-name.literals.items _ c.loop-name-test.true c.name-item.is is c.loop-name.invariant,
      subst (IsAmbiguous circuit symbols) (sym is) (subst (λ (l : NamedLiteral). IsMeaning circuit symbols v.items l) c.in-Twice.is found),
    )

pub loop-name-preserved : goal.loop-name-preserved
loop-name-preserved c =
    let circuit = circuit_in c.args.parts.now in
    let symbols = symbols_in c.args.parts.now in
    let i = c.loop-name.name-index in
    let v = c.name-item.result in
    let found = meaning_of circuit symbols c.args.names.now c.in_ok-table.table i v c.deref.result.now c.meaning.result c.in_ok-table.ensures
    c.loop-name-test.true c.name-item.is c.deref.ensures.value c.meaning.ensures in
    subst (AreMeant circuit symbols (take (i + 1) (texts c.args.names.now))) (sym c.in_ok-push-in-Only.ensures.items)
    (meant_more circuit symbols c.args.names.now i v c.loop-name.literals.items c.in-Only.literal c.loop-name-test.true c.name-item.is c.loop-name.invariant
    (subst (λ (l : NamedLiteral). IsMeaning circuit symbols v.items l) c.in-Only.is found))

pub returns : goal.returns
returns c =
    let circuit = circuit_in c.args.parts.now in
    let symbols = symbols_in c.args.parts.now in
    let l = length-map c.args.names.now (λ v. v.items) in
    subst (λ (ns : List (List ℕ)). AreMeant circuit symbols ns c.loop-name.literals.items)
    (take_all c.loop-name.name-index (texts c.args.names.now) (let h = c.loop-name-test.false in omega (arith, l))) c.loop-name.invariant
