use Rattle.std.proofs.Common.{◌≡◌, ◌∙◌, ℕ, ap, map, take, sym}
use Rattle.std.proofs.lemmas.List.{take_all, take_min, take-map}
use Rattle.pg_aiger_reader.specs.declared.symbol.Symbol.{Symbol}
use Rattle.pg_satisfies_texts.proofs.names.known_names.Goals as goal

pub returns : goal.returns
returns c =
    let symbols = c.args.symbols.now in
    let name = λ (s : Symbol). s.name.now in
    let shown : take c.min.result symbols ≡ take 65 symbols = ap (λ (n : ℕ). take n symbols) c.min.ensures ∙ take_min 65 symbols in
    c.loop-symbol.invariant ∙ ap (map name) (take_all c.loop-symbol.symbol-index (take c.min.result symbols) c.loop-symbol-test.false ∙ shown)
    ∙ sym (take-map name 65 symbols)
