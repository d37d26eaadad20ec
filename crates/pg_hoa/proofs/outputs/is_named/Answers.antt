use Rattle.pg_hoa.proofs.Common.{◌≡◌, ◌∙◌, ℕ, List, [], Bor, Bool, sym, ap, map, get_or, list_any}
use Rattle.std.specs.Str.{bytes_eq}
use Rattle.pg_hoa.proofs.NamedOutputs.{any_map, same_at}
use Rattle.pg_hoa.proofs.outputs.is_named.Goals as goal

pub returns : goal.returns
returns c =
    let names = c.args.names.now in
    let found = c.proposition.result.now in
    let is : found ≡ get_or c.args.automaton.now.propositions c.args.a [] =
    c.proposition.ensures ∙ same_at c.args.automaton.now.propositions c.args.a found [] c.requires in
    c.is_among.ensures ∙ ap (λ (p : List ℕ). list_any (λ (name : Bor (List ℕ)). bytes_eq name.now p) names) is
    ∙ sym (any_map (λ (name : List ℕ). bytes_eq name (get_or c.args.automaton.now.propositions c.args.a []))
    (λ (name : Bor (List ℕ)). name.now) names)
