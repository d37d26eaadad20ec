use Rattle.std.proofs.Common.{◌≡◌, map, take}
use Rattle.pg_means_texts.specs.Names.{all_names}
use Rattle.pg_means_texts.proofs.names.all_names.Given as goal

abbrev pub invariant-loop-name : goal.invariant-loop-name
invariant-loop-name l =
    map (λ v. v.items) l.names.items ≡ all_names l.automaton.propositions (take l.name-index (map (λ v. v.items) l.own))
