use Rattle.std.proofs.Common.{◌≡◌, map, take}
use Rattle.pg_means_texts.specs.Names.{places_of}
use Rattle.pg_means_texts.proofs.names.places_of.Given as goal

abbrev pub invariant-loop-name : goal.invariant-loop-name
invariant-loop-name l =
    l.places.items ≡ places_of (map (λ v. v.items) l.names) (take l.name-index (map (λ v. v.items) l.own))
