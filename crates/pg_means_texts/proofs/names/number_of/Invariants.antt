use Rattle.std.proofs.Common.{◌≡◌, ◌+◌, drop, map}
use Rattle.pg_ltl.specs.Texts.{number_of}
use Rattle.pg_means_texts.proofs.names.number_of.Given as goal

abbrev pub invariant-loop-place : goal.invariant-loop-place
invariant-loop-place l =
    l.place + number_of l.name (drop l.place (map (λ v. v.items) l.names)) ≡ number_of l.name (map (λ v. v.items) l.names)
