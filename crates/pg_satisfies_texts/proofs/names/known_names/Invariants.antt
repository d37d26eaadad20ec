use Rattle.std.proofs.Common.{◌≡◌, map, take}
use Rattle.pg_satisfies_texts.specs.FaultTexts.{name_bytes}
use Rattle.pg_satisfies_texts.proofs.names.known_names.Given as goal

abbrev pub invariant-loop-symbol : goal.invariant-loop-symbol
invariant-loop-symbol l = map name_bytes l.names.items ≡ map (λ s. s.name.now) (take l.symbol-index l.symbol-items)
