use Rattle.std.proofs.Common.{◌≡◌, ℕ, ◌<◌, [], Some, map, get_or}
use Rattle.pg_satisfies_texts.specs.Mirrors.Signals.{nothing, signals_for}
use Rattle.pg_satisfies_texts.proofs.signals.names_alone.Given as goal

abbrev pub invariant-loop-name : goal.invariant-loop-name
invariant-loop-name l = (k : ℕ) → k < l.name-index → signals_for l.table (get_or (map (λ v. v.items) l.names) k []) ≡ Some nothing
