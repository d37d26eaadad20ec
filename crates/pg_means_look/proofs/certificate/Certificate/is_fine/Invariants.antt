use Rattle.std.proofs.Common.{ℕ, ◌+◌, ◌*◌, ◌<◌}
use Rattle.pg_means_look.specs.Mirrors.Views.{ranks_at, witnesses_at, IsFineAt}
use Rattle.pg_means_look.proofs.certificate.Certificate.is_fine.Given as goal

abbrev pub invariant-loop-k : goal.invariant-loop-k
invariant-loop-k l =
    (j : ℕ) → j < l.k
    → IsFineAt (ranks_at l.self.levels.items j) (witnesses_at l.self.levels.items j) (2 * j + l.parity) l.priority l.puts l.v l.w
