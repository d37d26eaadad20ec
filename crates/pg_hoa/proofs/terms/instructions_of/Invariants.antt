use Rattle.pg_hoa.proofs.Common.{◌≡◌, ℕ, ◌<◌, [], drop, run, on_at, executed}
use Rattle.pg_hoa.proofs.terms.instructions_of.Given as goal

-- what is left of the label leaves the same
abbrev pub invariant-loop-op : goal.invariant-loop-op
invariant-loop-op l = (b j : ℕ) → b < 1024 → j < 64
    → run (drop l.op-index l.label) (on_at b j) (executed l.instructions.items b j) ≡ run l.label (on_at b j) []
