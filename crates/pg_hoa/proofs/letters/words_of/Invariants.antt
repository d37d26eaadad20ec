use Rattle.pg_hoa.proofs.Common.{◌≡◌, ℕ, ◌+◌, ◌*◌, ◌<◌, ◌∷◌, drop, top, truth_in, truths, execute_all, executed}
use Rattle.pg_hoa.proofs.letters.words_of.Given as goal

-- what is left to do leaves the same
abbrev pub invariant-loop-step : goal.invariant-loop-step
invariant-loop-step l = (k j : ℕ) → k < 16 → j < 64 → top (execute_all (drop l.step-index l.instructions) (l.run * 16 + k) j
    (truth_in l.top k j ∷ truths k j l.stack.items)) ≡ top (executed l.instructions (l.run * 16 + k) j)
