use Rattle.std.specs.Prelude.{ℕ, take}
use Rattle.pg_aiger.specs.Runs.{Valuation}
use Rattle.pg_ltl.specs.Mirrors.Nodes.{normals_of}
use Rattle.pg_satisfies_check.specs.Satisfaction.{IsEndlessRun, run_word}
use Rattle.pg_satisfies_promises.specs.Mirrors.Promises.{AreRefuted}
use Rattle.pg_satisfies.proofs.verdict.satisfies.Given as goal

abbrev pub invariant-loop-tries : goal.invariant-loop-tries
invariant-loop-tries l =
    (input : ℕ → ℕ) (run : ℕ → Valuation) → IsEndlessRun l.netlist input run
    → AreRefuted (run_word l.literals run) (normals_of l.question.nodes.now) 0 (take l.tries-index l.tries-items)
