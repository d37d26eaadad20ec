use Rattle.pg_synth.proofs.Common.{◌≢◌, ◌<◌, ℕ, joined, target}
use Rattle.pg_synth.proofs.controller.least_output.Given as goal

abbrev pub invariant-loop-output : goal.invariant-loop-output
invariant-loop-output l = (o : ℕ) → o < l.output → target l.automaton l.state (joined l.automaton.controllable l.input o) ≢ l.identifier
