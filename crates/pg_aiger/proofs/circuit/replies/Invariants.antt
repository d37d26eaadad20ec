use Rattle.pg_aiger.proofs.Common.{◌≡◌, outputs_below, nexts_below}
use Rattle.pg_aiger.proofs.circuit.replies.Given as goal

abbrev pub invariant-loop-place : goal.invariant-loop-place
invariant-loop-place l = (l.outputs.items ≡ outputs_below l.machine l.place) × (l.nexts.items ≡ nexts_below l.machine l.place)
