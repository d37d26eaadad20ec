use Rattle.std.proofs.Common.{◌≡◌, ℕ, ◌<◌, false, get_or}
use Rattle.std.specs.Prelude.{map}
use Rattle.pg_aiger.specs.declared.gate.Latch.{Latch}
use Rattle.pg_aiger_netlist.specs.Mirrors.Lanes.{lane_value}
use Rattle.pg_aiger_netlist.proofs.step.take_latches.Given as goal

abbrev pub invariant-loop-place : goal.invariant-loop-place
invariant-loop-place l =
    (j : ℕ) → j < l.place → get_or l.latches j false ≡ lane_value l.row l.lane (get_or (map Latch.next l.lines) j 0)
