use Rattle.pg_synth.proofs.Common.{◌≡◌, ◌≤◌, take, map, sum_by, line_at, edges_of}
use Rattle.pg_synth.proofs.lines.built.Given as goal

abbrev pub invariant-loop-identifier : goal.invariant-loop-identifier
invariant-loop-identifier l = record {
  lines : l.builder ≡ map (line_at l.automaton) (take l.identifier-index l.identifiers);
  few : sum_by (edges_of l.automaton) (take l.identifier-index l.identifiers) ≤ 8388608;
}
