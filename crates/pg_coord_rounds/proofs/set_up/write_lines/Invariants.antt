use Rattle.pg_coord_rounds.proofs.Common.{◌<◌, List, length, VertexLine, AreWritten}
use Rattle.pg_coord_rounds.proofs.set_up.write_lines.Given as goal

abbrev pub invariant-loop-number : goal.invariant-loop-number
invariant-loop-number l = record {
  lines : List VertexLine;
  written : AreWritten l.task l.writer l.number lines l.out.items;
  few : length l.out.items < 65545;
}
