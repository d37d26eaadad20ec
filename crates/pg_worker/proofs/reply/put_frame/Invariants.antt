use Rattle.pg_worker.proofs.Common.{◌≡◌, take, length, IsWriting, measures_of}
use Rattle.pg_worker.proofs.reply.put_frame.Given as goal

abbrev pub invariant-loop-n : goal.invariant-loop-n
invariant-loop-n l = record {
  kind : l.writer.kind ≡ l.fn.kind;
  width : l.writer.width ≡ length l.worker.bounds;
  writing : IsWriting l.writer l.fn.out.items (measures_of l.worker.map (take l.n l.vertices)) l.out.items;
}
