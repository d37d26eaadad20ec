use Rattle.pg_worker.proofs.Common.{◌≡◌, ◌≢◌, List, length, All, Frame, Exchanges}
use Rattle.pg_wire.specs.declared.frame.Frame.TheVariants as frames
use Rattle.pg_worker.proofs.service.serve_by.Given as goal

abbrev pub invariant-loop-frames : goal.invariant-loop-frames
invariant-loop-frames g l = record {
  fs : List Frame;
  count : length fs ≡ l.frames;
  going : All (λ f. f ≢ frames.Halt) fs;
  exchanges : Exchanges (g.R.Read.remaining l.initial.input) (g.R.Read.remaining l.input) (g.W.Write.contents l.initial.output)
      (g.W.Write.contents l.output) fs l.session.held;
  highest : l.session.highest ≡ 2;
}
