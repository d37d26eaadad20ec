use Rattle.pg_worker.proofs.Common.{◌≢◌, ◌∷◌, ◌++◌, ◌∙◌, [], refl, arith, length-append, All-push, Frame, IsStep}
use Rattle.pg_wire.specs.declared.frame.Frame.TheVariants as frames
use Rattle.pg_worker.specs.declared.served.Step.TheVariants as steps
use Rattle.pg_worker.proofs.Exchanging.{exchanges_more, broken_off}
use Rattle.pg_worker.proofs.service.serve_by.Goals as goal

pub returns-in-Ok-Halted-clause-served : goal.returns-in-Ok-Halted-clause-served
returns-in-Ok-Halted-clause-served g c =
    let l = c.loop-frames.invariant in
    let s : IsStep steps.Halted c.loop-frames.session.held c.step.new.session.held (g.R.Read.remaining c.loop-frames.input)
    (g.R.Read.remaining c.step.new.input) (g.W.Write.contents c.loop-frames.output) (g.W.Write.contents c.step.new.output) =
    rw c.in-Ok-Halted.field-0-is at c.in-Ok-Halted.ensures.step in
    record {
      fs = l.fs ++ frames.Halt ∷ [];
      held = c.step.new.session.held;
      left = g.R.Read.remaining c.step.new.input;
      exchanges = exchanges_more (g.R.Read.remaining c.args.input.now) (g.R.Read.remaining c.loop-frames.input)
          (g.R.Read.remaining c.step.new.input) (g.W.Write.contents c.args.output.now) (g.W.Write.contents c.loop-frames.output)
          (g.W.Write.contents c.step.new.output) l.fs frames.Halt c.loop-frames.session.held c.step.new.session.held l.exchanges s;
      ends = (omega (arith, l.count, length-append l.fs (frames.Halt ∷ [])), l.fs, refl, l.going);
      left_is = refl;
    }

pub returns-in-Err-clause-fault : goal.returns-in-Err-clause-fault
returns-in-Err-clause-fault g c =
    let l = c.loop-frames.invariant in
    broken_off c.tell.result c.in-Err.fault (g.R.Read.remaining c.args.input.now) (g.R.Read.remaining c.loop-frames.input)
    (g.W.Write.contents c.args.output.now) (g.W.Write.contents c.loop-frames.output) (g.W.Write.contents c.step.new.output)
    (g.W.Write.contents c.tell.new.output)
    l.fs c.loop-frames.session.held l.exchanges l.going (omega (arith, l.count)) c.in-Err.ensures.fault c.tell.ensures

pub loop-frames-preserved : goal.loop-frames-preserved
loop-frames-preserved g c =
    let l = c.loop-frames.invariant in
    let s : IsStep steps.Answered c.loop-frames.session.held c.step.new.session.held (g.R.Read.remaining c.loop-frames.input)
    (g.R.Read.remaining c.step.new.input) (g.W.Write.contents c.loop-frames.output) (g.W.Write.contents c.step.new.output) =
    rw c.in-Ok-Answered.field-0-is at c.in-Ok-Answered.ensures.step in
    record {
      fs = l.fs ++ s.0 ∷ [];
      count = omega (arith, l.count, length-append l.fs (s.0 ∷ []));
      going = All-push (λ (f : Frame). f ≢ frames.Halt) l.fs s.0 l.going s.1;
      exchanges = exchanges_more (g.R.Read.remaining c.args.input.now) (g.R.Read.remaining c.loop-frames.input)
          (g.R.Read.remaining c.step.new.input) (g.W.Write.contents c.args.output.now) (g.W.Write.contents c.loop-frames.output)
          (g.W.Write.contents c.step.new.output) l.fs s.0 c.loop-frames.session.held c.step.new.session.held l.exchanges s.2;
      highest = c.in-Ok-Answered.ensures.highest ∙ l.highest;
    }
