use Rattle.pg_worker.proofs.Common.{◌≡◌, ◌++◌, length, take, ap, ◌∙◌, arith, measure_in, Frame, spelling, frame_of, extends_by, measures_of}
use Rattle.pg_worker.proofs.Common.{few_components}
use Rattle.pg_worker.proofs.Packing.{IsFull, stopped}
use Rattle.pg_worker.proofs.reply.put_frame.Goals as goal

pub push-requires : goal.push-requires
push-requires c = few_components c.args.worker.now.bounds (measure_in c.get.result) c.get.ensures.fits c.requires.few

pub returns-then-not-fits : goal.returns-then-not-fits
returns-then-not-fits c =
    let W = c.args.worker.now in
    let before = c.args.out.now.items in
    let ms = measures_of W.map (take c.loop-n.n c.args.vertices.now) in
    let full : IsFull c.args.kind (length W.bounds) c.push.new.writer before W.map c.args.vertices.now c.loop-n.n c.push.new.out.items =
    stopped c.args.kind (length W.bounds) c.loop-n.writer c.push.new.writer before c.loop-n.out.items c.push.new.out.items W.map c.args.vertices.now c.loop-n.n c.index-vertices-n.result (measure_in c.get.result) c.in_ok-fits.fits
    c.loop-n.invariant.kind c.loop-n.invariant.width c.push.ensures.of c.loop-n-test.true c.index-vertices-n.is c.get.ensures.value
    (few_components W.bounds (measure_in c.get.result) c.get.ensures.fits c.requires.few)
    c.if-not-fits.true c.loop-n.invariant.writing (c.in_ok-fits.ensures.added before ms c.loop-n.invariant.writing) in
    let spelled : c.finish.new.out.items ≡ before ++ spelling (frame_of c.args.kind (length W.bounds) ms) =
    c.finish.ensures.spelled before ms full.writing ∙ ap (λ (g : Frame). before ++ spelling g) full.spelled in
    record {
      count = (full.some, omega arith);
      frame = spelled;
      within = full.within;
      full = λ lt. full.full;
      kept = extends_by before c.finish.new.out.items _ spelled;
    }

pub returns-clause-kept : goal.returns-clause-kept
returns-clause-kept c = extends_by c.args.out.now.items c.finish-2.new.out.items _
    (c.finish-2.ensures.spelled c.args.out.now.items
    (measures_of c.args.worker.now.map (take c.loop-n.n c.args.vertices.now)) c.loop-n.invariant.writing)
