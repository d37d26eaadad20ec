use Rattle.pg_wire.proofs.Common.{◌∙◌, subst, Frame, Spells, frame_with}
use Rattle.pg_wire.proofs.Lengths.{kind_and_after}
use Rattle.pg_wire.proofs.Skip.{lines_left}
use Rattle.pg_wire.proofs.lines_reader.VerticesReader.open.Goals as goal

pub returns-in_err-body_of-clause-all : goal.returns-in_err-body_of-clause-all
returns-in_err-body_of-clause-all c = λ ls s none. c.in_err-body_of.ensures.none (frame_with ls) s

pub returns-in-Ok-clause-found : goal.returns-in-Ok-clause-found
returns-in-Ok-clause-found c =
    let p = c.in_ok-body_of.ensures.found in
    let q = lines_left p.0 _ _ c.in-Ok.bytes p.1.well (kind_and_after _ 2 c.in-len1-up.len_at_least c.if-kind-ne2.false ∙ p.2) c.in-Ok.ensures.read in
    (q.0, subst (λ (f : Frame). Spells f c.args.bytes.now) q.1 p.1, q.2)
