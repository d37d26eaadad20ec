use Rattle.std.proofs.Common.{◌<◌, ℕ, length, subst, sym}
use Rattle.std.proofs.lemmas.List.Elements.{All-nil}
use Rattle.std.proofs.lemmas.Result.{IfOk-weaker}
use Rattle.std.specs.declared.vec.Vec.{Vec}
use Rattle.std.specs.declared.alloc.Global.{Global}
use Rattle.pg_satisfies_promises.specs.Mirrors.Growing.{AreWithin}
use Rattle.pg_satisfies_promises.specs.Mirrors.Alternatives.{AddsFrames}
use Rattle.pg_satisfies_promises.proofs.Rows.{alternatives_alone, alternatives_framed, frame_reach, row_within}
use Rattle.pg_satisfies_promises.proofs.alternatives.split_operand.Goals as goal

pub returns-then-is_whole : goal.returns-then-is_whole
returns-then-is_whole c =
    IfOk-weaker c.alone.result _ _
    (λ (list : Vec ℕ Global) e.
    alternatives_alone c.args.nodes.now.items c.args.rows.now c.args.place list.items c.requires.ordered c.requires.place e)
    c.alone.ensures

pub returns : goal.returns
returns c =
    let new = c.frame_each.new.nodes.items in
    let list = c.frame_each.new.places.items in
    alternatives_framed c.args.nodes.now.items new c.args.rows.now c.args.place c.args.operand c.args.frame c.row-operands.result.now list
    c.row-operands.ensures c.requires.operand c.requires.place c.requires.is
    (subst (λ none. AddsFrames c.args.nodes.now.items new none list c.args.frame c.row-operands.result.now) c.new-list.ensures.items
    c.in_ok-frame_each.ensures)

pub frame_each-requires : goal.frame_each-requires
frame_each-requires c =
    let nodes = c.args.nodes.now.items in
    record {
      ordered = c.requires.ordered;
      left = frame_reach nodes c.args.place c.args.operand c.args.frame c.requires.ordered c.requires.place c.requires.is;
      operands =
          subst (AreWithin nodes) (sym c.row-operands.ensures) (row_within nodes c.args.rows.now c.args.operand c.requires.operand c.requires.rows);
      places = subst (AreWithin nodes) (sym c.new-list.ensures.items) (All-nil (λ p. p < length nodes));
    }
