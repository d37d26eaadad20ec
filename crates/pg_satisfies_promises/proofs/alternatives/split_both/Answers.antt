use Rattle.std.proofs.Common.{ℕ, subst, sym}
use Rattle.std.proofs.lemmas.Result.{IfOk-weaker}
use Rattle.std.specs.declared.vec.Vec.{Vec}
use Rattle.std.specs.declared.alloc.Global.{Global}
use Rattle.pg_satisfies_promises.specs.Mirrors.Growing.{AreWithin}
use Rattle.pg_satisfies_promises.proofs.Rows.{alternatives_both, row_within}
use Rattle.pg_satisfies_promises.proofs.alternatives.split_both.Goals as goal

pub products-requires : goal.products-requires
products-requires c =
    let nodes = c.args.nodes.now.items in
    record {
      ordered = c.requires.ordered;
      firsts = subst (AreWithin nodes) (sym c.row-lefts.ensures) (row_within nodes c.args.rows.now c.args.left c.requires.left c.requires.rows);
      seconds = subst (AreWithin nodes) (sym c.row-rights.ensures) (row_within nodes c.args.rows.now c.args.right c.requires.right c.requires.rows);
    }

pub returns : goal.returns
returns c =
    IfOk-weaker c.products.result _ _
    (λ (list : Vec ℕ Global) adds. alternatives_both c.args.nodes.now.items c.products.new.nodes.items c.args.rows.now c.args.place c.args.left
    c.args.right c.row-lefts.result.now c.row-rights.result.now list.items c.row-lefts.ensures c.row-rights.ensures c.requires.left c.requires.right
    c.requires.place c.requires.is adds)
    c.products.ensures
