use Rattle.std.proofs.Common.{ℕ, List, ◌++◌, inr, ap, ◌∙◌}
use Rattle.pg_means_look.specs.Mirrors.Tables.{row_at}
use Rattle.pg_satisfies_promises.proofs.alternatives.split_either.Goals as goal

pub returns : goal.returns
returns c =
    inr (c.in_ok-extend_from_slice.ensures.items
    ∙ ap (λ (xs : List ℕ). xs ++ c.row-rights.result.now) (c.in_ok-list.ensures.items ∙ c.row-lefts.ensures)
    ∙ ap (λ (ys : List ℕ). row_at c.args.rows.now c.args.left ++ ys) c.row-rights.ensures)
