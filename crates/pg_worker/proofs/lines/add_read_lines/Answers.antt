use Rattle.pg_worker.proofs.Common.{rules, inl, inr, err_from_is_err_and}
use Rattle.pg_worker.proofs.lines.add_read_lines.Goals as goal

pub returns-in_err-add_read-clause-refused : goal.returns-in_err-add_read-clause-refused
returns-in_err-add_read-clause-refused c = λ ls h.
    let p = err_from_is_err_and c.from_residual.result c.from_residual.ensures.1 in
    rw (p.1, p.2, ← c.held.view_is)
    (elim (c.in_err-add_read.ensures.refused ls h) [
      | inl memory ↦ inl memory
      | inr refused ↦ inr (inr (search rules, refused))
    ])
