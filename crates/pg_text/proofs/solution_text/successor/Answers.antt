use Rattle.std.proofs.Common.{sym}
use Rattle.pg_text.proofs.Answering.{no_successor}
use Rattle.pg_text.proofs.solution_text.successor.Goals as goal

pub returns-in_err-w-clause-absent : goal.returns-in_err-w-clause-absent
returns-in_err-w-clause-absent c = rw c.from_residual.ensures (λ w edge. c.in_err-w.ensures.missing w (c.requires.game.in_range c.args.v w edge))

pub returns-in-Err-clause-absent : goal.returns-in-Err-clause-absent
returns-in-Err-clause-absent c = no_successor c.args.game.now c.args.v c.in_ok-w.w c.in-Err.field-0 c.args.wanted c.requires.game c.in_ok-w.ensures.found.0 c.in_ok-w.ensures.found.1 (rw (sym c.successors.ensures) c.in-Err.ensures.position)
