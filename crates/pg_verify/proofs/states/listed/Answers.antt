use Rattle.pg_verify.proofs.Numbering.{distinct_pairs}
use Rattle.pg_verify.proofs.states.listed.Goals as goal

pub returns-clause-distinct : goal.returns-clause-distinct
returns-clause-distinct c = λ width wide. distinct_pairs c.args.rows.now.keys width c.as_slice.ensures.unique wide
