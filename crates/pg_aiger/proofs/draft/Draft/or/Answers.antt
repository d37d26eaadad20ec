use Rattle.pg_aiger.proofs.Exact.{negated_made}
use Rattle.pg_aiger.proofs.draft.Draft.or.Goals as goal

pub returns-clause-made : goal.returns-clause-made
returns-clause-made c =
    negated_made c.args.self.now c.and.new.self c.args.x c.args.y c.negated.result c.negated-2.result c.in_ok-literal.literal c.negated-3.result
    c.negated.ensures.literal c.negated-2.ensures.literal c.in_ok-literal.ensures.made c.negated-3.ensures.literal
