use Rattle.pg_hoa.proofs.Instructions.{fits_joined}
use Rattle.pg_hoa.proofs.terms.joined.Goals as goal

pub returns-then-value-right : goal.returns-then-value-right
returns-then-value-right c = λ b j. fits_joined b j c.args.left c.args.right c.if-value-left.true c.if-value-right.true
