use Rattle.pg_hoa_syntax.proofs.Common.{◌∙◌, ap, sym, split_last}
use Rattle.pg_hoa_syntax.proofs.OpenBrackets.{split_pushed}
use Rattle.pg_hoa_syntax.proofs.formula.split_last.Goals as goal

pub returns-in-Some : goal.returns-in-Some
returns-in-Some c = sym (ap split_last c.in-Some.ensures.items ∙ split_pushed c.pop.new.self.items c.in-Some.top)
