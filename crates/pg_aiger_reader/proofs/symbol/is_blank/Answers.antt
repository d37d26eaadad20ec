use Rattle.pg_aiger_reader.proofs.Common.{sym, ◌∙◌}
use Rattle.pg_aiger_reader.proofs.SymbolLaws.{blank_alone, blank_behind}
use Rattle.pg_aiger_reader.proofs.symbol.is_blank.Goals as goal

pub lines-preserved : goal.lines-preserved
lines-preserved c = sym (blank_behind c.lines.rest.now c.in-Some.after.now (sym c.in-Some.ensures)) ∙ c.lines.invariant

pub returns : goal.returns
returns c = c.is_empty.ensures ∙ blank_alone c.lines.rest.now (sym c.in_default.ensures) ∙ c.lines.invariant
