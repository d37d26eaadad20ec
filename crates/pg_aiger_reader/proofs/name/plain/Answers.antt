use Rattle.std.proofs.Common.{ap, sym, ◌∙◌}
use Rattle.std.specs.List.{list_any}
use Rattle.std.specs.Str.{chars}
use Rattle.pg_aiger_reader.specs.FaultTexts.{is_hidden}
use Rattle.pg_aiger_reader.proofs.NameTexts.{shown_as_it_is, escaped_for_bytes}
use Rattle.pg_aiger_reader.proofs.name.plain.Goals as goal

pub returns-else-has_hidden-clause-shown : goal.returns-else-has_hidden-clause-shown
returns-else-has_hidden-clause-shown c =
    let same = c.in-Ok.ensures.cases.0 in
    let none = ap (λ t. list_any is_hidden (chars t)) (sym same) ∙ sym c.has_hidden.ensures ∙ c.if-has_hidden.false in
    (same, shown_as_it_is c.args.bytes.now none c.in-Ok.ensures.cases.1)

pub returns-in-Err-clause-hidden : goal.returns-in-Err-clause-hidden
returns-in-Err-clause-hidden c = λ _. escaped_for_bytes c.args.bytes.now c.in-Err.ensures.cases.0
