use Rattle.pg_hoa_syntax.proofs.Common.{◌≡◌, ◌∙◌, sym, rules, tests, list_all, YieldsList-from_slice, all_from_yields_List, is_name_byte}
use Rattle.pg_hoa_syntax.proofs.HeaderTurns.{name_is}
use Rattle.pg_hoa_syntax.proofs.header.is_name.Goals as goal

pub returns-then-not-is_empty : goal.returns-then-not-is_empty
returns-then-not-is_empty c =
    let every : c.all.result ≡ list_all is_name_byte c.args.name.now =
    all_from_yields_List is_name_byte _ _ c.all.result c.all.ensures.ran (YieldsList-from_slice c.args.name.now cc)
    (λ x b q k. search (rules, tests)) in
    name_is c.all.result c.args.name.now (sym c.is_empty.ensures ∙ c.if-not-is_empty.true) every
