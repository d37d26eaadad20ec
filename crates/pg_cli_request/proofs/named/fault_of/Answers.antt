use Rattle.std.proofs.Common.{◌≡◌, [], lit<, length, ◌<◌, ◌∙◌, ◌==◌, get_or, sym, ap}
use Rattle.std.proofs.lemmas.Iterator.Splits.{YieldsList-from_str_split}
use Rattle.std.proofs.lemmas.Iterator.Consumers.{nth_from_yields_List}
use Rattle.std.proofs.lemmas.List.{get_or-map, length-map}
use Rattle.std.specs.List.{slice_split}
use Rattle.std.specs.Str.{trim}
use Rattle.pg_hoa.specs.Outputs.{LacksOutput}
use Rattle.pg_cli_request.specs.Inputs.{names_in}
use Rattle.pg_cli_request.proofs.Refused.{item_at}
use Rattle.pg_cli_request.proofs.named.fault_of.Goals as goal

pub returns-in-NoProposition : goal.returns-in-NoProposition
returns-in-NoProposition c = λ text why.
    let place = c.in-NoProposition.place in
    let parts = slice_split (λ b. b == 44) c.args.outs.now in
    let lacks : LacksOutput text (names_in c.args.outs.now) place = rw c.in-NoProposition.is at why in
    let within : place < length parts = rw (← length-map parts trim) lacks.lacks.within in
    let split = c.split.ensures in
    let found = nth_from_yields_List c.nth.result c.nth.new.self place c.nth.ensures.ran
    (YieldsList-from_str_split 44 c.args.outs.now (lit< tt) split.text split.has_more split.pattern) in
    let part : c.unwrap_or.result.now ≡ get_or parts place [] =
    rw c.unwrap_or.ensures (item_at _ c.nth.result c.args.outs parts place [] within found) in
    (place, lacks, c.trim.ensures.trim ∙ (ap trim part ∙ sym (get_or-map trim parts place [] [] within)))
