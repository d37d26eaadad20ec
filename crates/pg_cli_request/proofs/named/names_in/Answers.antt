use Rattle.std.proofs.Common.{◌∙◌, lit<, ap, map}
use Rattle.std.specs.Str.{trim}
use Rattle.std.proofs.lemmas.Iterator.Splits.{YieldsList-from_str_split}
use Rattle.std.proofs.lemmas.Iterator.Consumers.{YieldsList-at, YieldsList-end}
use Rattle.pg_cli_request.proofs.named.names_in.Goals as goal

pub returns : goal.returns
returns c =
    let split = c.split-name-items.ensures in
    let road = YieldsList-at c.into_iter-name-iterator.ensures.into_iter_gives
    (YieldsList-from_str_split 44 c.args.outs.now (lit< tt) split.text split.has_more split.pattern) in
    let whole = YieldsList-end road c.loop-name.yielded _ c.loop-name.yielded_by _ _ c.in-None.is c.next.ensures.steps in
    c.loop-name.invariant ∙ ap (map trim) whole.0
