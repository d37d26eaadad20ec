use Rattle.std.proofs.Common.{◌≡◌, ◌+◌, ◌*◌, ◌∷◌, [], ◌++◌, ◌∙◌, ap, sym}
use Rattle.pg_aiger_netlist.proofs.InOrder.{literals_more}
use Rattle.pg_aiger_netlist.proofs.plain.literals_of.Goals as goal

pub loop-i-preserved : goal.loop-i-preserved
loop-i-preserved c =
    c.in_ok-push.ensures.items ∙ ap (λ list. list ++ 2 * (c.args.first + c.loop-i.i) ∷ []) c.loop-i.invariant ∙ literals_more c.args.first c.loop-i.i
