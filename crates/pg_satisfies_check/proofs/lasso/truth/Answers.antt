use Rattle.std.proofs.Common.{◌≡◌, Bool, Option, List, [], length, get_or, arith, ap, ◌∙◌}
use Rattle.std.specs.declared.vec.Vec.{Vec}
use Rattle.std.specs.declared.alloc.Global.{Global}
use Rattle.std.proofs.lemmas.List.{take_all}
use Rattle.pg_satisfies_check.specs.Mirrors.Known.{known_at}
use Rattle.pg_satisfies_check.specs.Mirrors.Steps.{Rows}
use Rattle.pg_satisfies_check.specs.Mirrors.Lassos.{is_true, truth_on}
use Rattle.pg_satisfies_check.proofs.Cutting.{map_read}
use Rattle.pg_satisfies_check.proofs.lasso.truth.Goals as goal

pub loop-row-preserved : goal.loop-row-preserved
loop-row-preserved c =
    let place = c.args.place in
    let row = c.row-item.result in
    map_read (λ (r : Vec (Option Bool) Global). is_true (known_at r.items place)) c.args.rows.now c.loop-row.row-index row c.is_true.result []
    c.loop-row.list.items c.push.new.self.items c.loop-row-test.true c.loop-row.invariant c.in_ok-push.ensures.items
    (c.is_true.ensures ∙ ap (λ (r : List (Option Bool)). is_true (known_at r place)) c.deref.ensures.value
    ∙ ap (λ (r : Vec (Option Bool) Global). is_true (known_at r.items place)) c.row-item.is)

pub returns : goal.returns
returns c =
    c.loop-row.invariant
    ∙ ap (λ (rs : Rows). truth_on rs c.args.place) (take_all c.loop-row.row-index c.args.rows.now (omega arith))
