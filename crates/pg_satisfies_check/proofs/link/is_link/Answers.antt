use Rattle.std.proofs.Common.{◌≡◌, ℕ, Bool, Some, subst}
use Rattle.std.specs.Option.{IfSome}
use Rattle.pg_satisfies_check.specs.Mirrors.Known.{known_at}
use Rattle.pg_satisfies_check.specs.Mirrors.Lassos.{IsLink}
use Rattle.pg_satisfies_check.proofs.Stepping.{on_true_weaker}
use Rattle.pg_satisfies_check.proofs.Linking.{link_less}
use Rattle.pg_satisfies_check.proofs.link.is_link.Goals as goal

pub returns-in-Some : goal.returns-in-Some
returns-in-Some c =
    let s = c.args.system.now in
    let inputs = c.args.inputs.now in
    let letter = c.args.letter.now in
    let values = c.args.values.now in
    let row = c.args.row.now in
    let link = subst (λ o. IfSome o (λ r. IsLink s inputs letter values r.items)) c.in-Some.is c.in_ok-seen.ensures in
    on_true_weaker c.says_no_more.result ((x : ℕ) (b : Bool) → known_at row x ≡ Some b → known_at c.deref.result.now x ≡ Some b)
    (IsLink s inputs letter values row)
    (λ less. link_less s inputs letter values row c.deref.result.now c.in-Some.seen.items c.deref.ensures.value link less) c.says_no_more.ensures
