use Rattle.std.proofs.Common.{◌≡◌, ◌<◌, get_or, ◌∙◌, arith}
use Rattle.std.proofs.lemmas.List.{get_or_default}
use Rattle.pg_map_lift.proofs.watch.is_served_by_one.Goals as goal

pub returns : goal.returns
returns g c = (
  λ t. (cc),
  λ a.
      let l : a.0 < c.loop-w.w-index = let t = c.loop-w-test.false in let h = a.2 in omega arith in
      let e : get_or c.args.others.now a.0 0 ≡ a.1 = get_or_default c.args.others.now a.0 0 a.1 a.2 ∙ a.3 in
      absurd (c.loop-w.invariant a.0 l (rw e a.4)),
)
