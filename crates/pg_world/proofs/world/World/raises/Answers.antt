use Rattle.pg_world.proofs.Common.{◌≡◌, length, is_lt, ap, sym, arith, subst, map, MatchBool, MeasureValue, AtMost, IsBelow, zeros}
use Rattle.pg_world.proofs.Common.{game_line, measure_at, Update, update_value, update_at, WorldValue, IsMade, shown_by}
use Rattle.pg_world.proofs.Happening.{update_there}
use Rattle.pg_world.proofs.Lifting.{below_or}
use Rattle.pg_world.proofs.Replicas.{raises_or}
use Rattle.pg_world.proofs.world.World.raises.Goals as goal

pub measure-here-requires-clause-v : goal.measure-here-requires-clause-v
measure-here-requires-clause-v c =
    let o : WorldValue = c.args.self.now in
    let u : Update = c.index-update.result.now in
    let same : o.updates ≡ map update_value c.self.inside.updates.items = sym (ap (λ (x : WorldValue). x.updates) c.self.view_is) in
    let at : update_at o.bounds o.updates c.args.number ≡ update_value u =
    update_there o c.self.inside.updates.items c.args.number u same c.requires.number c.index-update.ensures in
    let made : IsMade o.bounds (game_line o.game) (length o.game) (update_value u) =
    subst (IsMade o.bounds (game_line o.game) (length o.game)) at (c.map.ensures.world.made c.args.number
    (record { vertex = 0; measure = zeros o.bounds }) c.requires.number) in
    omega (arith, made.within, c.map.ensures.size)

pub returns : goal.returns
returns c =
    let o : WorldValue = c.args.self.now in
    let u : Update = c.index-update.result.now in
    let m : MeasureValue = u.measure.value in
    let same : o.updates ≡ map update_value c.self.inside.updates.items = sym (ap (λ (x : WorldValue). x.updates) c.self.view_is) in
    let at : update_at o.bounds o.updates c.args.number ≡ update_value u =
    update_there o c.self.inside.updates.items c.args.number u same c.requires.number c.index-update.ensures in
    let either : MatchBool (is_lt c.cmp.result) (IsBelow (measure_at (shown_by c.map.result) u.vertex) m)
    (AtMost m (measure_at (shown_by c.map.result) u.vertex)) =
    subst (λ (x : MeasureValue). MatchBool (is_lt c.cmp.result) (IsBelow x m) (AtMost m x)) c.measure-here.ensures
    (below_or c.measure-here.result.now.value m c.cmp.result c.cmp.ensures.order) in
    rw (c.is_lt.ensures, at) (raises_or o c.args.replica (shown_by c.map.result) (is_lt c.cmp.result) (update_value u) c.map.ensures.map either)
