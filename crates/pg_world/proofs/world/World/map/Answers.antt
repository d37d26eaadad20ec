use Rattle.pg_world.proofs.Common.{◌≡◌, ◌<◌, ◌≤◌, ◌∙◌, List, length, sym, subst, map, Update, update_value, WorldValue, IsMapOf, viewed}
use Rattle.pg_world.proofs.Common.{shown}
use Rattle.pg_world.proofs.Noting.{items, item_at, has_place}
use Rattle.pg_world.proofs.Replicas.{greatest_of, map_lent}
use Rattle.pg_world.proofs.world.World.map.Goals as goal
use Rattle.pg_world.proofs.world.World.map.Goals.{After-deref-2}

lent : (c : After-deref-2) → IsMapOf c.args.self.now c.args.replica
    (shown c.self.inside.bounds (map update_value c.self.inside.updates.items) c.deref-2.result.now)
    × (length c.deref-2.result.now ≡ length c.args.self.now.game)
lent c =
    let w : WorldValue = viewed c.self.inside.game c.self.inside.bounds c.self.inside.cut c.self.inside.updates.items c.self.inside.taken.items in
    let few : c.args.replica ≤ w.cut.workers = subst (λ (o : WorldValue). c.args.replica ≤ o.cut.workers) (sym c.self.view_is) c.requires in
    let l : c.args.replica < length c.self.inside.greatest.items =
    has_place c.self.inside.greatest.items c.args.replica w.cut.workers c.self.invariant.count few in
    let same : greatest_of (map items c.self.inside.greatest.items) c.args.replica ≡ c.deref-2.result.now =
    item_at c.self.inside.greatest.items c.args.replica c.index.result.now l c.index.ensures ∙ sym c.deref-2.ensures.value in
    map_lent w c.args.self.now c.self.inside.zero
    (map items c.self.inside.greatest.items) c.args.replica c.deref-2.result.now c.self.view_is c.self.invariant c.requires same

pub returns-clause-map : goal.returns-clause-map
returns-clause-map c = subst (λ (us : List Update). IsMapOf c.args.self.now c.args.replica
    (shown c.self.inside.bounds (map update_value us) c.deref-2.result.now)) (sym c.deref.ensures.value)
    (lent (goal.at.returns-clause-map c).After-deref-2).0

pub returns-clause-size : goal.returns-clause-size
returns-clause-size c = (lent (goal.at.returns-clause-size c).After-deref-2).1
