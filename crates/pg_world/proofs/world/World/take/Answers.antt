use Rattle.pg_world.proofs.Common.{◌≡◌, ◌<◌, ◌≤◌, ◌∙◌, ℕ, List, length, set, ap, sym, subst, refl, map, Update, UpdateValue, update_at}
use Rattle.pg_world.proofs.Common.{WorldValue, viewed, AreReplicas, Raises, IsCovered}
use Rattle.pg_world.proofs.Noting.{items}
use Rattle.pg_world.proofs.Happening.{update_there, view_taken}
use Rattle.pg_world.proofs.Replicas.{greatest_of, map_in, takes_rising, takes_covered}
use Rattle.pg_world.proofs.world.World.take.Goals as goal

pub invariant_of-self-then-rises : goal.invariant_of-self-then-rises
invariant_of-self-then-rises c =
    let w : WorldValue = viewed c.self.inside.game c.self.inside.bounds c.self.inside.cut c.self.inside.updates.items c.self.inside.taken.items in
    let gs : List (List ℕ) = map items c.self.inside.greatest.items in
    let r : ℕ = c.args.replica in
    let n : ℕ = c.args.number in
    let u : Update = c.index.result.now in
    let few : r ≤ w.cut.workers = subst (λ (o : WorldValue). c.args.replica ≤ o.cut.workers) (sym c.self.view_is) c.requires.replica in
    let below : n < length w.updates = subst (λ (o : WorldValue). c.args.number < length o.updates) (sym c.self.view_is) c.requires.number in
    let rises : Raises c.args.self.now r (update_at c.args.self.now.bounds c.args.self.now.updates n) = c.if-rises.ensures in
    let rises_here : Raises w r (update_at w.bounds w.updates n) = subst (λ (o : WorldValue). Raises o r (update_at o.bounds o.updates n))
    (sym c.self.view_is) rises in
    let kept = takes_rising c.of_maps.ensures w c.self.inside.zero gs r n c.self.invariant few below
    (rises_here (map_in w gs r) ((c.self.invariant.each r few).map)) in
    let view = view_taken c.self.inside.game c.self.inside.bounds c.self.inside.cut c.self.inside.updates.items c.make_room.new.updates.items c.self.inside.taken.items c.make_room.new.taken.items c.note.new.taken.items
    r n c.in_ok-make_room.ensures.updates c.in_ok-make_room.ensures.taken c.note.ensures in
    let vertex : (update_at w.bounds w.updates n).vertex ≡ u.vertex =
    ap (λ (x : UpdateValue). x.vertex) (update_there w c.self.inside.updates.items n u refl below c.index.ensures) in
    let now : map items c.set_greatest.new.greatest.items ≡ set gs r (set (greatest_of gs r) (update_at w.bounds w.updates n).vertex n) =
    c.set_greatest.ensures ∙ ap (λ (v : ℕ). set gs r (set (greatest_of gs r) v n)) (sym vertex) in
    subst (λ (g : List (List ℕ)). AreReplicas
    (viewed w.game w.bounds w.cut c.make_room.new.updates.items c.note.new.taken.items) c.self.inside.zero g) (sym now)
    (subst (λ (o : WorldValue). AreReplicas o c.self.inside.zero (set gs r (set (greatest_of gs r) (update_at w.bounds w.updates n).vertex n))) (sym view) kept)

pub invariant_of-self-else-rises : goal.invariant_of-self-else-rises
invariant_of-self-else-rises c =
    let w : WorldValue = viewed c.self.inside.game c.self.inside.bounds c.self.inside.cut c.self.inside.updates.items c.self.inside.taken.items in
    let gs : List (List ℕ) = map items c.self.inside.greatest.items in
    let r : ℕ = c.args.replica in
    let n : ℕ = c.args.number in
    let few : r ≤ w.cut.workers = subst (λ (o : WorldValue). c.args.replica ≤ o.cut.workers) (sym c.self.view_is) c.requires.replica in
    let below : n < length w.updates = subst (λ (o : WorldValue). c.args.number < length o.updates) (sym c.self.view_is) c.requires.number in
    let covered : IsCovered c.args.self.now r (update_at c.args.self.now.bounds c.args.self.now.updates n) = c.if-rises.ensures in
    let covered_here : IsCovered w r (update_at w.bounds w.updates n) =
    subst (λ (o : WorldValue). IsCovered o r (update_at o.bounds o.updates n)) (sym c.self.view_is) covered in
    let kept = takes_covered c.of_maps.ensures w c.self.inside.zero gs r n c.self.invariant few below
    (covered_here (map_in w gs r) ((c.self.invariant.each r few).map)) in
    let view = view_taken c.self.inside.game c.self.inside.bounds c.self.inside.cut c.self.inside.updates.items c.make_room.new.updates.items c.self.inside.taken.items c.make_room.new.taken.items c.note.new.taken.items
    r n c.in_ok-make_room.ensures.updates c.in_ok-make_room.ensures.taken c.note.ensures in
    subst (λ (o : WorldValue). AreReplicas o c.self.inside.zero gs) (sym view) kept
