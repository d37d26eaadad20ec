use Rattle.pg_world.proofs.Common.{◌≡◌, ◌<◌, ◌≤◌, ◌∙◌, ℕ, List, length, set, ap, sym, arith, subst, map, length-map, Update, NO_UPDATE}
use Rattle.pg_world.proofs.Common.{UpdateValue, update_value, WorldValue, viewed, AreReplicas, LiftsTo}
use Rattle.pg_world.proofs.Noting.{items}
use Rattle.pg_world.proofs.Happening.{view_made}
use Rattle.pg_world.proofs.Replicas.{greatest_of, makes}
use Rattle.pg_world.proofs.world.World.make.Goals as goal

pub invariant_of-self-2 : goal.invariant_of-self-2
invariant_of-self-2 c =
    let w : WorldValue = viewed c.self.inside.game c.self.inside.bounds c.self.inside.cut c.self.inside.updates.items c.self.inside.taken.items in
    let gs : List (List ℕ) = map items c.self.inside.greatest.items in
    let r : ℕ = c.args.replica in
    let u : UpdateValue = update_value c.args.update in
    let us : List Update = c.make_room.new.updates.items in
    let same_us : us ≡ c.self.inside.updates.items = c.in_ok-make_room.ensures.updates in
    let made : c.len-made.result ≡ length us = c.len-made.ensures ∙ c.make_room.new.updates.ok.0 in
    let count : length us ≡ length w.updates = ap length same_us ∙ sym (length-map c.self.inside.updates.items update_value) in
    let few : r ≤ w.cut.workers = subst (λ (o : WorldValue). c.args.replica ≤ o.cut.workers) (sym c.self.view_is) c.requires.replica in
    let within : u.vertex < length w.game = subst (λ (o : WorldValue). c.args.update.vertex < length o.game) (sym c.self.view_is) c.requires.v in
    let lifts : LiftsTo w r u = subst (λ (o : WorldValue). LiftsTo o c.args.replica (update_value c.args.update)) (sym c.self.view_is) c.requires.lifts in
    let fewer : length w.updates < NO_UPDATE = omega (
      arith,
      count,
      c.make_room.new.updates.ok.0,
      c.make_room.new.updates.ok.1,
      c.make_room.new.updates.small,
      c.in_ok-make_room.ensures.room,
    ) in
    let kept = makes c.of_maps.ensures w c.self.inside.zero gs r u c.self.invariant few fewer within lifts in
    let view = view_made c.self.inside.game c.self.inside.bounds c.self.inside.cut c.self.inside.updates.items us c.push_in_room.new.updates.items
    c.self.inside.taken.items c.make_room.new.taken.items c.note.new.taken.items r c.len-made.result c.args.update
    same_us c.push_in_room.ensures made c.in_ok-make_room.ensures.taken c.note.ensures in
    let now : map items c.set_greatest.new.greatest.items ≡ set gs r (set (greatest_of gs r) u.vertex (length w.updates)) =
    c.set_greatest.ensures ∙ ap (λ (n : ℕ). set gs r (set (greatest_of gs r) u.vertex n)) (made ∙ count) in
    subst (λ (g : List (List ℕ)). AreReplicas
    (viewed w.game w.bounds w.cut c.push_in_room.new.updates.items c.note.new.taken.items) c.self.inside.zero g) (sym now)
    (subst (λ (o : WorldValue). AreReplicas o c.self.inside.zero (set gs r (set (greatest_of gs r) u.vertex (length w.updates)))) (sym view) kept)
