use Rattle.pg_world.proofs.Common.{◌≡◌, ◌<◌, ◌≤◌, ◌∙◌, ℕ, List, length, set, replicate, ap, sym, arith, subst, map, All, length-map}
use Rattle.pg_world.proofs.Common.{length-replicate, map-set, with_items_is, with_items, game_line, Update, NO_UPDATE, update_value}
use Rattle.pg_world.proofs.Common.{WorldValue, taken_of, viewed, ComeFrom, AreReplicas}
use Rattle.pg_world.proofs.Noting.{items, item_at, has_place}
use Rattle.pg_world.proofs.Happening.{view_forgot, vertices_within}
use Rattle.pg_world.proofs.Replicas.{greatest_of, greatest_size, forgets}
use Rattle.pg_world.proofs.world.World.restart.Goals as goal
use Rattle.pg_world.proofs.world.World.restart.Goals.{After-deref_mut}

-- the numbers of the worker
greatest : (c : After-deref_mut) → greatest_of (map items c.self.inside.greatest.items) c.args.worker ≡ c.deref_mut.result.now
greatest c =
    let few : c.args.worker ≤ c.self.inside.cut.workers = omega (arith, c.workers.ensures) in
    let l : c.args.worker < length c.self.inside.greatest.items =
    has_place c.self.inside.greatest.items c.args.worker c.self.inside.cut.workers c.self.invariant.count few in
    item_at c.self.inside.greatest.items c.args.worker c.index_mut.result.now l c.index_mut.ensures.value
    ∙ sym c.deref_mut.ensures.value

pub clear-requires-clause-taken : goal.clear-requires-clause-taken
clear-requires-clause-taken c =
    let w : WorldValue = viewed c.self.inside.game c.self.inside.bounds c.self.inside.cut c.self.inside.updates.items c.self.inside.taken.items in
    let few : c.args.worker ≤ w.cut.workers = omega (arith, c.workers.ensures) in
    let l : c.args.worker < length c.self.inside.taken.items =
    has_place c.self.inside.taken.items c.args.worker w.cut.workers c.self.invariant.world.size few in
    let same : taken_of w c.args.worker ≡ c.deref-2.result.now =
    item_at c.self.inside.taken.items c.args.worker c.index.result.now l c.index.ensures ∙ sym c.deref-2.ensures.value in
    let count : length w.updates ≡ length c.deref.result.now = length-map c.self.inside.updates.items update_value ∙ ap length (sym c.deref.ensures.value) in
    subst (λ (k : ℕ). All (λ n. n < k) c.deref-2.result.now) count
    (subst (λ (t : List ℕ). All (λ n. n < length w.updates) t) same (c.self.invariant.world.taken c.args.worker))

pub clear-requires-clause-vertices : goal.clear-requires-clause-vertices
clear-requires-clause-vertices c =
    let w : WorldValue = viewed c.self.inside.game c.self.inside.bounds c.self.inside.cut c.self.inside.updates.items c.self.inside.taken.items in
    let gs : List (List ℕ) = map items c.self.inside.greatest.items in
    let few : c.args.worker ≤ w.cut.workers = omega (arith, c.workers.ensures) in
    let same = greatest (goal.at.clear-requires-clause-vertices c).After-deref_mut in
    let size : length c.deref_mut.result.now ≡ length w.game = ap length (sym same)
    ∙ greatest_size w c.self.inside.zero gs c.args.worker c.self.invariant few in
    subst (λ (us : List Update). All (λ u. u.vertex < length c.deref_mut.result.now) us) (sym c.deref.ensures.value)
    (subst (λ (n : ℕ). All (λ u. u.vertex < n) c.self.inside.updates.items) (sym size)
    (vertices_within w.bounds (game_line w.game) (length w.game) c.self.inside.updates.items c.self.invariant.world.made))

pub clear-requires-clause-from : goal.clear-requires-clause-from
clear-requires-clause-from c =
    let w : WorldValue = viewed c.self.inside.game c.self.inside.bounds c.self.inside.cut c.self.inside.updates.items c.self.inside.taken.items in
    let gs : List (List ℕ) = map items c.self.inside.greatest.items in
    let few : c.args.worker ≤ w.cut.workers = omega (arith, c.workers.ensures) in
    let m : c.args.worker < length c.self.inside.taken.items =
    has_place c.self.inside.taken.items c.args.worker w.cut.workers c.self.invariant.world.size few in
    let same = greatest (goal.at.clear-requires-clause-from c).After-deref_mut in
    let same_taken : taken_of w c.args.worker ≡ c.deref-2.result.now =
    item_at c.self.inside.taken.items c.args.worker c.index.result.now m c.index.ensures ∙ sym c.deref-2.ensures.value in
    let from : ComeFrom w.updates (taken_of w c.args.worker) (greatest_of gs c.args.worker) = (c.self.invariant.each c.args.worker few).from in
    subst (λ (us : List Update). ComeFrom (map update_value us) c.deref-2.result.now c.deref_mut.result.now) (sym c.deref.ensures.value)
    (subst (λ (t : List ℕ). ComeFrom w.updates t c.deref_mut.result.now) same_taken
    (subst (λ (g : List ℕ). ComeFrom w.updates (taken_of w c.args.worker) g) same from))

pub invariant_of-self : goal.invariant_of-self
invariant_of-self c =
    let w : WorldValue = viewed c.self.inside.game c.self.inside.bounds c.self.inside.cut c.self.inside.updates.items c.self.inside.taken.items in
    let gs : List (List ℕ) = map items c.self.inside.greatest.items in
    let r : ℕ = c.args.worker in
    let few : r ≤ w.cut.workers = omega (arith, c.workers.ensures) in
    let same = greatest (goal.at.invariant_of-self c).After-deref_mut in
    let none : c.clear.new.greatest ≡ replicate (length (greatest_of gs r)) NO_UPDATE = c.clear.ensures
    ∙ ap (λ (g : List ℕ). replicate (length g) NO_UPDATE) (sym same) in
    let kept = forgets c.of_maps.ensures w c.self.inside.zero gs r c.self.invariant few in
    let view = view_forgot c.self.inside.game c.self.inside.bounds c.self.inside.cut c.self.inside.updates.items c.self.inside.taken.items c.forget.new.taken.items r c.forget.ensures in
    let whole : length c.clear.new.greatest ≡ c.index_mut.result.now.len =
    omega (
      arith,
      ap length c.clear.ensures,
      ap length c.deref_mut.ensures.value,
      c.index_mut.result.now.ok.0,
      length-replicate (length c.deref_mut.result.now) NO_UPDATE,
    ) in
    let now : map items (set c.self.inside.greatest.items r (with_items c.index_mut.result.now c.clear.new.greatest)) ≡ set gs r
    (replicate (length (greatest_of gs r)) NO_UPDATE) =
    map-set items c.self.inside.greatest.items r (with_items c.index_mut.result.now c.clear.new.greatest)
    ∙ ap (λ (g : List ℕ). set gs r g) (with_items_is c.index_mut.result.now c.clear.new.greatest whole ∙ none) in
    subst (λ (g : List (List ℕ)). AreReplicas
    (viewed w.game w.bounds w.cut c.self.inside.updates.items c.forget.new.taken.items) c.self.inside.zero g) (sym now)
    (subst (λ (o : WorldValue). AreReplicas o c.self.inside.zero (set gs r (replicate (length (greatest_of gs r)) NO_UPDATE))) (sym view) kept)
