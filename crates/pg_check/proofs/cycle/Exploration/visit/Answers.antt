use Rattle.pg_check.proofs.Common.{rules, ◌≡◌, ◌≢◌, ◌<◌, ◌≤◌, true, false, [], ◌∷◌, ◌++◌, length, get_or, set, arith, subst, sym, ap, ◌∙◌}
use Rattle.pg_check.proofs.Common.{add-one, get_or_default, priority, Counts}
use Rattle.pg_check.proofs.Searches.{search_ends, trail_of, edge_here, taken_next, exploring_passes, exploring_reaches}
use Rattle.pg_check.proofs.cycle.Exploration.visit.Goals as goal
use Rattle.pg_check.proofs.cycle.Exploration.visit.Goals.{After-w-item, then-not-index+then-priority+in_ok-reach, else-not-index}
use Rattle.pg_check.proofs.cycle.Exploration.visit.Goals.{else-not-index-via-then-not-index+else-priority, else-not-index-via-else-not-index}

-- the edge that is looked at counts
counted : (c : After-w-item) → Counts c.args.game.now c.args.solution.now (get_or c.loop-w.self.reached.items c.args.at 0) c.w-item.result
counted c = edge_here c.args.game.now c.args.solution.now c.loop-w.self.reached.items c.args.self.now.reached.items c.counted-w-items.result.now
    c.args.at c.index-u.result.now c.loop-w.w-index c.w-item.result c.loop-w.invariant.same c.requires.at c.index-u.ensures
    c.counted-w-items.ensures.counted c.loop-w-test.true c.w-item.is

below : (c : After-w-item) → c.w-item.result < length c.args.game.now
below c = c.requires.game.in_range (get_or c.loop-w.self.reached.items c.args.at 0) c.w-item.result (counted c).0

pub returns-then-eq-clause-closes : goal.returns-then-eq-clause-closes
returns-then-eq-clause-closes c =
    let i = c.loop-w.invariant in
    let counts = counted (goal.at.returns-then-eq-clause-closes c).After-w-item in
    let same : c.w-item.result ≡ c.args.v = search rules in
    trail_of c.args.game.now c.args.solution.now c.args.v c.loop-w.self.reached.items c.loop-w.self.before.items c.loop-w.self.is_reached.items c.args.at
    i.searched i.here (subst (λ x. Counts c.args.game.now c.args.solution.now (get_or c.loop-w.self.reached.items c.args.at 0) x) same counts)

pub index-requires : goal.index-requires
index-requires c =
    let i = c.loop-w.invariant in
    let is_below = below (goal.at.index-requires c).After-w-item in
    omega (arith, i.searched.whole, c.w.view_is)

pub priority-requires : goal.priority-requires
priority-requires c =
    let is_below = below (goal.at.priority-requires c).After-w-item in
    subst (λ w. w < length c.args.game.now) (sym c.w.view_is) is_below

pub reach-requires-clause-within : goal.reach-requires-clause-within
reach-requires-clause-within c =
    let i = c.loop-w.invariant in
    let is_below = below (goal.at.reach-requires-clause-within c).After-w-item in
    rw i.searched.whole (subst (λ w. w < length c.args.game.now) (sym c.w.view_is) is_below)

pub reach-requires-clause-few : goal.reach-requires-clause-few
reach-requires-clause-few c =
    let few = search_ends c.args.game.now c.args.solution.now c.args.v c.loop-w.self.reached.items c.loop-w.self.before.items c.loop-w.self.is_reached.items
    c.loop-w.invariant.searched in
    omega (arith, few, c.requires.limits.vertices, c.loop-w.invariant.here)

pub loop-w-preserved : goal.loop-w-preserved
loop-w-preserved c =
    let i = c.loop-w.invariant in
    let counts = counted (goal.at.loop-w-preserved c).After-w-item in
    let is_below = below (goal.at.loop-w-preserved c).After-w-item in
    let other : c.w-item.result ≢ c.args.v = search rules in
    elim c.if-not-index.branch [
      | then-not-index+then-priority+in_ok-reach w ↦
          let e : c.if-not-index.self.reached.items ≡ c.loop-w.self.reached.items ++ (c.w-item.result ∷ []) =
          ap (λ s. s.reached.items) w.self-is ∙ (w.in_ok-reach.ensures.reached ∙ ap (λ x. c.loop-w.self.reached.items ++ (x ∷ [])) c.w.view_is) in
          let f : c.if-not-index.self.before.items ≡ c.loop-w.self.before.items ++ (c.args.at ∷ []) =
          ap (λ s. s.before.items) w.self-is ∙ w.in_ok-reach.ensures.before in
          let g : c.if-not-index.self.is_reached.items ≡ set c.loop-w.self.is_reached.items c.w-item.result true =
          ap (λ s. s.is_reached.items) w.self-is ∙ (w.in_ok-reach.ensures.flags ∙ ap (λ x. set c.loop-w.self.is_reached.items x true) c.w.view_is) in
          let unset : get_or c.loop-w.self.is_reached.items c.w-item.result false ≡ false = search rules in
          let low : priority c.args.game.now c.w-item.result ≤ priority c.args.game.now c.args.v = search rules in
          rw (e, f, g) (exploring_reaches c.args.game.now c.args.solution.now c.args.v c.loop-w.self.reached.items c.loop-w.self.before.items
          c.loop-w.self.is_reached.items c.args.self.now.reached.items c.counted-w-items.result.now c.args.at c.loop-w.w-index c.w-item.result i
          c.loop-w-test.true c.w-item.is other counts unset low is_below)
      | else-not-index w ↦
          let known : priority c.args.game.now c.w-item.result ≤ priority c.args.game.now c.args.v
          → get_or c.loop-w.self.is_reached.items c.w-item.result false ≡ true =
          elim w.else-not-index.branch [
            | else-not-index-via-then-not-index+else-priority w' ↦ search rules
            | else-not-index-via-else-not-index w' ↦
                let set_already : c.index.result.now ≡ true = search rules in
                let d = get_or_default c.loop-w.self.is_reached.items c.w-item.result false true (omega (arith, i.searched.whole)) in
                λ low. cc (c.index.ensures, c.w.view_is)
          ] in
          rw w.self-is (exploring_passes c.args.game.now c.args.solution.now c.args.v c.loop-w.self.reached.items c.loop-w.self.before.items
          c.loop-w.self.is_reached.items c.args.self.now.reached.items c.counted-w-items.result.now c.args.at c.loop-w.w-index c.w-item.result i
          c.loop-w-test.true c.w-item.is other known)
    ]

pub returns-clause-explored : goal.returns-clause-explored
returns-clause-explored c =
    let i = c.loop-w.invariant in
    record {
      searched = i.searched;
      upto = rw add-one i.here;
      taken = taken_next c.args.game.now c.args.solution.now c.args.v c.loop-w.self.reached.items c.args.self.now.reached.items
          c.counted-w-items.result.now c.args.at c.index-u.result.now c.loop-w.w-index i.same c.requires.at c.index-u.ensures
          c.counted-w-items.ensures.counted c.loop-w-test.false i.taken_here i.taken;
    }
