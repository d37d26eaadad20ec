use Rattle.pg_world.proofs.Common.{is_lt, subst, MatchBool, owner, priority, successors, MeasureValue, OwnedMeasure, AtMost, IsBelow}
use Rattle.pg_world.proofs.Common.{IsLeastStep, game_line, measure_at, IsLeastServing, game_line_at, shown_by}
use Rattle.pg_world.proofs.Lifting.{step_serves, below_or, lift_found}
use Rattle.pg_world.proofs.replica.ReplicaMap.lift.Goals as goal
use Rattle.pg_world.proofs.replica.ReplicaMap.lift.Goals.{then-rises, else-rises+in-Heap-1, else-rises+in-Inline-1}

pub returns : goal.returns
returns c =
    let bs = c.args.self.now.bounds.now in
    let game = c.args.game.now in
    let f = shown_by c.args.self.now in
    let v = c.args.v in
    let m : OwnedMeasure = c.in_ok-least.least in
    let p = priority game v in
    let step : IsLeastStep bs p (measure_at f c.best_of-best.result) m.value =
    subst (λ (x : MeasureValue). IsLeastStep bs p x m.value) c.measure.ensures
    (rw c.priority.ensures at c.in_ok-least.ensures.least) in
    let least : IsLeastServing bs (game_line game) f v m.value =
    step_serves bs (game_line game) f v c.best_of-best.result p (owner game v) (successors game v) m.value
    (game_line_at game v) c.best_of-best.ensures.best step in
    let either : MatchBool c.is_lt-rises.result (IsBelow (measure_at f v) m.value) (AtMost m.value (measure_at f v)) =
    rw c.is_lt-rises.ensures (subst (λ (x : MeasureValue). MatchBool (is_lt c.cmp.result) (IsBelow x m.value) (AtMost m.value x)) c.measure-2.ensures
    (below_or c.measure-2.result.now.value m.value c.cmp.result c.cmp.ensures.order)) in
    elim c.if-rises.branch [
      | then-rises w ↦ lift_found bs (game_line game) f v m c.is_lt-rises.result c.if-rises.result least either (rw w.if-rises.true w.result-is)
      | else-rises+in-Heap-1 w ↦ lift_found bs (game_line game) f v m c.is_lt-rises.result c.if-rises.result least either (rw w.if-rises.false w.result-is)
      | else-rises+in-Inline-1 w ↦ lift_found bs (game_line game) f v m c.is_lt-rises.result c.if-rises.result least either (rw w.if-rises.false w.result-is)
    ]
