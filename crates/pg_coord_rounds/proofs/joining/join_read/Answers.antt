use Rattle.pg_coord_rounds.proofs.Common.{ℕ, ◌<◌, List, [], ◌∷◌, length, sym, subst, ◌∙◌, BoundList, MeasureValue, Fits, measure_in, Measured}
use Rattle.pg_coord_rounds.proofs.Common.{Joins, joins_none, in_row}
use Rattle.pg_coord_rounds.proofs.Moving.{moves_none, moves_more}
use Rattle.pg_coord_rounds.proofs.Joins.{joins_then, joins_one, read_none, read_more, read_holds, read_all}
use Rattle.pg_coord_rounds.proofs.joining.join_read.Goals as goal

pub each-init : goal.each-init
each-init c =
    let f = c.args.coordinator.now.map.measures in
    record {
      size = c.requires.row;
      moves = moves_none c.args.coordinator.now;
      joined = λ ms h. read_none (λ front. Joins f front f) ms c.args.values h (joins_none f);
    }

pub raise-requires-clause-v : goal.raise-requires-clause-v
raise-requires-clause-v c =
    let inv = c.each.invariant in
    let fit = c.requires.fit in
    let P : Measured → Type 0 = λ m. (m.0 < length c.args.coordinator.now.map.measures) × Fits c.args.coordinator.now.map.bounds m.1 in
    let one = read_holds P _ fit.0 c.each.values c.next.new.self c.each.row c.next.new.row c.in-Some.vertex c.in-Some.is_top c.in-Some.ensures.next
    (inv.joined fit.0 fit.1) fit.2 in
    subst (λ (n : ℕ). c.in-Some.vertex < n) (sym inv.moves.size) one.0

pub raise-requires-clause-fits : goal.raise-requires-clause-fits
raise-requires-clause-fits c =
    let inv = c.each.invariant in
    let fit = c.requires.fit in
    let P : Measured → Type 0 = λ m. (m.0 < length c.args.coordinator.now.map.measures) × Fits c.args.coordinator.now.map.bounds m.1 in
    let one = read_holds P _ fit.0 c.each.values c.next.new.self c.each.row c.next.new.row c.in-Some.vertex c.in-Some.is_top c.in-Some.ensures.next
    (inv.joined fit.0 fit.1) fit.2 in
    subst (λ (bs : BoundList). Fits bs (measure_in c.lent_row.result)) (sym inv.moves.bounds)
    (subst (Fits c.args.coordinator.now.map.bounds) (sym c.lent_row.ensures) one.1)

pub each-preserved : goal.each-preserved
each-preserved c =
    let inv = c.each.invariant in
    let e = c.raise.ensures in
    let f = c.args.coordinator.now in
    let g = c.each.coordinator in
    let g' = c.raise.new.self in
    let m = in_row c.in-Some.is_top c.next.new.row in
    let Joined : List Measured → Type 0 = λ ms. Joins g.map.measures ms g'.map.measures in
    let one : Joined ((c.in-Some.vertex, m) ∷ []) =
    subst (λ (n : MeasureValue). Joined ((c.in-Some.vertex, n) ∷ [])) c.lent_row.ensures (joins_one g g' c.in-Some.vertex _ e.moves e.above e.least) in
    record {
      size = c.next.auto.row ∙ inv.size ∙ sym c.next.ensures.of.1;
      moves = moves_more f g g' inv.moves e.moves;
      joined = λ ms h.
          read_more (λ front. Joins f.map.measures front g.map.measures) (λ front. Joins f.map.measures front g'.map.measures) ms c.each.values c.next.new.self
          c.each.row c.next.new.row c.in-Some.vertex c.in-Some.is_top c.in-Some.ensures.next
          (λ front j. joins_then f.map.measures g.map.measures g'.map.measures front ((c.in-Some.vertex, m) ∷ []) j one) (inv.joined ms h);
    }

pub returns-clause-joins : goal.returns-clause-joins
returns-clause-joins c = λ ms h.
    read_all (λ front. Joins c.args.coordinator.now.map.measures front c.each.coordinator.map.measures) ms c.each.values c.next.new.self c.each.row
    c.next.new.row c.in_default.ensures.next (c.each.invariant.joined ms h)
