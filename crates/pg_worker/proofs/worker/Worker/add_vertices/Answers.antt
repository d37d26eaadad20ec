use Rattle.pg_worker.proofs.Common.{◌≡◌, ◌∙◌, length, ap, sym, inr, arith, IsWhole, FitsGame, All}
use Rattle.pg_worker.proofs.Working.{above_next, with_lines_size}
use Rattle.pg_worker.proofs.worker.Worker.add_vertices.Goals as goal
use Rattle.pg_worker.proofs.worker.Worker.add_vertices.Goals.{After-reserve}

pub returns-then-not-are_from-clause-refused : goal.returns-then-not-are_from-clause-refused
returns-then-not-are_from-clause-refused c = inr (λ above.
    let w = c.self.inside in
    let all = above_next w.lifter.lines w.next c.args.lines.now c.self.invariant.above (rw (← c.self.view_is) at above) in
    absurd (cc (c.if-not-are_from.true, c.are_from.ensures.1 all)))

whole : (c : After-reserve) → IsWhole c.reserve.new.self c.self.inside.next c.self.inside.lifted.count
whole c = rw c.reserve.ensures c.self.invariant

pub add_lines-requires-clause-size : goal.add_lines-requires-clause-size
add_lines-requires-clause-size c = (whole (goal.at.add_lines-requires-clause-size c).After-reserve).size

pub add_lines-requires-clause-next : goal.add_lines-requires-clause-next
add_lines-requires-clause-next c = (whole (goal.at.add_lines-requires-clause-next c).After-reserve).above

-- the lines fit the game
fit : (c : After-reserve) → All (FitsGame c.bounds.result.now c.len.result) c.args.lines.now
fit c = c.fit_game.ensures.0 c.if-not-fit_game.false

-- a line for each vertex
size : (c : After-reserve) → c.len.result ≡ length c.reserve.new.self.lines
size c = c.len.ensures.value ∙ (ap (λ (l : _). length l.map.measures) (sym c.reserve.ensures) ∙ sym (whole c).size)

pub add_lines-requires-clause-below : goal.add_lines-requires-clause-below
add_lines-requires-clause-below c =
    let k = (goal.at.add_lines-requires-clause-below c).After-reserve in
    λ i d lt. let a = (fit k i d lt).vertex in let s = size k in omega arith

pub add_lines-requires-clause-within : goal.add_lines-requires-clause-within
add_lines-requires-clause-within c =
    let k = (goal.at.add_lines-requires-clause-within c).After-reserve in
    λ i d lt. λ j e less. let a = (fit k i d lt).successors j e less in let s = size k in omega arith

pub invariant_of-self-2 : goal.invariant_of-self-2
invariant_of-self-2 c =
    let w = whole (goal.at.invariant_of-self-2 c).After-reserve in
    let added = c.add_lines.ensures in
    rw added.map record {
      size = ap length added.lines ∙ (with_lines_size c.reserve.new.self.lines c.args.lines.now ∙ w.size);
      above = added.next;
      listed = w.listed;
    }
