use Rattle.pg_worker.proofs.Common.{◌≡◌, ◌<◌, ◌≤◌, ◌∷◌, ◌∙◌, [], length, ap, sym, inr, arith, VertexLine, Line, Some, line_with, told_line}
use Rattle.pg_worker.proofs.Common.{FitsGame, IsWhole, length-set, set}
use Rattle.pg_worker.proofs.Working.{above_next, next_above, next_after}
use Rattle.pg_worker.proofs.Growing.{only}
use Rattle.pg_worker.proofs.worker.Worker.add_vertex.Goals as goal
use Rattle.pg_worker.proofs.worker.Worker.add_vertex.Goals.{After-reserve}

pub returns-then-from-self-clause-refused : goal.returns-then-from-self-clause-refused
returns-then-from-self-clause-refused c = inr (λ above.
    let w = c.self.inside in
    let l = line_with c.args.head c.args.successors.now in
    let all = above_next w.lifter.lines w.next (l ∷ []) c.self.invariant.above (rw (← c.self.view_is) at above) in
    let first = all 0 l (omega arith) in
    let less = c.if-from-self.true in
    let same = c.from.ensures in
    absurd (omega arith))

pub returns-then-not-fits_line-clause-refused : goal.returns-then-not-fits_line-clause-refused
returns-then-not-fits_line-clause-refused c =
    let w = c.self.inside in
    let l = line_with c.args.head c.args.successors.now in
    let from : w.next ≤ c.args.head.vertex = let a = c.if-from-self.false in let b = c.from.ensures in omega arith in
    rw (← c.self.view_is) (inr (
      next_above w.lifter.lines w.next (l ∷ []) c.self.invariant.above (only (λ (k : VertexLine). w.next ≤ k.vertex) l from),
      λ all.
          let fit : FitsGame w.lifter.map.bounds (length w.lifter.map.measures) l = all 0 l (omega arith) in
          let told : FitsGame c.bounds.result.now c.len.result l = rw (c.bounds.ensures, c.len.ensures.value) fit in
          absurd (cc (c.if-not-fits_line.true, c.fits_line.ensures.1 told)),
    ))

whole : (c : After-reserve) → IsWhole c.reserve.new.self c.self.inside.next c.self.inside.lifted.count
whole c = rw c.reserve.ensures c.self.invariant

-- a line for each vertex
size : (c : After-reserve) → c.len.result ≡ length c.reserve.new.self.lines
size c = c.len.ensures.value ∙ (ap (λ (l : _). length l.map.measures) (sym c.reserve.ensures) ∙ sym (whole c).size)

fit : (c : After-reserve) → FitsGame c.bounds.result.now c.len.result (line_with c.args.head c.args.successors.now)
fit c = c.fits_line.ensures.0 c.if-not-fits_line.false

pub add-requires-clause-size : goal.add-requires-clause-size
add-requires-clause-size c = (whole (goal.at.add-requires-clause-size c).After-reserve).size

pub add-requires-clause-v : goal.add-requires-clause-v
add-requires-clause-v c =
    let k = (goal.at.add-requires-clause-v c).After-reserve in
    let a = (fit k).vertex in let s = size k in omega arith

pub add-requires-clause-within : goal.add-requires-clause-within
add-requires-clause-within c =
    let k = (goal.at.add-requires-clause-within c).After-reserve in
    rw c.in_ok-line.ensures (λ i d lt. let a = (fit k).successors i d lt in let s = size k in omega arith)

pub add-requires-clause-some : goal.add-requires-clause-some
add-requires-clause-some c = rw c.in_ok-line.ensures c.requires

pub invariant_of-self-2 : goal.invariant_of-self-2
invariant_of-self-2 c =
    let k = (goal.at.invariant_of-self-2 c).After-reserve in
    let w = whole k in
    let v = c.args.head.vertex in
    let lines = c.reserve.new.self.lines in
    let l = told_line (line_with c.args.head c.args.successors.now) in
    let lt : v < length lines = let a = (fit k).vertex in let s = size k in omega arith in
    let from : c.self.inside.next ≤ v = let a = c.if-from-self.false in let b = c.from.ensures in omega arith in
    let added : c.add.new.self.lines ≡ set lines v (Some l) = c.add.ensures.lines ∙ ap (λ (k : Line). set lines v (Some k)) c.in_ok-line.ensures in
    rw (c.from-2.ensures, c.add.ensures.map, added) record {
      size = length-set lines v (Some l) ∙ w.size;
      above = next_after lines v c.self.inside.next l lt from w.above;
      listed = w.listed;
    }
