use Rattle.pg_worker.proofs.Common.{◌≡◌, ◌<◌, ◌∷◌, ◌++◌, [], ◌+◌, ◌∙◌, List, ℕ, suc, length, map, take, drop, get_or, set, ◌≤◌, sym, ap, subst, arith, Some}
use Rattle.pg_worker.proofs.Common.{All, Line, get_or_default, take_at_read, VertexLine, told_line, with_lines, length-set}
use Rattle.pg_worker.proofs.Common.{length-map, length-drop}
use Rattle.std.proofs.Math.Seq.{drop-cons}
use Rattle.pg_worker.proofs.Working.{next_after, with_lines_more}
use Rattle.pg_worker.proofs.adding.add_lines.Goals as goal
use Rattle.pg_worker.proofs.adding.add_lines.Goals.{After-pop_front}

-- what is asked of each line, of this one
of_line : (c : After-pop_front) (P : VertexLine → Type 0) → All P c.args.lines.now → P c.line-item.result
of_line c P all = subst P (sym c.line-item.is) (all c.loop-line.line-index c.line-item.result c.loop-line-test.true)

-- the first of what is left is this line's
record First (xs : List VertexLine) (i : ℕ) (x : VertexLine) (l : Line) (rest : List Line) : Type 0 where
  pub line : l ≡ told_line x
  pub others : rest ≡ map told_line (drop (i + 1) xs)

first_left : (xs : List VertexLine) (i : ℕ) (x : VertexLine) (l : Line) (rest : List Line) → i < length xs → x ≡ get_or xs i x
    → l ∷ rest ≡ map told_line (drop i xs) → First xs i x l rest
first_left xs i x l rest lt at e =
    let next : suc i ≡ i + 1 = omega arith in
    let split : drop i xs ≡ x ∷ drop (i + 1) xs =
    drop-cons xs i x lt ∙ (ap (λ (y : VertexLine). y ∷ drop (suc i) xs) (sym at) ∙ ap (λ (n : ℕ). x ∷ drop n xs) next) in
    let same : l ∷ rest ≡ told_line x ∷ map told_line (drop (i + 1) xs) = e ∙ ap (map told_line) split in
    record { line = cc same; others = cc same }

left : (c : After-pop_front) → length c.loop-line.held.items ≡ length (drop c.loop-line.line-index c.args.lines.now)
left c = ap length c.loop-line.invariant.held ∙ length-map (drop c.loop-line.line-index c.args.lines.now) told_line

pub returns-in_default : goal.returns-in_default
returns-in_default c = absurd (omega (
  arith,
  left (goal.at.returns-in_default c).After-pop_front,
  length-drop c.loop-line.line-index c.args.lines.now,
  c.loop-line.held.ok.0,
  c.loop-line-test.true,
  c.in_default.ensures.cases.0,
))

pub loop-line-preserved : goal.loop-line-preserved
loop-line-preserved c =
    let k = (goal.at.loop-line-preserved c).After-pop_front in
    let i = c.loop-line.line-index in
    let xs = c.args.lines.now in
    let x = c.line-item.result in
    let inv = c.loop-line.invariant in
    let lt = c.loop-line-test.true in
    let lines = c.loop-line.lifter.lines in
    let first : First xs i x c.in-Some.new c.pop_front.new.self.items =
    first_left xs i x c.in-Some.new c.pop_front.new.self.items lt c.line-item.is (sym c.in-Some.ensures.items ∙ inv.held) in
    let below : x.vertex < length lines = rw inv.size (of_line k (λ (y : VertexLine). y.vertex < length c.args.lifter.now.lines) c.requires.below) in
    let here : (d : VertexLine) → get_or xs i d ≡ x = λ d. get_or_default xs i d x lt ∙ sym c.line-item.is in
    let from : c.loop-line.next ≤ x.vertex = subst (λ (y : VertexLine). c.loop-line.next ≤ y.vertex) (here x) (inv.above i x (omega arith) lt) in
    let added : c.add.new.self.lines ≡ set lines x.vertex (Some (told_line x)) = c.add.ensures.lines
    ∙ ap (λ (l : Line). set lines x.vertex (Some l)) first.line in
    let taken : take (i + 1) xs ≡ take i xs ++ x ∷ [] = (take_at_read xs i x lt).1 ∙ ap (λ y. take i xs ++ y ∷ []) (here x) in
    record {
      size = ap length added ∙ (length-set lines x.vertex (Some (told_line x)) ∙ inv.size);
      map_is = c.add.ensures.map ∙ inv.map_is;
      next = rw (c.from.ensures, added) (next_after lines x.vertex c.loop-line.next (told_line x) below from inv.next);
      above = λ j d le less. let r = subst (λ (y : VertexLine). y.vertex < (get_or xs j d).vertex) (here d)
          (c.requires.rising i j d (omega arith) less) in let f = c.from.ensures in omega arith;
      lines = added ∙ (ap (λ ls. set ls x.vertex (Some (told_line x))) inv.lines
          ∙ (sym (with_lines_more c.args.lifter.now.lines (take i xs) x) ∙ ap (with_lines c.args.lifter.now.lines) (sym taken)));
      held = first.others;
    }
