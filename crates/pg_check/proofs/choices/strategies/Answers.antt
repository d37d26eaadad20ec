use Rattle.pg_check.proofs.Common.{◌≡◌, ◌<◌, length, arith, sym, subst, ◌∙◌, IsStrictlyIncreasing, IsSome, length-replicate, Even, Odd}
use Rattle.pg_check.proofs.Common.{dual, game_line, line_at, AreWithin}
use Rattle.pg_check.proofs.Certified.{has_line, certifies_from_closed, sound_from_certificate}
use Rattle.pg_check.proofs.Chosen.{lines_within, lines_rise, has_list, answer_by, answered_more, solution_from_upto, least_from_upto, is_solution}
use Rattle.pg_check.proofs.choices.strategies.Goals.{then-not-is_top, else-not-is_top+then-not-is_top-2}
use Rattle.pg_check.proofs.choices.strategies.Goals as goal

pub loop-number-init : goal.loop-number-init
loop-number-init g c = record {
  whole = subst (λ s. length s ≡ length c.args.game.now) (sym c.in_ok-solution.ensures) (length-replicate (length c.args.game.now) _);
  answers = λ u lt. absurd (omega arith);
}

pub choice_at-requires-clause-within : goal.choice_at-requires-clause-within
choice_at-requires-clause-within g c = lines_within Even c.args.game.now _ c.len-number-end.ensures.game c.requires.even_size

pub choice_at-requires-clause-rising : goal.choice_at-requires-clause-rising
choice_at-requires-clause-rising g c =
    lines_rise Even c.args.game.now c.len-number-end.ensures.game c.loop-number.number (omega arith)

pub set-requires : goal.set-requires
set-requires g c = let whole = c.loop-number.invariant.whole in omega arith

pub choice_at-requires-then-not-is_top-2-clause-held : goal.choice_at-requires-then-not-is_top-2-clause-held
choice_at-requires-then-not-is_top-2-clause-held g c =
    subst (λ game. IsSome (game_line (dual game) c.loop-number.number)) (sym c.of-dual.ensures)
    (has_line Odd c.args.game.now c.loop-number.number (omega arith))

pub choice_at-requires-then-not-is_top-2-clause-within : goal.choice_at-requires-then-not-is_top-2-clause-within
choice_at-requires-then-not-is_top-2-clause-within g c =
    subst (λ game. AreWithin (length (g.O.Measures.map c.args.odd.now).measures) (game_line (dual game))) (sym c.of-dual.ensures)
    (lines_within Odd c.args.game.now _ c.len-number-end.ensures.game c.requires.odd_size)

pub choice_at-requires-then-not-is_top-2-clause-rising : goal.choice_at-requires-then-not-is_top-2-clause-rising
choice_at-requires-then-not-is_top-2-clause-rising g c =
    subst (λ game. IsStrictlyIncreasing (line_at (game_line (dual game)) c.loop-number.number).successors) (sym c.of-dual.ensures)
    (lines_rise Odd c.args.game.now c.len-number-end.ensures.game c.loop-number.number (omega arith))

pub set-requires-then-not-is_top-2 : goal.set-requires-then-not-is_top-2
set-requires-then-not-is_top-2 g c = let whole = c.loop-number.invariant.whole in omega arith

pub returns-else-not-is_top-2-clause-fault : goal.returns-else-not-is_top-2-clause-fault
returns-else-not-is_top-2-clause-fault g c =
    least_from_upto c.args.game.now (g.E.Measures.map c.args.even.now) (g.O.Measures.map c.args.odd.now) c.loop-number.solution
    c.loop-number.number c.identifier.result (omega arith) c.loop-number.invariant (c.is_top.ensures.0 c.if-not-is_top.false)
    (c.is_top-else-not-is_top.ensures.0 c.if-not-is_top-2.false) c.identifier.ensures

pub loop-number-preserved : goal.loop-number-preserved
loop-number-preserved g c =
    let game = c.args.game.now in
    let even = g.E.Measures.map c.args.even.now in
    let odd = g.O.Measures.map c.args.odd.now in
    let v = c.loop-number.number in
    let before = c.loop-number.solution in
    let lt : v < length game = omega arith in
    let is_game = c.len-number-end.ensures.game in
    elim c.if-not-is_top.branch [
      | then-not-is_top w ↦
          let list = has_list c.is_top.result _ c.is_top.ensures.1 w.if-not-is_top.true in
          let here = w.choice_at.ensures in
          answered_more game even odd before c.if-not-is_top.solution v _ lt c.loop-number.invariant (w.solution-is ∙ w.set.ensures)
          (answer_by game even odd is_game c.requires.closed v lt Even list w.choice_at.result here.first here.none here.elsewhere)
      | else-not-is_top+then-not-is_top-2 w ↦
          let list = has_list w.is_top-else-not-is_top.result _ w.is_top-else-not-is_top.ensures.1 w.if-not-is_top-2.true in
          let found = w.choice_at-then-not-is_top-2.result in
          let here = rw c.of-dual.ensures at w.choice_at-then-not-is_top-2.ensures in
          answered_more game even odd before c.if-not-is_top.solution v _ lt c.loop-number.invariant (w.solution-is ∙ w.set-then-not-is_top-2.ensures)
          (answer_by game even odd is_game c.requires.closed v lt Odd list found here.first here.none here.elsewhere)
    ]

pub returns-clause-solution : goal.returns-clause-solution
returns-clause-solution g c =
    solution_from_upto c.args.game.now (g.E.Measures.map c.args.even.now) (g.O.Measures.map c.args.odd.now) c.loop-number.solution
    c.loop-number.number (omega arith) c.loop-number.invariant

pub returns-clause-choices : goal.returns-clause-choices
returns-clause-choices g c =
    let f = g.E.Measures.map c.args.even.now in
    let h = g.O.Measures.map c.args.odd.now in
    is_solution c.args.game.now f h c.loop-number.solution
    (solution_from_upto c.args.game.now f h c.loop-number.solution c.loop-number.number (omega arith) c.loop-number.invariant)

pub returns-clause-sound : goal.returns-clause-sound
returns-clause-sound g c =
    let game = c.args.game.now in
    let f = g.E.Measures.map c.args.even.now in
    let h = g.O.Measures.map c.args.odd.now in
    let solution = c.loop-number.solution in
    let is_game = c.len-number-end.ensures.game in
    let is = solution_from_upto game f h solution c.loop-number.number (omega arith) c.loop-number.invariant in
    sound_from_certificate game f h solution (certifies_from_closed game f h solution is_game c.requires.closed is) is_game
