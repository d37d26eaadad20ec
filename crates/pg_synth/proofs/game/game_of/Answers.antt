use Rattle.pg_synth.proofs.Common.{◌≡◌, ◌+◌, ◌*◌, ◌<◌, ◌≤◌, ℕ, List, length, None, Some, Err, arith, refl, sym, subst, ap, ◌∙◌}
use Rattle.pg_synth.proofs.Common.{sum_by, place_identifier, edges_of, Arrival}
use Rattle.pg_synth.proofs.Made.{made}
use Rattle.pg_synth.proofs.Limits.{many_vertices, many_edges, initial_of, synth_game}
use Rattle.pg_synth.proofs.Numbers.{small}
use Rattle.pg_synth.proofs.Priorities.{low_priorities}
use Rattle.pg_synth.proofs.game.game_of.Goals as goal

pub returns-then-len-gt-MAX_VERTICES-clause-fault : goal.returns-then-len-gt-MAX_VERTICES-clause-fault
returns-then-len-gt-MAX_VERTICES-clause-fault c =
    let a = c.args.automaton.now in
    many_vertices a c.states-states.ensures.automaton
    (omega (
      arith,
      c.len.ensures,
      c.if-len-gt-MAX_VERTICES.true,
      c.in_ok-identifiers.identifiers.ok.0,
      ap length c.in_ok-identifiers.ensures,
    ))

pub overflow_mul-start : goal.overflow_mul-start
overflow_mul-start c =
    let a = c.args.automaton.now in
    let is = c.states-states.ensures.automaton in
    let g = ap (λ q. q * c.in_ok-layout.layout.width) c.start.ensures in
    let h = ap (λ w. a.start * w) c.in_ok-layout.ensures.width in
    omega (arith, small a a.start is is.start_below, g, h)

pub overflow_add-start : goal.overflow_add-start
overflow_add-start c =
    let a = c.args.automaton.now in
    let is = c.states-states.ensures.automaton in
    let g = ap (λ q. q * c.in_ok-layout.layout.width) c.start.ensures in
    let h = ap (λ w. a.start * w) c.in_ok-layout.ensures.width in
    omega (arith, small a a.start is is.start_below, g, h)

pub unwrap-initial-requires : goal.unwrap-initial-requires
unwrap-initial-requires c =
    let a = c.args.automaton.now in
    let is = c.states-states.ensures.automaton in
    let g = made a c.in-Ok.game is c.in-Ok.ensures.game in
    let v = initial_of a c.in-Ok.game g in
    let x = ap (λ q. q * c.in_ok-layout.layout.width) c.start.ensures in
    let y = ap (λ w. a.start * w) c.in_ok-layout.ensures.width in
    let id : place_identifier a (Arrival a.start None) ≡ 1 + c.start.result * c.in_ok-layout.layout.width = omega (arith, x, y) in
    rw (c.vertex_of.ensures.only v.0 v.1.in_game (v.1.identified ∙ id)) refl

pub returns-clause-game : goal.returns-clause-game
returns-clause-game c =
    let a = c.args.automaton.now in
    let is = c.states-states.ensures.automaton in
    let g = made a c.in-Ok.game is c.in-Ok.ensures.game in
    let v = initial_of a c.in-Ok.game g in
    let x = ap (λ q. q * c.in_ok-layout.layout.width) c.start.ensures in
    let y = ap (λ w. a.start * w) c.in_ok-layout.ensures.width in
    let id : place_identifier a (Arrival a.start None) ≡ 1 + c.start.result * c.in_ok-layout.layout.width = omega (arith, x, y) in
    let found = c.vertex_of.ensures.only v.0 v.1.in_game (v.1.identified ∙ id) in
    let same : Some c.unwrap-initial.result ≡ Some v.0 = sym c.unwrap-initial.ensures ∙ found in
    let ids = c.deref.ensures.value ∙ c.in_ok-identifiers.ensures in
    synth_game a c.in-Ok.game c.unwrap-initial.result is g
    (omega (arith, c.len.ensures, c.if-len-gt-MAX_VERTICES.false, c.in_ok-identifiers.identifiers.ok.0, ap length c.in_ok-identifiers.ensures))
    (subst (λ (xs : List ℕ). sum_by (edges_of a) xs ≤ 8388608) ids c.in-Ok.ensures.few) (cc same)

pub returns-clause-priorities : goal.returns-clause-priorities
returns-clause-priorities c =
    let a = c.args.automaton.now in
    let is = c.states-states.ensures.automaton in
    low_priorities a c.in-Ok.game is (made a c.in-Ok.game is c.in-Ok.ensures.game)

pub returns-in-Err-TooManyEdges-clause-fault : goal.returns-in-Err-TooManyEdges-clause-fault
returns-in-Err-TooManyEdges-clause-fault c =
    let a = c.args.automaton.now in
    let ids = c.deref.ensures.value ∙ c.in_ok-identifiers.ensures in
    many_edges a c.states-states.ensures.automaton
    (subst (λ (xs : List ℕ). 8388608 < sum_by (edges_of a) xs) ids (c.in-Err-TooManyEdges.ensures.many (ap Err c.in-Err-TooManyEdges.field-0-is)))
