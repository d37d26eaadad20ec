use Rattle.pg_coord_rounds.proofs.Common.{length, refl, sym, ◌∙◌, arith, game_line, AreWithin, game_line_some, passed_none, passed_more}
use Rattle.pg_coord_rounds.proofs.Moving.{passed_moves, passed_closed}
use Rattle.pg_coord_rounds.proofs.pass.pass.Goals as goal

pub loop-number-init : goal.loop-number-init
loop-number-init c =
    let m = c.len-map.ensures.map in
    record {
      size = c.requires.size;
      passed = rw c.requires.rose (passed_none (game_line c.args.game.now) c.args.coordinator.now.map (record { size = refl; fits = m.fits }));
    }

pub loop-number-preserved : goal.loop-number-preserved
loop-number-preserved c =
    let inv = c.loop-number.invariant in
    let e = c.lift.ensures in
    record {
      size = e.map.size ∙ inv.size;
      passed = rw e.rose (passed_more (game_line c.args.game.now) c.args.coordinator.now.map c.loop-number.coordinator.map c.lift.new.self.map c.loop-number.coordinator.rose c.lift.result c.loop-number.number inv.passed record {
        bounds = e.bounds;
        map = e.map;
        lifts = e.lifted;
        served = e.served;
        same = e.same;
        under = e.under;
        weight = e.weight;
      });
    }

pub returns-clause-moves : goal.returns-clause-moves
returns-clause-moves c = passed_moves (game_line c.args.game.now) c.args.coordinator.now c.loop-number.coordinator c.loop-number.number c.requires.rose c.loop-number.invariant.passed

pub returns-clause-map : goal.returns-clause-map
returns-clause-map c = let p = c.loop-number.invariant.passed in rw (p.bounds, sym c.requires.size) p.map

pub returns-clause-under : goal.returns-clause-under
returns-clause-under c = c.loop-number.invariant.passed.under

pub returns-clause-covers : goal.returns-clause-covers
returns-clause-covers c = λ v lt. c.loop-number.invariant.passed.covered v (let past = c.loop-number-test.false in omega arith)
    (game_line_some c.args.game.now v lt)

pub returns-clause-closed : goal.returns-clause-closed
returns-clause-closed c = λ stays.
    let within : AreWithin (length c.args.game.now) (game_line c.args.game.now) = (c.game_lines.ensures c.args.game.now c.len-number-end.ensures.game).0 in
    passed_closed (game_line c.args.game.now) c.args.coordinator.now.map c.loop-number.coordinator
    (length c.args.game.now) c.loop-number.number c.loop-number.invariant.passed within (omega arith) stays
