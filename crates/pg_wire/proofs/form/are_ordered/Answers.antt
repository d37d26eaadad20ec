use Rattle.std.proofs.Common.{refl, sym, ◌∙◌}
use Rattle.pg_wire.proofs.Orders.{ordered, follow, goes_on, stops, past}
use Rattle.pg_wire.proofs.form.are_ordered.Goals as goal

pub returns-then-not-fits : goal.returns-then-not-fits
returns-then-not-fits g c =
    let steps = g.met.F.Form.steps c.args.width in (
      λ no. absurd cc,
      λ h.
          let all = follow (g.F.Form.kind c.args.width) steps c.args.place c.args.items.now h in
          let fits = stops (g.F.Form.kind c.args.width) c.args.place c.loop-item.at c.loop-item.item-index c.args.items.now c.item-item.result c.loop-item-test.true c.item-item.is c.loop-item.invariant all in
          sym c.if-not-fits.true ∙ c.fits.ensures.1 fits,
    )

pub loop-item-preserved : goal.loop-item-preserved
loop-item-preserved g c =
    rw (c.place_after_item-at.ensures c.args.width) (goes_on (g.F.Form.kind c.args.width) c.args.place c.loop-item.at c.loop-item.item-index c.args.items.now c.item-item.result c.loop-item-test.true c.item-item.is (c.fits.ensures.0 c.if-not-fits.false) c.loop-item.invariant)

pub returns : goal.returns
returns g c =
    let steps = g.met.F.Form.steps c.args.width in (
      λ yes. ordered (g.F.Form.kind c.args.width) steps c.args.place c.args.items.now (c.loop-item.invariant.whole (past (g.F.Form.kind c.args.width) c.loop-item.at c.loop-item.item-index c.args.items.now c.loop-item-test.false)),
      λ h. refl,
    )
