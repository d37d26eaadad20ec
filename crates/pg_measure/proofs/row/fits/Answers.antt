use Rattle.std.proofs.Common.{refl, arith}
use Rattle.pg_measure.proofs.Rows.{same_length, fits_each, fit_each}
use Rattle.pg_measure.proofs.row.fits.Goals as goal

pub returns-then-list-bounds : goal.returns-then-list-bounds
returns-then-list-bounds c = (λ h. (cc), λ f. let e = same_length c.args.bounds.now c.args.list.now f in let n = c.if-list-bounds.true in absurd (omega arith))

pub returns-then-list-i : goal.returns-then-list-i
returns-then-list-i c = (λ h. (cc), λ f. let e = fit_each c.args.bounds.now c.args.list.now c.loop-i.i (0, 0) f (omega arith) in absurd (omega arith))

pub returns : goal.returns
returns c = (λ h. fits_each c.args.bounds.now c.args.list.now (omega arith) (λ k d l. c.loop-i.invariant k d (omega arith)), λ f. refl)
