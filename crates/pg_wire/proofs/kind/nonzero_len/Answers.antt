use Rattle.std.proofs.Common.{ap, refl, [], ◌∷◌, length, take, get_or, length-append, arith}
use Rattle.pg_wire.specs.Measured.{nonzero}
use Rattle.pg_wire.proofs.Nonzero.{nonzero_zero, nonzero_some}
use Rattle.pg_wire.proofs.kind.nonzero_len.Goals as goal
use Rattle.pg_wire.proofs.kind.nonzero_len.Goals.{then-is_told, else-is_told}

pub loop-n-preserved : goal.loop-n-preserved
loop-n-preserved c =
    let xs = c.args.list.now in
    let i = c.loop-n.n-index in
    elim c.if-is_told.branch [
      | then-is_told w ↦ record {
        count = omega (
          arith,
          ap length (nonzero_some xs i c.loop-n-test.true (w.if-is_told.ensures.told refl)),
          length-append (nonzero (take i xs)) ((i, get_or xs i 0) ∷ []),
        );
        few = omega arith;
      }
      | else-is_told w ↦ record {
        count = omega (arith, ap length (nonzero_zero xs i c.loop-n-test.true (w.if-is_told.ensures.untold refl)));
        few = omega arith;
      }
    ]
