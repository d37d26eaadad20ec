use Rattle.std.proofs.Common.{◌≡◌, arith, ap, length}
use Rattle.pg_means_look.proofs.Levels.{fine_more, fine_each}
use Rattle.pg_means_look.proofs.certificate.Certificate.is_fine.Goals as goal

pub loop-k-preserved : goal.loop-k-preserved
loop-k-preserved c =
    fine_more c.args.self.now.levels.items c.args.parity c.args.priority c.args.puts.now c.args.v c.args.w c.loop-k.k c.level-item.result
    c.deref-level-items.result.now c.deref-level-items.ensures.value c.loop-k-test.true c.level-item.is c.loop-k.invariant c.if-not-is_fine.ensures

pub returns : goal.returns
returns c forms p parity =
    fine_each c.args.self.now c.args.parity c.args.priority c.args.puts.now c.args.v c.args.w c.loop-k.k
    (let l : length c.deref-level-items.result.now ≡ length c.args.self.now.levels.items = ap length c.deref-level-items.ensures.value in
    omega arith)
    (let l : length c.deref-level-items.result.now ≡ length c.args.self.now.levels.items = ap length c.deref-level-items.ensures.value in
    omega (arith, c.len-count.ensures, c.if-priority-count.false, c.args.self.now.levels.ok.0))
    c.requires c.loop-k.invariant forms p parity
