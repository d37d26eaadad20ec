use Rattle.std.proofs.Common.{◌≡◌, ◌-◌, Bool, List, true, length, arith, ap, ◌∙◌}
use Rattle.std.proofs.lemmas.List.{length-set}
use Rattle.pg_means_look.specs.Mirrors.Places.{behind, value_at}
use Rattle.pg_means_look.proofs.Sound.{until_step, why_until}
use Rattle.pg_means_look.proofs.values.pass_until.Goals as goal

pub loop-i-preserved-then-is_until : goal.loop-i-preserved-then-is_until
loop-i-preserved-then-is_until c =
    let i = c.loop-i.i - 1 in
    let count : c.len-count.result ≡ length c.args.values.items = omega (arith, c.len-count.ensures, c.args.values.ok.0) in
    let later = c.value-later.ensures ∙ ap (λ (xs : List Bool). value_at xs c.behind.result) c.deref.ensures.value
    ∙ ap (value_at c.loop-i.values.items) (c.behind.ensures ∙ ap (λ n. behind n c.args.back i) count) in
    record {
      within = omega (arith, length-set c.loop-i.values.items i true, c.loop-i.invariant.within);
      long = length-set c.loop-i.values.items i true ∙ c.loop-i.invariant.long;
      sound = λ word f g left right was.
          until_step (length c.args.values.items) c.args.back word f g c.args.left.now c.args.right.now left right c.loop-i.values.items i
          (c.loop-i.invariant.sound word f g left right was)
          (why_until (value_at c.args.right.now i) (value_at c.args.left.now i)
          (value_at c.loop-i.values.items (behind (length c.args.values.items) c.args.back i)) c.value.result c.value-in-loop-i.result
          c.value-later.result c.value.ensures c.value-in-loop-i.ensures later (c.is_until.ensures c.if-is_until.true));
    }
