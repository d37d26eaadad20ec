use Rattle.std.proofs.Common.{◌≡◌, ℕ, ◌+◌, ◌<◌, Bool, List, length, arith, ap, ◌∙◌}
use Rattle.std.proofs.lemmas.List.{length_push}
use Rattle.pg_means_look.proofs.Steps.{rows_push}
use Rattle.pg_satisfies_check.specs.Mirrors.Lassos.{truth_on}
use Rattle.pg_satisfies_check.proofs.lasso.truths.Goals as goal

pub loop-p-preserved : goal.loop-p-preserved
loop-p-preserved c =
    let lists = c.loop-p.lists.items in
    let rows = c.args.rows.now in
    let latches = length c.args.system.now.latches.items in
    let list = c.in_ok-list.list in
    let long : length lists ≡ c.loop-p.p = c.loop-p.invariant.long in
    let grown : length c.push.new.self.items ≡ c.loop-p.p + 1 =
    omega (arith, ap length c.in_ok-push.ensures.items, length_push lists list, long) in
    let at : c.len.result + c.loop-p.p ≡ latches + length lists = omega (arith, c.len.ensures, c.args.system.now.latches.ok.0, long) in
    record {
      long = grown;
      so = λ q lt.
          rows_push lists (λ k (xs : List Bool). xs ≡ truth_on rows (latches + k)) list c.push.new.self.items c.in_ok-push.ensures.items
          (λ k less. c.loop-p.invariant.so k (omega arith)) (c.in_ok-list.ensures ∙ ap (truth_on rows) at) q (omega arith);
    }
