use Rattle.std.proofs.Common.{◌≡◌, ℕ, List, length, arith, ap, sym, subst, ◌∙◌}
use Rattle.std.proofs.lemmas.List.{length_push}
use Rattle.pg_ltl.specs.Tableaux.{choices}
use Rattle.pg_ltl.specs.Mirrors.Nodes.{normal_at}
use Rattle.pg_means_look.specs.Mirrors.Tables.{truth_at}
use Rattle.pg_means_look.specs.Mirrors.Choices.{part}
use Rattle.pg_means_look.specs.Mirrors.Pools.{Has, AreRows}
use Rattle.pg_means_look.proofs.Pooling.{stands_push}
use Rattle.pg_means_look.proofs.pool.Pool.rows.Goals as goal

pub loop-place-preserved : goal.loop-place-preserved
loop-place-preserved c =
    record {
      long = omega (arith, ap length c.in_ok-push.ensures.items, length_push c.loop-place.rows.items c.in_ok-row.field-0);
      rows = λ forms are is.
          let on = λ (p : ℕ). truth_at c.args.truths.now p c.args.letter in
          let old = c.loop-place.self.lists.items in
          let new = c.row.new.self.lists.items in
          let before = c.loop-place.invariant.rows forms are is in
          let this = ap (part forms) c.loop-place.invariant.long ∙ are c.loop-place.place c.loop-place-test.true
          ∙ ap (normal_at forms) (sym c.node_at.ensures) in
          let made = subst (λ (ns : List ℕ). AreRows on forms old ns → part forms (length ns) ≡ normal_at forms c.node_at.result
          → Has forms old new (choices on (part forms (length ns))) c.in_ok-row.field-0)
          c.deref.ensures.value (c.in_ok-row.ensures forms before.0) before.1 this in (
            made.is,
            stands_push made.grows (λ place. choices on (part forms place)) c.loop-place.rows.items c.push.new.self.items c.in_ok-row.field-0
                before.1 c.in_ok-push.ensures.items made.stands,
          );
    }
