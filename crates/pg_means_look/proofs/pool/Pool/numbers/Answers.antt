use Rattle.std.proofs.Common.{ℕ, List, length, arith, ap, sym, subst, ◌∙◌}
use Rattle.std.proofs.lemmas.List.{length_push}
use Rattle.pg_ltl.specs.Tableaux.{choices_of}
use Rattle.pg_means_look.specs.Mirrors.Tables.{row_at}
use Rattle.pg_means_look.specs.Mirrors.Choices.{parts}
use Rattle.pg_means_look.specs.Mirrors.Pools.{Stands}
use Rattle.pg_means_look.proofs.Steps.{row_read}
use Rattle.pg_means_look.proofs.Pooling.{grows_on, stands_on, stands_push}
use Rattle.pg_means_look.proofs.pool.Pool.numbers.Goals as goal

pub loop-set-preserved : goal.loop-set-preserved
loop-set-preserved c =
    record {
      long = omega (arith, ap length c.in_ok-push.ensures.items, length_push c.loop-set.numbers.items c.in_ok-set.field-0);
      numbers = λ forms letter is rows.
          let before = c.loop-set.invariant.numbers forms letter is rows in
          let next = c.in_ok-set.ensures forms letter before.0 (λ place lt. stands_on before.1 (rows place lt)) in
          let all = λ (s : ℕ). choices_of letter (parts forms (row_at c.args.sets.now s)) in
          let set = c.deref.ensures.value
          ∙ sym (row_read c.args.sets.now c.set-item.result c.loop-set.set-index c.loop-set-test.true c.set-item.is)
          ∙ ap (row_at c.args.sets.now) (sym c.loop-set.invariant.long) in
          let last = subst (λ (xs : List ℕ). Stands forms c.set.new.self.lists.items (choices_of letter (parts forms xs)) c.in_ok-set.field-0) set
          next.stands in (
            next.is,
            grows_on before.1 next.grows,
            stands_push next.grows all c.loop-set.numbers.items c.push.new.self.items c.in_ok-set.field-0 before.2 c.in_ok-push.ensures.items last,
          );
    }
