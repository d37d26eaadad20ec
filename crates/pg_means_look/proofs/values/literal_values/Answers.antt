use Rattle.std.proofs.Common.{◌≡◌, ◌<◌, length, get_or, arith, ap, sym, ◌∙◌}
use Rattle.std.proofs.lemmas.List.{length_push}
use Rattle.pg_means_look.specs.Mirrors.Tables.{truth_at}
use Rattle.pg_means_look.proofs.Sound.{values_push}
use Rattle.pg_means_look.proofs.values.literal_values.Goals as goal

pub loop-letter-preserved : goal.loop-letter-preserved
loop-letter-preserved c =
    let long : length c.loop-letter.values.items ≡ c.loop-letter.letter-index = c.loop-letter.invariant.long in
    record {
      long = omega (arith, ap length c.in_ok-push.ensures.items, length_push c.loop-letter.values.items c.is_same.result);
      so =
          values_push (λ i. (i < length c.args.letters.now) × (truth_at c.args.truths.now c.args.proposition (get_or c.args.letters.now i 0) ≡ c.args.is_so))
          c.loop-letter.values.items c.push.new.self.items c.is_same.result c.in_ok-push.ensures.items c.loop-letter.invariant.so
          (λ now. (
            omega arith,
            ap (λ n. truth_at c.args.truths.now c.args.proposition (get_or c.args.letters.now n 0)) long ∙ sym c.holds.ensures ∙ c.is_same.ensures now,
          ));
    }
