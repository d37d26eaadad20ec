use Rattle.pg_hoa.proofs.Common.{◌≡◌, ◌∙◌, ℕ, ◌-◌, cond, true, false, get_or, ap, arith, length-set, truth}
use Rattle.pg_hoa.proofs.TableWords.{one_more_word, other_words, truth_not}
use Rattle.pg_hoa.proofs.letters.turn.Goals as goal

pub loop-k-preserved : goal.loop-k-preserved
loop-k-preserved c =
    let k = c.loop-k.k in
    let word : ℕ = get_or c.loop-k.words k 0 in
    record {
      many = length-set c.loop-k.words k (18446744073709551615 - word) ∙ c.loop-k.invariant.many;
      changed = λ i j below small.
          one_more_word (λ w n. truth w j ≡ cond (truth (get_or c.args.words.now n 0) j) false true) c.loop-k.words k
          (18446744073709551615 - word) (omega (arith, c.loop-k.invariant.many)) (λ n h. c.loop-k.invariant.changed n j h small)
          (truth_not word j (omega arith) small ∙ ap (λ w. cond (truth w j) false true) (c.loop-k.invariant.others k (omega arith))) i
          below;
      others = λ i h. other_words c.loop-k.words k (18446744073709551615 - word) i h ∙ c.loop-k.invariant.others i (omega arith);
    }
