use Rattle.pg_hoa.proofs.Common.{◌≡◌, ◌∙◌, ℕ, ◌||◌, get_or, ap, arith, bit_or, length-set, truth}
use Rattle.pg_hoa.proofs.TableWords.{one_more_word, other_words, truth_or}
use Rattle.pg_hoa.proofs.letters.add.Goals as goal

pub loop-k-preserved : goal.loop-k-preserved
loop-k-preserved c =
    let k = c.loop-k.k in
    let l : ℕ = get_or c.loop-k.words k 0 in
    let r : ℕ = get_or c.args.others.now k 0 in
    record {
      many = length-set c.loop-k.words k (bit_or l r) ∙ c.loop-k.invariant.many;
      changed = λ i j below.
          one_more_word (λ w n. truth w j ≡ (truth (get_or c.args.words.now n 0) j || truth (get_or c.args.others.now n 0) j))
          c.loop-k.words k
          (bit_or l r) (omega (arith, c.loop-k.invariant.many)) (λ n h. c.loop-k.invariant.changed n j h)
          (truth_or l r j ∙ ap (λ w. truth w j || truth r j) (c.loop-k.invariant.others k (omega arith))) i below;
      others = λ i h. other_words c.loop-k.words k (bit_or l r) i h ∙ c.loop-k.invariant.others i (omega arith);
    }
