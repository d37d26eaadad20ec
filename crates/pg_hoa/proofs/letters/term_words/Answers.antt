use Rattle.pg_hoa.proofs.Common.{◌≡◌, ◌∙◌, ◌+◌, ◌*◌, arith, length-set, truth, fits}
use Rattle.pg_hoa.proofs.TableWords.{one_more_word}
use Rattle.pg_hoa.proofs.letters.term_words.Goals as goal

pub loop-k-preserved : goal.loop-k-preserved
loop-k-preserved c = record {
  many = length-set c.loop-k.words c.loop-k.k c.block_word.result ∙ c.loop-k.invariant.many;
  changed = λ i j below.
      one_more_word (λ w n. truth w j ≡ fits (c.args.run * 16 + n) j c.args.term) c.loop-k.words c.loop-k.k c.block_word.result
      (omega (arith, c.loop-k.invariant.many)) (λ n h. c.loop-k.invariant.changed n j h) (c.block_word.ensures j) i below;
}
