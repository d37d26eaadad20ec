use Rattle.pg_hoa.proofs.Common.{◌≡◌, ℕ, ◌+◌, ◌*◌, ◌<◌, length, truth_in, fits}
use Rattle.pg_hoa.proofs.letters.term_words.Given as goal

-- the words so far
abbrev pub invariant-loop-k : goal.invariant-loop-k
invariant-loop-k l = record {
  many : length l.words ≡ 16;
  changed : (i j : ℕ) → i < l.k → truth_in l.words i j ≡ fits (l.run * 16 + i) j l.term;
}
