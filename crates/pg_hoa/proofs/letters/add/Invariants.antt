use Rattle.pg_hoa.proofs.Common.{◌≡◌, ℕ, ◌<◌, ◌≤◌, ◌||◌, length, get_or, truth_in}
use Rattle.pg_hoa.proofs.letters.add.Given as goal

-- the words so far, and the others as they were
abbrev pub invariant-loop-k : goal.invariant-loop-k
invariant-loop-k l = record {
  many : length l.words ≡ 16;
  changed : (i j : ℕ) → i < l.k → truth_in l.words i j ≡ (truth_in l.initial.words i j || truth_in l.others i j);
  others : (i : ℕ) → l.k ≤ i → get_or l.words i 0 ≡ get_or l.initial.words i 0;
}
