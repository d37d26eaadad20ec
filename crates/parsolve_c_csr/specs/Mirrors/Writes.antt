-- A solution while it is being written into arrays or read from them.
use Rattle.std.specs.Prelude.{◌≡◌, ℕ, ◌<◌, ◌≤◌, List, length, slice_index}
use Rattle.pg_text.specs.declared.answer.Answer.{Answer}
use Rattle.pg_text.specs.Solutions.{answer_at}
use Rattle.parsolve_c_csr.specs.Solutions.{answer_of}

-- the first n answers are written
pub record AreWritten (solution : List Answer) (winners strategy : List ℕ) (n : ℕ) : Type 0 where
  pub winners_long : length winners ≡ length solution
  pub strategy_long : length strategy ≡ length solution
  pub answers : (k : ℕ) → k < n → answer_of winners strategy k ≡ answer_at solution k
  pub players : (k : ℕ) → k < n → slice_index winners k ≤ 1

-- the first n answers are read
pub record AreRead (solution : List Answer) (winners strategy : List ℕ) (n : ℕ) : Type 0 where
  pub long : length solution ≡ length winners
  pub answers : (k : ℕ) → k < n → answer_at solution k ≡ answer_of winners strategy k
