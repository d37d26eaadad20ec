-- Sixty-four letters at a time: bit j of a word speaks of the letter j places after the first of a block. A run is
-- sixteen blocks, and has a word for each.
use Rattle.std.specs.Prelude.{ℕ, ◌+◌, ◌*◌, ◌==◌, Bool, List, map, reverse, get_or}
use Rattle.std.specs.Int.{bit_at}

abbrev pub truth : ℕ → ℕ → Bool
truth word j = bit_at word j == 1

abbrev pub truth_in : List ℕ → ℕ → ℕ → Bool
truth_in words k j = truth (get_or words k 0) j

-- whether proposition a holds in letter j of the block
abbrev pub on_at : ℕ → ℕ → ℕ → Bool
on_at block j a = bit_at (block * 64 + j) a == 1

-- what a stack of runs of words says of letter j of block k, the top first
unfoldable pub truths : ℕ → ℕ → List (List ℕ) → List Bool
truths k j stack = map (λ words. truth_in words k j) (reverse stack)
