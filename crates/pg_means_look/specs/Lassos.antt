-- Words that repeat from some place on.
use Rattle.std.specs.Prelude.{ℕ, ◌+◌, ◌-◌, ◌%◌, List, length, slice_index_or, nat_lt, if◌then◌else◌}

-- the letters one after another, with those from `back` on repeated for ever
abbrev pub lasso : List ℕ → ℕ → ℕ → ℕ
lasso letters back t =
    if nat_lt t (length letters) then slice_index_or letters t 0
    else slice_index_or letters (back + (t - back) % (length letters - back)) 0
