-- Tables of edges, and of which propositions hold at which letters.
use Rattle.std.specs.Prelude.{ℕ, Bool, false, List, [], map, slice_index_or}
use Rattle.std.specs.declared.vec.Vec.{Vec}
use Rattle.std.specs.declared.alloc.Global.{Global}
use Rattle.pg_means_look.specs.declared.automaton.ParityEdge.{ParityEdge}

abbrev pub edge_at : List ParityEdge → ℕ → ParityEdge
edge_at edges place = slice_index_or edges place (record { target = 0; priority = 0 })

-- the items of the list at this place, or none past the end
abbrev pub row_at : {A : Type 0} → List (Vec A Global) → ℕ → List A
row_at {A} rows place = slice_index_or (map (λ (row : Vec A Global). row.items) rows) place []

abbrev pub truth_at : List (Vec Bool Global) → ℕ → ℕ → Bool
truth_at truths proposition letter = slice_index_or (row_at truths proposition) letter false
