-- A formula split into promises, each of which can be refuted alone.
use Rattle.std.specs.Prelude.{◌≡◌, ℕ, ◌+◌, ◌<◌, Bool, All, List, length, slice_index_or}
use Rattle.std.specs.declared.vec.Vec.{Vec}
use Rattle.std.specs.declared.alloc.Global.{Global}
use Rattle.pg_ltl.specs.declared.normal.NormalNode.{NormalNode}
use Rattle.pg_ltl.specs.NormalForms.{NormalForm, Holds}
use Rattle.pg_ltl.specs.Mirrors.Nodes.{normals_of, normal_in}
use Rattle.pg_means_look.specs.Mirrors.Choices.{part}
use Rattle.pg_means_look.specs.Mirrors.Tables.{row_at}

-- the forms at the places of the old list are the same in the new one
abbrev pub KeepsForms : List NormalNode → List NormalNode → Type 0
KeepsForms old new = (place : ℕ) → place < length old → normal_in new place ≡ normal_in old place

-- the forms at all these places hold from step t on
abbrev pub AllHold : (ℕ → ℕ → Bool) → List NormalForm → ℕ → List ℕ → Type 0
AllHold word forms t places = All (λ place. Holds word (part forms place) t) places

-- for each of these promises, some of its tries doesn't hold from step t on
abbrev pub AreRefuted : (ℕ → ℕ → Bool) → List NormalForm → ℕ → List (Vec ℕ Global) → Type 0
AreRefuted word forms t promises = All (λ (tries : Vec ℕ Global). ¬ AllHold word forms t tries.items) promises

-- wherever the form at `root` holds, all tries of some promise hold
abbrev pub Splits : List NormalNode → ℕ → List (Vec ℕ Global) → Type 0
Splits nodes root promises =
    (word : ℕ → ℕ → Bool) (t : ℕ) → Holds word (normal_in nodes root) t → ¬ AreRefuted word (normals_of nodes) t promises

-- wherever the first form holds, the second one does
abbrev pub IsStronger : NormalForm → NormalForm → Type 0
IsStronger strong weak = (word : ℕ → ℕ → Bool) (t : ℕ) → Holds word strong t → Holds word weak t

-- there is a try, and wherever the last one holds, the form at `root` does
pub record EndsStrong (nodes : List NormalNode) (root : ℕ) (tries : List ℕ) : Type 0 where
  pub some : 0 < length tries
  pub last : (j : ℕ) → j + 1 ≡ length tries → IsStronger (normal_in nodes (slice_index_or tries j 0)) (normal_in nodes root)

-- each promise has a try, and wherever the last one of a promise holds, the form at `root` does
abbrev pub IsImplied : List NormalNode → ℕ → List (Vec ℕ Global) → Type 0
IsImplied nodes root promises = (k : ℕ) → k < length promises → EndsStrong nodes root (row_at promises k)
