-- Cuts: which worker each vertex belongs to.
use Rattle.std.specs.Prelude.{◌≡◌, ℕ, ◌+◌, ◌*◌, ◌/◌, ◌<◌, ◌≤◌, ◌==◌, List, length, All, slice_index, if◌then◌else◌}

-- the number of workers, and for each vertex the number of its worker, from 1 on
pub record CutValue : Type 0 where
  pub workers : ℕ
  pub numbers : List ℕ

-- the worker of the vertex v; 0 is nobody
abbrev pub worker_of : CutValue → ℕ → ℕ
worker_of c v = slice_index c.numbers v

-- the worker of the vertex v if the vertices are cut into runs of about equal length; without workers they belong to nobody
abbrev pub even_worker : ℕ → ℕ → ℕ → ℕ
even_worker vertices workers v = if workers == 0 then 0 else 1 + v * workers / vertices

pub record IsEvenCut (vertices workers : ℕ) (c : CutValue) : Type 0 where
  pub count : c.workers ≡ workers
  pub size : length c.numbers ≡ vertices
  pub each : (v : ℕ) → v < vertices → worker_of c v ≡ even_worker vertices workers v

-- each number is the number of a worker
abbrev pub NameWorkers : ℕ → List ℕ → Type 0
NameWorkers workers numbers = All (λ n. (1 ≤ n) × (n ≤ workers)) numbers
