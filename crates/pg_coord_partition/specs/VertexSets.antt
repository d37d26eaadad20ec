-- Lists of vertices, each at most once.
use Rattle.std.specs.Prelude.{ℕ, List}

-- the vertices that are listed; there is room for those below `count`
pub record VertexSetValue : Type 0 where
  pub vertices : List ℕ
  pub count : ℕ
