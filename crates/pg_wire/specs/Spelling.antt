-- How a frame is spelled in bytes.
use Rattle.std.specs.Prelude.{ℕ, List, [], ◌∷◌, ◌++◌, length, Option, Some, None}
use Rattle.std.specs.List.{flat_map}
use Rattle.std.specs.Int.{w32, to_be_bytes}
use Rattle.pg_wire.specs.declared.frame.VertexLine.{VertexLine}
use Rattle.pg_wire.specs.declared.frame.Value.{Value}
use Rattle.pg_wire.specs.declared.frame.SparseValue.{SparseValue}
use Rattle.pg_wire.specs.declared.frame.Frame.{Frame}
use Rattle.pg_wire.specs.declared.frame.Frame.TheVariants as frames

-- a number in four bytes, the most significant one first
abbrev pub word : ℕ → List ℕ
word n = to_be_bytes w32 n

-- the number of items, and then each item
abbrev pub counted : {A : Type 0} → (A → List ℕ) → List A → List ℕ
counted spelled xs = word (length xs) ++ flat_map spelled xs

-- a priority and its bound, or a place and its number
abbrev pub pair : ℕ × ℕ → List ℕ
pair p = word p.0 ++ word p.1

abbrev pub line : VertexLine → List ℕ
line l = word l.vertex ++ word l.priority ++ (l.owner ∷ counted word l.successors)

-- a tag: 0 and then the list, or 1 for top
abbrev pub tagged : {A : Type 0} → (A → List ℕ) → Option A → List ℕ
tagged spelled (Some x) = 0 ∷ spelled x
tagged spelled None = 1 ∷ []

-- the frame's width says how many numbers the list has
abbrev pub value : Value → List ℕ
value v = word v.vertex ++ tagged (flat_map word) v.list

abbrev pub sparse_value : SparseValue → List ℕ
sparse_value v = word v.vertex ++ tagged (counted pair) v.pairs

-- the bytes after the length: the kind, and then the fields
abbrev pub body : Frame → List ℕ
body (frames.Setup s) = 1 ∷ s.version ∷ (word s.vertices ++ counted pair s.bounds)
body (frames.Vertices v) = 2 ∷ counted line v.lines
body (frames.Values v) = 3 ∷ (word v.width ++ counted value v.values)
body (frames.Go g) = 4 ∷ word g.budget
body (frames.Report r) = 5 ∷ r.status ∷ r.code ∷ []
body frames.Halt = 6 ∷ []
body (frames.Sparse s) = 7 ∷ (word s.width ++ counted sparse_value s.values)

-- the length, which counts the bytes after it, and then those bytes
abbrev pub spelling : Frame → List ℕ
spelling f = word (length (body f)) ++ body f

-- the greatest length
abbrev pub longest : ℕ
longest = 16777216
