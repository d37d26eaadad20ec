-- Formats: how values are spelled, which of them fit, and how they are read, as one thing.
use Rattle.std.specs.Prelude.{◌≡◌, ℕ, ◌+◌, ◌%◌, ◌^◌, ◌<◌, ◌≤◌, ◌⊎◌, ⊤, List, [], ◌∷◌, ◌++◌, length, Option, IfSome, Result, Ok, Err}
use Rattle.std.specs.Prelude.{◌==◌, if◌then◌else◌}
use Rattle.std.specs.List.{flat_map}
use Rattle.pg_wire.specs.declared.fault.FieldFault.{FieldFault}
use Rattle.pg_wire.specs.declared.fault.FieldFault.TheVariants as faults
use Rattle.pg_wire.specs.declared.frame.Setup.{Setup}
use Rattle.pg_wire.specs.declared.frame.LineHead.{LineHead}
use Rattle.pg_wire.specs.declared.frame.VertexLine.{VertexLine}
use Rattle.pg_wire.specs.declared.frame.Vertices.{Vertices}
use Rattle.pg_wire.specs.declared.frame.Value.{Value}
use Rattle.pg_wire.specs.declared.frame.Values.{Values}
use Rattle.pg_wire.specs.declared.frame.SparseValue.{SparseValue}
use Rattle.pg_wire.specs.declared.frame.Sparse.{Sparse}
use Rattle.pg_wire.specs.declared.frame.Go.{Go}
use Rattle.pg_wire.specs.declared.frame.Report.{Report}
use Rattle.pg_wire.specs.declared.frame.Frame.{Frame}
use Rattle.pg_wire.specs.declared.frame.Frame.TheVariants as frames
use Rattle.pg_wire.specs.declared.kind.ValueKind.{ValueKind}
use Rattle.pg_wire.specs.declared.kind.ValueKind.TheVariants.{Dense, Sparse as SparseKind}
use Rattle.pg_wire.specs.Spelling as spelling
use Rattle.pg_wire.specs.Spelling.{word, pair}
use Rattle.pg_wire.specs.Measured.{nonzero, filled}
use Rattle.pg_wire.specs.Well.{IsWord, IsBound, IsSetup, IsVertexLine, IsVertices, IsComponents, IsValue, IsValues, IsPlace, ArePlaces}
use Rattle.pg_wire.specs.Well.{IsSparseValue, IsSparse, IsFaultCode, IsReport}
use Rattle.pg_wire.specs.Mirrors.Ordered.{AreOrdered}
use Rattle.pg_wire.specs.Mirrors.Reading.{◌>>=◌, Reader, both, made, within_at, odd_at, byte_at, version_at, code_at, items_at, counted_at, headed_at}

pub record Format (A : Type 0) : Type 1 where
  pub spelled : A → List ℕ
  pub Fits : A → Type 0
  pub read : Reader A

-- one format after another; the second may depend on the value of the first
abbrev pub and_then : {A B : Type 0} → Format A → (A → Format B) → Format (A × B)
and_then f g = record { spelled = λ p. f.spelled p.0 ++ (g p.0).spelled p.1; Fits = λ p. f.Fits p.0 × (g p.0).Fits p.1; read = both f.read (λ a. (g a).read) }

-- the same format, with its ranges stated in other words
abbrev pub said : {A : Type 0} → (A → Type 0) → Format A → Format A
said Fits f = record { spelled = f.spelled; Fits = Fits; read = f.read }

-- the parts of something, which is made of them
abbrev pub seen : {A B : Type 0} → (A → B) → (B → A) → (B → Type 0) → Format A → Format B
seen make parts Fits f = record { spelled = λ b. f.spelled (parts b); Fits = Fits; read = made make f.read }

-- ---- numbers and bytes

-- a number from low on, below high
abbrev pub within : ℕ → ℕ → Format ℕ
within low high = record { spelled = word; Fits = λ n. (low ≤ n) × (n < high) × IsWord n; read = within_at low high }

abbrev pub number : ℕ → Format ℕ
number low = said (λ n. (low ≤ n) × IsWord n) (within low (2 ^ 32))

-- a vertex, at least `low`, and what follows its tag
abbrev pub headed : {A : Type 0} → ℕ → Format A → Format (ℕ × Option A)
headed low f = record {
  spelled = λ p. word p.0 ++ spelling.tagged f.spelled p.1;
  Fits = λ p. ((low ≤ p.0) × IsWord p.0) × IfSome p.1 f.Fits;
  read = headed_at low f.read;
}

abbrev pub odd : ℕ → Format ℕ
odd high = record { spelled = word; Fits = λ n. (n < high) × IsWord n × (n % 2 ≡ 1); read = odd_at high }

abbrev pub byte : ℕ → Format ℕ
byte high = record { spelled = λ b. b ∷ []; Fits = λ b. b < high; read = byte_at high }

abbrev pub version : Format ℕ
version = record { spelled = λ b. b ∷ []; Fits = λ b. (1 ≤ b) × (b < 3); read = version_at }

-- the code of a report with this status
abbrev pub code : ℕ → Format ℕ
code status = record {
  spelled = λ c. c ∷ [];
  Fits = λ c. ((status ≤ 1) × (c ≡ 0)) ⊎ ((status ≡ 2) × IsFaultCode c);
  read = code_at status;
}

abbrev pub nothing : Format ⊤
nothing = record { spelled = λ _. []; Fits = λ _. ⊤; read = λ bytes. Ok (tt, bytes) }

-- ---- lists

-- items of a kind, each with a place, which the item before it sets
pub record Kind (A : Type 0) : Type 1 where
  pub spelled : A → List ℕ
  pub Stands : ℕ → A → Type 0
  pub IsItem : A → Type 0
  pub Precedes : A → A → Type 0
  pub next : A → ℕ
  pub read : ℕ → Reader A

abbrev pub placed : {A : Type 0} → Kind A → ℕ → Format A
placed k at = record { spelled = k.spelled; Fits = λ x. k.Stands at x × k.IsItem x; read = k.read at }

abbrev pub AreItems : {A : Type 0} → Kind A → ℕ → List A → Type 0
AreItems k at xs = AreOrdered (k.Stands at) k.IsItem k.Precedes xs

abbrev pub so_many : {A : Type 0} → Kind A → ℕ → ℕ → Format (List A)
so_many k n at = record { spelled = flat_map k.spelled; Fits = λ xs. (length xs ≡ n) × AreItems k at xs; read = items_at k.read k.next n at }

-- the number of items, from least on and below high, and then each item
abbrev pub listed : {A : Type 0} → Kind A → ℕ → ℕ → ℕ → Format (List A)
listed k least high at = record {
  spelled = spelling.counted k.spelled;
  Fits = λ xs. ((least ≤ length xs) × (length xs < high) × IsWord (length xs)) × AreItems k at xs;
  read = counted_at k.read k.next least high at;
}

-- items whose keys rise
abbrev pub rising : {A : Type 0} → (A → ℕ) → (A → List ℕ) → (A → Type 0) → (ℕ → Reader A) → Kind A
rising key spelled IsItem read = record {
  spelled = spelled;
  Stands = λ at x. at ≤ key x;
  IsItem = IsItem;
  Precedes = λ x y. key x < key y;
  next = λ x. key x + 1;
  read = read;
}

-- ---- the contents of frames

abbrev pub successors : Kind ℕ
successors = rising (λ n. n) word IsWord (λ low. (number low).read)

abbrev pub components : Kind ℕ
components = record {
  spelled = word;
  Stands = λ _ _. ⊤;
  IsItem = IsWord;
  Precedes = λ _ _. ⊤;
  next = λ _. 0;
  read = λ _. (number 0).read;
}

unfoldable pub bound : ℕ → Format (ℕ × ℕ)
bound high = and_then (odd high) (λ _. number 1)

abbrev pub bounds : Kind (ℕ × ℕ)
bounds = record {
  spelled = pair;
  Stands = λ at p. p.0 < at;
  IsItem = IsBound;
  Precedes = λ p q. q.0 < p.0;
  next = λ p. p.0;
  read = λ high. (bound high).read;
}

unfoldable pub place : ℕ → ℕ → Format (ℕ × ℕ)
place width low = and_then (within low width) (λ _. number 1)

abbrev pub places : ℕ → Kind (ℕ × ℕ)
places width = rising (λ p. p.0) pair (IsPlace width) (λ low. (place width low).read)

-- what stands before the successors of a line: its head, and how many successors there are
abbrev pub Counted : Type 0
Counted = ℕ × (ℕ × (ℕ × ℕ))

unfoldable pub line_head : ℕ → Format Counted
line_head low = and_then (number low) (λ _. and_then (within 0 65537) (λ _. and_then (byte 2) (λ _. number 1)))

abbrev pub counted_as : LineHead → ℕ → Counted
counted_as head count = (head.vertex, (head.priority, (head.owner, count)))

unfoldable pub line : ℕ → Format VertexLine
line low = seen (λ p. record { vertex = p.0.0; priority = p.0.1.0; owner = p.0.1.1.0; successors = p.1 })
    (λ l. ((l.vertex, (l.priority, (l.owner, length l.successors))), l.successors)) (λ l. (low ≤ l.vertex) × IsVertexLine l)
    (and_then (line_head low) (λ h. so_many successors h.1.1.1 0))

abbrev pub lines : Kind VertexLine
lines = rising (λ l. l.vertex) spelling.line IsVertexLine (λ low. (line low).read)

abbrev pub all_components : ℕ → Format (List ℕ)
all_components width = said (IsComponents width) (so_many components width 0)

unfoldable pub value : ℕ → ℕ → Format Value
value width low = seen (λ p. record { vertex = p.0; list = p.1 }) (λ v. (v.vertex, v.list)) (λ v. (low ≤ v.vertex) × IsValue width v)
    (headed low (all_components width))

abbrev pub values : ℕ → Kind Value
values width = rising (λ v. v.vertex) spelling.value (IsValue width) (λ low. (value width low).read)

abbrev pub some_places : ℕ → Format (List (ℕ × ℕ))
some_places width = said (ArePlaces width) (listed (places width) 0 (width + 1) 0)

unfoldable pub sparse_value : ℕ → ℕ → Format SparseValue
sparse_value width low = seen (λ p. record { vertex = p.0; pairs = p.1 }) (λ v. (v.vertex, v.pairs)) (λ v. (low ≤ v.vertex) × IsSparseValue width v)
    (headed low (some_places width))

abbrev pub sparse_values : ℕ → Kind SparseValue
sparse_values width = rising (λ v. v.vertex) spelling.sparse_value (IsSparseValue width) (λ low. (sparse_value width low).read)

-- ---- measures, of either kind

unfoldable pub measure : ValueKind → ℕ → Format (List ℕ)
measure Dense width = all_components width
measure SparseKind width = seen (filled width) nonzero (IsComponents width) (some_places width)

-- ---- the fields of each kind of frame

unfoldable pub setup_fields : Format Setup
setup_fields = seen (λ p. record { version = p.0; vertices = p.1.0; bounds = p.1.1 }) (λ s. (s.version, (s.vertices, s.bounds))) IsSetup
    (and_then version (λ _. and_then (within 1 1048577) (λ _. listed bounds 0 (2 ^ 32) 65536)))

unfoldable pub vertices_fields : Format Vertices
vertices_fields = seen (λ ls. record { lines = ls }) (λ v. v.lines) IsVertices (listed lines 0 (2 ^ 32) 0)

unfoldable pub values_fields : Format Values
values_fields = seen (λ p. record { width = p.0; values = p.1 }) (λ v. (v.width, v.values)) IsValues
    (and_then (within 0 32769) (λ width. listed (values width) 0 (2 ^ 32) 0))

unfoldable pub sparse_fields : Format Sparse
sparse_fields = seen (λ p. record { width = p.0; values = p.1 }) (λ s. (s.width, s.values)) IsSparse
    (and_then (within 0 32769) (λ width. listed (sparse_values width) 0 (2 ^ 32) 0))

unfoldable pub go_fields : Format Go
go_fields = seen (λ n. record { budget = n }) (λ g. g.budget) (λ g. IsWord g.budget) (number 0)

unfoldable pub report_fields : Format Report
report_fields = seen (λ p. record { status = p.0; code = p.1 }) (λ r. (r.status, r.code)) IsReport (and_then (byte 3) code)

-- ---- frames

-- the fields of each kind
unfoldable pub frame_at : ℕ → Reader Frame
frame_at kind =
    if kind == 1 then made frames.Setup setup_fields.read
    else if kind == 2 then made frames.Vertices vertices_fields.read
    else if kind == 3 then made frames.Values values_fields.read
    else if kind == 4 then made frames.Go go_fields.read
    else if kind == 5 then made frames.Report report_fields.read
    else if kind == 6 then made (λ _. frames.Halt) nothing.read
    else if kind == 7 then made frames.Sparse sparse_fields.read
    else (λ _. Err faults.Kind)

-- all of the bytes after the length
unfoldable pub body_at : List ℕ → Result Frame FieldFault
body_at [] = Err faults.Kind
body_at (kind ∷ bytes) = frame_at kind bytes >>= λ f. if length f.1 == 0 then Ok f.0 else Err (faults.At (length f.1))
