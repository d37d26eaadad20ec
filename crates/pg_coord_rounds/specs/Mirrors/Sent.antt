-- Values of a map that are sent.
use Rattle.std.specs.Prelude.{◌≡◌, ℕ, ◌<◌, ◌≤◌, List, [], length, All, AllPairs}
use Rattle.pg_measure.specs.Measures.{Fits}
use Rattle.pg_map.specs.Maps.{MapValue, measure_at}
use Rattle.pg_wire.specs.declared.kind.ValueKind.{ValueKind}
use Rattle.pg_wire.specs.declared.writer.ValuesWriter.{ValuesWriter}
use Rattle.pg_wire.specs.Bytes.{Spells}
use Rattle.pg_wire.specs.Written.{IsWriting}
use Rattle.pg_wire.specs.Measured.{Measured, frame_of}
use Rattle.pg_coord_partition.specs.Frames.{measures_in}

-- the bytes spell a frame of measures that vertices have in the map
pub record SpellsMeasures (kind : ValueKind) (map : MapValue) (bytes : List ℕ) : Type 0 where
  pub measures : List Measured
  pub spelled : Spells (frame_of kind (length map.bounds) measures) bytes
  pub in_frame : measures_in (frame_of kind (length map.bounds) measures) ≡ measures
  pub of_map : All (λ m. m.1 ≡ measure_at map.measures m.0) measures

-- measures that vertices below `next` have in the map, by rising vertex
pub record AreSent (map : MapValue) (next : ℕ) (ms : List Measured) : Type 0 where
  pub of_map : All (λ m. m.1 ≡ measure_at map.measures m.0) ms
  pub fits : All (λ m. Fits map.bounds m.1) ms
  pub within : All (λ m. m.0 < length map.measures) ms
  pub below : All (λ m. m.0 < next) ms
  pub rising : AllPairs (λ m n. m.0 < n.0) ms
  pub few : length ms ≤ next
  pub bound : next ≤ length map.measures

-- a frame that is being written has such measures, and nothing comes before it
pub record IsWritten (map : MapValue) (w : ValuesWriter) (next : ℕ) (ms : List Measured) (buffer : List ℕ) : Type 0 where
  pub writing : IsWriting w [] ms buffer
  pub sent : AreSent map next ms
