-- Values that are joined with a worker's map.
use Rattle.std.specs.Prelude.{◌≡◌, List}
use Rattle.pg_wire.specs.Measured.{Measured}
use Rattle.pg_worker.specs.Workers.{WorkerValue}
use Rattle.pg_coord_partition.specs.Frames.{Joins}

pub record JoinsAll (old : WorkerValue) (ms : List Measured) (new : WorkerValue) : Type 0 where
  pub joins : Joins old.map ms new.map
  pub others : new ≡ record old { map = new.map }
