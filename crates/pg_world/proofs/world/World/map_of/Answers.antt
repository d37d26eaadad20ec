use Rattle.pg_world.specs.Mirrors.Kept.{shown_by}
use Rattle.pg_world.proofs.Running.{map_never_above}
use Rattle.pg_world.proofs.world.World.map_of.Goals as goal

pub returns-clause-map : goal.returns-clause-map
returns-clause-map c = (
  shown_by c.map.result,
  c.map.ensures.map,
  map_never_above c.of_maps.ensures c.args.self.now c.args.replica (shown_by c.map.result) c.map.ensures.world c.map.ensures.map,
)
