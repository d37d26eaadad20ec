-- Maps that were found.
use Rattle.pg_map.specs.Maps.{MapValue}
use Rattle.pg_solver.specs.declared.found.Found.{Found}
use Rattle.pg_solver.specs.declared.found.Found.TheVariants.{Ranks, Rows}

-- the map, whether it is stored as ranks or as rows
abbrev pub found_map : Found → MapValue
found_map (Ranks m) = m
found_map (Rows m) = m
