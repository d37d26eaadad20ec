use Rattle.pg_hoa.proofs.Common.{◌^◌, take, map, edge_in, stage, Adds, at_line}
use Rattle.pg_hoa.proofs.TablePlaces.{line_of}
use Rattle.pg_hoa.proofs.table.add_line.Given as goal

-- the steps of the edges so far
abbrev pub invariant-loop-edge : goal.invariant-loop-edge
invariant-loop-edge l = Adds l.shape
    (at_line (2 ^ l.propositions) (line_of l.line.state l.line.sets.items (map (λ e. edge_in e.now) (take l.edge-index l.edge-items))))
    (stage l.initial.filling) (stage l.filling)
