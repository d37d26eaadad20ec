use Rattle.std.proofs.Common.{◌≡◌, length}
use Rattle.std.specs.Prelude.{reverse}
use Rattle.pg_ltl.specs.Mirrors.Run.{reduced_at}
use Rattle.pg_ltl.proofs.reading.reduced.Given as goal

-- what is left gives the same
abbrev pub invariant-pending : goal.invariant-pending
invariant-pending l =
    reduced_at l.bound l.nodes.items (reverse l.pending.items) l.place
    ≡ reduced_at l.bound l.initial.nodes.items (reverse l.initial.pending.items) l.initial.place

abbrev pub decreases-pending : goal.decreases-pending
decreases-pending l = length l.pending.items
