use Rattle.std.proofs.Common.{◌≡◌, length, All}
use Rattle.pg_coord_rounds.proofs.sending.halt.Given as goal

abbrev pub invariant-loop-i : goal.invariant-loop-i
invariant-loop-i g l =
    let honest = g.L.Link.is_honest in
    record {
      same_count : length l.links ≡ length l.fn.links;
      honest_still : All honest l.fn.links → All honest l.links;
    }
