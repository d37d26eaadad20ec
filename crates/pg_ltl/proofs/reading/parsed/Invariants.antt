use Rattle.std.proofs.Common.{◌≡◌, Some, take, drop}
use Rattle.pg_ltl.specs.Mirrors.Run.{view, run_at, steps_at, starting, parse_at}
use Rattle.pg_ltl.proofs.reading.parsed.Given as goal

-- what is left gives the same
abbrev pub invariant-loop-place : goal.invariant-loop-place
invariant-loop-place l = record {
  rest : run_at (view l.reading) (drop l.place l.tokens) ≡ parse_at l.tokens;
  reached : steps_at starting (take l.place l.tokens) ≡ Some (view l.reading);
}
