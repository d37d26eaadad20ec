use Rattle.pg_aiger_reader.proofs.Common.{◌≡◌, take}
use Rattle.pg_aiger_reader.specs.Ties.{literals_at}
use Rattle.pg_aiger_reader.proofs.ties.selected.Given as goal

abbrev pub invariant-loop-place : goal.invariant-loop-place
invariant-loop-place l = l.found.items ≡ literals_at l.literals (take l.place-index l.places)
