use Rattle.std.proofs.Common.{length}
use Rattle.pg_ltl.specs.Mirrors.Notes.{HasPlaced}
use Rattle.pg_ltl.proofs.noting.text_of.Given as goal

abbrev pub invariant-words : goal.invariant-words
invariant-words l = HasPlaced l.bytes l.tokens l.rest

abbrev pub decreases-words : goal.decreases-words
decreases-words l = length l.rest
