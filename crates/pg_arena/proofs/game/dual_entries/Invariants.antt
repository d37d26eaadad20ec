use Rattle.pg_arena.proofs.Common.{◌≡◌, take, map, dual_entry}
use Rattle.pg_arena.proofs.game.dual_entries.Given as goal

abbrev pub invariant-loop-entry : goal.invariant-loop-entry
invariant-loop-entry l = l.list.items ≡ map dual_entry (take l.entry-index l.entries)
