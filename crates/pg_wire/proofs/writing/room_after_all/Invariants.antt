use Rattle.pg_wire.proofs.Common.{◌≡◌, ◌+◌, take, length, flat_map}
use Rattle.pg_wire.proofs.writing.room_after_all.Given as goal

abbrev pub invariant-loop-item : goal.invariant-loop-item
invariant-loop-item g l = l.left + length (flat_map g.T.Spell.spelled (take l.item-index l.items)) ≡ l.room
