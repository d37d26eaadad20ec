use Rattle.pg_wire.proofs.Common.{take, flat_map, Appends}
use Rattle.pg_wire.proofs.writing.put_all.Given as goal

abbrev pub invariant-loop-item : goal.invariant-loop-item
invariant-loop-item g l = Appends (g.W.Write.contents l.initial.out) (g.W.Write.contents l.out) (flat_map g.T.Spell.spelled (take l.item-index l.items))
