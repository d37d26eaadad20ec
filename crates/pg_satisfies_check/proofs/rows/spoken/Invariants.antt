use Rattle.std.proofs.Common.{◌≡◌, ◌++◌, [], map, take}
use Rattle.pg_aiger.specs.declared.gate.Latch.{Latch}
use Rattle.pg_satisfies_check.specs.Mirrors.Known.{literal_in}
use Rattle.pg_satisfies_check.proofs.rows.spoken.Given as goal

abbrev pub invariant-latches : goal.invariant-latches
invariant-latches l = l.values.items ≡ map (λ (x : Latch). literal_in l.row x.next) (take l.latch-index l.system.latches.items)

abbrev pub invariant-literals : goal.invariant-literals
invariant-literals l =
    l.values.items
    ≡ map (λ (x : Latch). literal_in l.row x.next) l.system.latches.items ++ map (literal_in l.row) (take l.literal-index l.system.literals.items)
