use Rattle.std.proofs.Common.{◌≡◌, take, false}
use Rattle.pg_ltl.specs.Tableaux.{Each}
use Rattle.pg_satisfies_check.specs.declared.system.Bit.{Bit}
use Rattle.pg_satisfies_check.proofs.check.are_off.Given as goal

abbrev pub invariant-loop-bit : goal.invariant-loop-bit
invariant-loop-bit l = Each (λ (b : Bit). b.value ≡ false) (take l.bit-index l.bits)
