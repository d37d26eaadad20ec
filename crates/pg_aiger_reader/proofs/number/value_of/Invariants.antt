use Rattle.pg_aiger_reader.proofs.Common.{◌≡◌, ◌<◌, ◌^◌, drop, value_of, value_from}
use Rattle.pg_aiger_reader.proofs.number.value_of.Given as goal

-- the digits behind the value so far make the whole value
abbrev pub invariant-loop-byte : goal.invariant-loop-byte
invariant-loop-byte l = record {
  small : l.value < 2 ^ 32;
  rest : value_from l.value (drop l.byte-index l.digits) ≡ value_of l.digits;
}
