use Rattle.pg_aiger.proofs.Common.{◌≡◌, ◌*◌, length, disjunction_of, each_made, bit_columns, Extends, MeanEach, column_bit}
use Rattle.pg_aiger.proofs.table.columns.Given as goal

abbrev pub invariant-loop-bit : goal.invariant-loop-bit
invariant-loop-bit l =
    Extends (l.bit * length l.literals) l.fn.draft l.draft
    × (length l.made.items ≡ l.bit)
    × MeanEach l.draft (column_bit l.literals l.values) l.made.items
    × (each_made disjunction_of l.fn.draft (bit_columns l.bit l.values l.literals) ≡ (l.draft, l.made.items))
