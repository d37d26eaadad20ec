use Rattle.pg_aiger.proofs.Common.{◌≡◌, ◌+◌, ◌*◌, length, conjunction_of, each_made, Extends, MeanEach, is_minterm, minterms_below}
use Rattle.pg_aiger.proofs.table.minterms.Given as goal

abbrev pub invariant-loop-place : goal.invariant-loop-place
invariant-loop-place l =
    Extends (l.place * (l.inputs + l.latches)) l.fn.draft l.draft
    × (length l.literals.items ≡ l.place)
    × MeanEach l.draft (is_minterm l.inputs l.latches) l.literals.items
    × (each_made conjunction_of l.fn.draft (minterms_below l.inputs l.latches l.place) ≡ (l.draft, l.literals.items))
