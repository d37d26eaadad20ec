use Rattle.pg_aiger.proofs.Common.{◌≡◌, take, disjunction_of, having, IsLiteral, Extends, Means, any_below}
use Rattle.pg_aiger.proofs.table.column.Given as goal

abbrev pub invariant-loop-place : goal.invariant-loop-place
invariant-loop-place l =
    Extends l.place l.fn.draft l.draft
    × IsLiteral l.draft l.literal
    × Means l.draft l.literal (λ v. any_below v l.literals l.values l.bit l.place)
    × (disjunction_of l.fn.draft (having l.bit (take l.place l.values) (take l.place l.literals)) ≡ (l.draft, l.literal))
