use Rattle.pg_aiger.proofs.Common.{◌≡◌, ◌^◌, ◌%◌, ◌&&◌, ◌==◌, value, spelling, IsLiteral, Extends, Means, number_at, conjunction_with}
use Rattle.pg_aiger.proofs.draft.Draft.matching.Given as goal

abbrev pub invariant-loop-j : goal.invariant-loop-j
invariant-loop-j l =
    Extends l.j l.fn.self l.self
    × IsLiteral l.self l.literal
    × Means l.self l.literal (λ v. value v l.start && (number_at v l.first l.j == l.number % 2 ^ l.j))
    × (conjunction_with l.fn.self l.start (spelling l.first l.j l.number) ≡ (l.self, l.literal))
