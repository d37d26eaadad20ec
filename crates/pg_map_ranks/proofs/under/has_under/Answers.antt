use Rattle.pg_map_ranks.proofs.Common.{subst, All, IsTrue, ◌↔◌, line_at, SomeOrAll, rank_at, IsUnder}
use Rattle.pg_map_ranks.proofs.under.has_under.Goals as goal

pub returns-in-Odd : goal.returns-in-Odd
returns-in-Odd g c =
    let line = line_at (g.G.Lines.line c.args.lines.now) c.args.v in
    subst (λ o. IsTrue c.all_under.result ↔ SomeOrAll o
    (λ w. IsUnder c.args.high (rank_at c.args.ranks.now w)) line.successors) c.in-Odd.ensures
    (subst (λ ss. IsTrue c.all_under.result ↔ All (λ w. IsUnder c.args.high (rank_at c.args.ranks.now w)) ss) c.successors-in-Odd.ensures
    c.all_under.ensures)
