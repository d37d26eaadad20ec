use Rattle.pg_check.proofs.Common.{rules, ◌≡◌, ◌≢◌, ◌↔◌, ℕ, List, Some, inl, inr, Player, Even, Odd, GameVertex, opponent, owner}
use Rattle.pg_check.proofs.Common.{successors, Answer, winner, choice, Counts}
use Rattle.std.proofs.Common.{Contains}
use Rattle.pg_check.proofs.edges.counted.Goals as goal

not_opponent : (p : Player) → p ≢ opponent p
not_opponent Even e = cc
not_opponent Odd e = cc

-- where the winner owns the vertex, the choice alone counts
choice_counts : (game : List GameVertex) (solution : List Answer) (v chosen : ℕ) (part : List ℕ)
    → owner game v ≡ winner solution v → choice solution v ≡ Some chosen
    → ((w : ℕ) → Contains part w ↔ (Contains (successors game v) w × w ≡ chosen))
    → (w : ℕ) → Contains part w ↔ Counts game solution v w
choice_counts game solution v chosen part own is only w = (
  λ inside. let k = (only w).0 inside in (k.0, inr (cc)),
  λ counts. elim counts.1 [
    | inl lost ↦ absurd (not_opponent (winner solution v) (cc))
    | inr chose ↦ (only w).1 (counts.0, cc)
  ],
)

pub returns-in-Some-clause-counted : goal.returns-in-Some-clause-counted
returns-in-Some-clause-counted c =
    choice_counts c.args.game.now c.args.solution.now c.args.v c.in-Some.chosen c.only.result.now (search rules) (search rules)
    (rw c.successors-successors.ensures at c.only.ensures.chosen)
