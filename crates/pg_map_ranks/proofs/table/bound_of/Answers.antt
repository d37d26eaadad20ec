use Rattle.pg_map_ranks.proofs.Common.{◌≡◌, ◌<◌, ◌≤◌, ◌-◌, get_or, arith, sym, subst, ◌↔◌, BoundList, IsBounded}
use Rattle.pg_map_ranks.proofs.Counting.{bounded_here, not_bounded}
use Rattle.pg_map_ranks.proofs.table.bound_of.Goals as goal

pub returns-then-bound-priority : goal.returns-then-bound-priority
returns-then-bound-priority c = λ n some.
    let bs = c.args.bounds.now in
    let w = c.width_from-width.result in
    let is : c.pairs.result.now ≡ bs = c.pairs.ensures.value in
    let positive : 0 < w = let n = c.if-width-eq0.false in omega arith in
    subst (λ (ps : BoundList). (n ≤ (get_or ps (w - 1) (0, 0)).1) ↔ IsBounded bs c.args.priority n) (sym is)
    (bounded_here bs c.args.priority n c.pairs.ensures.bounds.falling w c.width_from-width.ensures.value positive c.width_from-width.ensures.within
    (subst (λ (ps : BoundList). (get_or ps (w - 1) (0, 0)).0 ≡ c.args.priority) is c.if-bound-priority.true))

pub returns-else-bound-priority : goal.returns-else-bound-priority
returns-else-bound-priority c = λ n some.
    let bs = c.args.bounds.now in
    let w = c.width_from-width.result in
    let is : c.pairs.result.now ≡ bs = c.pairs.ensures.value in (
      λ le. absurd (omega arith),
      λ a. absurd (not_bounded bs c.args.priority n c.pairs.ensures.bounds.falling w c.width_from-width.ensures.value
          (subst (λ (ps : BoundList). (get_or ps (w - 1) (0, 0)).0 ≡ c.args.priority → ⊥) is c.if-bound-priority.false) a),
    )
