use Rattle.pg_world.proofs.Common.{◌≡◌, ◌+◌, ◌∙◌, ℕ, List, length, replicate, ap, sym, subst, arith, map, NO_UPDATE, WorldValue, viewed}
use Rattle.pg_world.proofs.Common.{AreReplicas}
use Rattle.pg_world.proofs.Noting.{items}
use Rattle.pg_world.proofs.Replicas.{new_replicas}
use Rattle.pg_world.proofs.Happening.{view_new}
use Rattle.pg_world.proofs.world.World.new.Goals as goal

pub invariant_of-result : goal.invariant_of-result
invariant_of-result c =
    let made = new_replicas c.of_maps.ensures c.args.game c.in_ok-bounds.bounds c.args.cut c.in_ok-zero.zero c.len.ensures.game
    c.in_ok-bounds.ensures
    (omega (arith, c.vertices.ensures, c.len.ensures.value)) (ap (λ x. x.value) c.in_ok-zero.ensures) in
    let view = view_new c.args.game c.in_ok-bounds.bounds c.args.cut c.new.result.items c.in_ok-taken.taken.items
    (c.workers.result + 1) c.new.ensures.items c.in_ok-taken.ensures.taken (omega (arith, c.workers.ensures)) in
    let replicas : c.workers.result + 1 ≡ 1 + c.args.cut.workers = omega (arith, c.workers.ensures) in
    let greatest : map items c.in_ok-greatest.greatest.items ≡ replicate (1 + c.args.cut.workers) (replicate (length c.args.game) NO_UPDATE) =
    c.in_ok-greatest.ensures ∙ (ap (λ (n : ℕ). replicate (c.workers.result + 1) (replicate n NO_UPDATE)) c.len-2.ensures.value
    ∙ ap (λ (n : ℕ). replicate n (replicate (length c.args.game) NO_UPDATE)) replicas) in
    subst (λ (g : List (List ℕ)). AreReplicas
    (viewed c.args.game c.in_ok-bounds.bounds c.args.cut c.new.result.items c.in_ok-taken.taken.items) c.in_ok-zero.zero g)
    (sym greatest)
    (subst (λ (o : WorldValue). AreReplicas o c.in_ok-zero.zero (replicate (1 + c.args.cut.workers)
    (replicate (length c.args.game) NO_UPDATE))) (sym view) made)

pub returns-clause-new : goal.returns-clause-new
returns-clause-new c = (
  c.in_ok-bounds.ensures,
  view_new c.args.game c.in_ok-bounds.bounds c.args.cut c.new.result.items c.in_ok-taken.taken.items
      (c.workers.result + 1) c.new.ensures.items c.in_ok-taken.ensures.taken (omega (arith, c.workers.ensures)),
)
