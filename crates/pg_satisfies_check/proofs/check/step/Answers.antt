use Rattle.std.proofs.Common.{List, ℕ, [], arith, subst, get_or, ◌∙◌}
use Rattle.std.proofs.lemmas.Grind.{common_steps}
use Rattle.pg_satisfies_check.specs.Mirrors.Branches.{Splits}
use Rattle.pg_satisfies_check.proofs.Covering.{covers_at, covers_row, nil_of}
use Rattle.pg_satisfies_check.proofs.check.step.Goals as goal

pub returns-then-is_empty : goal.returns-then-is_empty
returns-then-is_empty g c forms are =
    let s = c.args.steps.now in
    let cert = c.args.certificate.now in
    let b = c.args.branch in
    covers_row s cert forms c.args.v c.deref-then-is_empty-3.result.now b.row.items b.todo.items b.asks.items b.puts.items
    c.deref-then-is_empty-3.ensures.value
    (covers_at s cert forms c.args.v c.deref-then-is_empty-3.result.now [] c.deref-then-is_empty-4.result.now c.deref-then-is_empty-5.result.now
    b.todo.items b.asks.items b.puts.items
    (nil_of b.todo.items (grind (arith, common_steps, c.is_empty.ensures, c.if-is_empty.true, b.todo.ok.0)))
    c.deref-then-is_empty-4.ensures.value c.deref-then-is_empty-5.ensures.value (c.if-not-lands.ensures forms))

pub returns-then-leaves_out : goal.returns-then-leaves_out
returns-then-leaves_out g c forms are =
    let s = c.args.steps.now in
    let cert = c.args.certificate.now in
    let b = c.args.branch in
    subst (λ (xs : List ℕ). Splits s cert forms c.args.v b.row.items xs b.asks.items b.puts.items c.left_out.result)
    (c.in_ok-rest.ensures ∙ c.deref-2.ensures.value) (c.left_out.ensures s cert forms c.args.v (get_or c.deref-2.result.now 0 0))
