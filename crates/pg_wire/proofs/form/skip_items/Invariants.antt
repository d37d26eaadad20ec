use Rattle.pg_wire.proofs.Common.{◌≡◌, ◌-◌, skipped, so_many}
use Rattle.pg_wire.proofs.form.skip_items.Given as goal

abbrev pub invariant-loop : goal.invariant-loop
invariant-loop g l = skipped (so_many (g.F.Form.kind l.width) (l.count - l.counter) l.at).read l.rest
    ≡ skipped (so_many (g.F.Form.kind l.width) l.count l.place).read l.bytes
