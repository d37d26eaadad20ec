use Rattle.std.proofs.Common.{◌≡◌, ℕ, ◌+◌, ◌*◌, ◌/◌, ◌%◌, ◌<◌, arith, refl, sym, subst, ap, ◌∙◌}
use Rattle.std.specs.Prelude.{map}
use Rattle.std.proofs.lemmas.List.{get_or-map}
use Rattle.pg_aiger_netlist.specs.Steps.{spelt, AreValues}
use Rattle.pg_verify.specs.Mirrors.Products.{Pair, pair, pair_of, pair_at}
use Rattle.pg_verify.proofs.product.fill.Goals as goal

pub returns-then-input-eq0 : goal.returns-then-input-eq0
returns-then-input-eq0 c =
    let e : c.args.input / 64 * 64 ≡ c.args.input = (let z = c.if-input-eq0.true in omega (arith, z)) in
    let state : spelt c.deref.result.now ≡ (pair_at (map pair_of c.args.rows.now) c.args.k).latches =
    ap spelt c.deref.ensures.value
    ∙ ap Pair.latches (sym (get_or-map pair_of c.args.rows.now c.args.k c.index-rows-k.result (pair 0 0) c.requires.state)) in
    λ lane l.
    subst (λ s. AreValues c.args.netlist.now s (c.args.input / 64 * 64 + lane) lane c.step.new.row) state
    (subst (λ m. AreValues c.args.netlist.now (spelt c.deref.result.now) (m + lane) lane c.step.new.row) (sym e) (c.step.ensures.values lane l))

pub returns-else-input-eq0 : goal.returns-else-input-eq0
returns-else-input-eq0 c = c.requires.before c.if-input-eq0.false
