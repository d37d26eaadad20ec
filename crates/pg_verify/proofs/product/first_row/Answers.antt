use Rattle.std.proofs.Common.{rules, ◌≡◌, ℕ, zero, suc, false, arith, refl, ap, ◌∙◌}
use Rattle.std.specs.Prelude.{replicate}
use Rattle.pg_aiger_netlist.specs.Steps.{spelt}
use Rattle.pg_verify.specs.Mirrors.Products.{pair}
use Rattle.pg_verify.proofs.product.first_row.Goals as goal

none_spelt : (n : ℕ) → spelt (replicate n false) ≡ 0
none_spelt zero = refl
none_spelt (suc n) = let e = none_spelt n in omega (arith, e)

pub returns-clause-first : goal.returns-clause-first
returns-clause-first c =
    let none : c.in_ok-values.values.items ≡ replicate c.args.latches false = search rules in
    ap (λ n. pair n c.args.state) (ap spelt none ∙ none_spelt c.args.latches)
