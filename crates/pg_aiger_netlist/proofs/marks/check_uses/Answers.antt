use Rattle.std.proofs.Common.{rules, ◌≡◌, ◌≤◌, ℕ, true, List, length, take, get_or, refl, sym, subst, ap, ◌∙◌}
use Rattle.std.specs.Prelude.{All}
use Rattle.std.proofs.lemmas.List.{take_all}
use Rattle.std.proofs.lemmas.List.Elements.{All-more}
use Rattle.pg_aiger_netlist.specs.Netlists.{variable}
use Rattle.pg_aiger_netlist.specs.Mirrors.Marks.{marked}
use Rattle.pg_aiger_netlist.proofs.marks.check_uses.Goals as goal

pub loop-literal-preserved : goal.loop-literal-preserved
loop-literal-preserved c =
    All-more (λ literal. marked c.args.row.now (variable literal) ≡ true) c.args.uses.now c.loop-literal.literal-index 0 c.loop-literal-test.true
    c.loop-literal.invariant (let here : c.is_marked.result ≡ true = search rules in sym c.is_marked.ensures ∙ here)

pub returns-clause-used : goal.returns-clause-used
returns-clause-used c =
    subst (All (λ literal. marked c.args.row.now (variable literal) ≡ true))
    (take_all c.loop-literal.literal-index c.args.uses.now c.loop-literal-test.false) c.loop-literal.invariant
