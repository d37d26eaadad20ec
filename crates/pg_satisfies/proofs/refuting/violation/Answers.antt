use Rattle.std.proofs.Common.{ℕ, List, subst, sym, ap, ◌∙◌, ◌≡◌, length, arith}
use Rattle.std.specs.Bool.{OnTrue}
use Rattle.pg_aiger.specs.Circuits.{Circuit}
use Rattle.pg_aiger.specs.Runs.{Valuation}
use Rattle.pg_ltl.specs.NormalForms.{Holds}
use Rattle.pg_ltl.specs.Mirrors.Nodes.{normal_in}
use Rattle.pg_means_look.specs.Lassos.{lasso}
use Rattle.pg_satisfies_check.specs.Satisfaction.{IsEndlessRun, IsPartOf, run_word}
use Rattle.pg_satisfies_check.specs.Mirrors.Steps.{circuit_of}
use Rattle.pg_satisfies_check.specs.Mirrors.Lassos.{letters_of}
use Rattle.pg_satisfies.proofs.Attempting.{holds_on}
use Rattle.pg_satisfies.proofs.refuting.violation.Goals as goal

pub returns-then-is_shown : goal.returns-then-is_shown
returns-then-is_shown c =
    let q = c.args.question in
    let s = c.args.system.now in
    holds_on q.netlist.now (circuit_of s) s.literals.items q.literals.now c.input_literals-inputs.result.now
    (normal_in q.nodes.now c.args.place) c.in_ok-letters.letters.items c.deref-2.result.now c.args.lasso.now.back c.in_ok-is_shown.is_shown
    c.requires.part c.requires.literals c.input_literals-inputs.ensures c.deref-2.ensures.value (omega arith) c.if-is_shown.true
    c.in_ok-is_shown.ensures
