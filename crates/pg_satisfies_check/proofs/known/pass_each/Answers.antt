use Rattle.std.proofs.Common.{get_or}
use Rattle.pg_aiger.specs.declared.gate.Gate.{Gate}
use Rattle.pg_aiger.specs.Runs.{Satisfies}
use Rattle.pg_satisfies_check.specs.Mirrors.Known.{Meets}
use Rattle.pg_satisfies_check.proofs.Knowing.{learns_more, learns_not, met_at}
use Rattle.pg_satisfies_check.proofs.known.pass_each.Goals as goal

abbrev none : Gate
none = record { lhs = 0; rhs0 = 0; rhs1 = 0 }

pub returns-then-not-pass : goal.returns-then-not-pass
returns-then-not-pass c =
    let gates = c.args.gates.now in
    let k = c.loop-gate.gate-index in
    learns_not (λ u. Satisfies u gates) (λ u. Meets u (get_or gates k none)) c.args.row.now c.loop-gate.row c.pass.new.row c.pass.new.row
    c.pass.result (λ u met. met_at u gates k none met c.loop-gate-test.true) c.loop-gate.invariant c.pass.ensures c.if-not-pass.true

pub loop-gate-preserved : goal.loop-gate-preserved
loop-gate-preserved c =
    let gates = c.args.gates.now in
    let k = c.loop-gate.gate-index in
    learns_more (λ u. Satisfies u gates) (λ u. Meets u (get_or gates k none)) c.args.row.now c.loop-gate.row c.pass.new.row c.pass.result
    (λ u met. met_at u gates k none met c.loop-gate-test.true) c.loop-gate.invariant c.pass.ensures
