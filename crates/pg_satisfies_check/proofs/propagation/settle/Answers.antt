use Rattle.std.proofs.Common.{◌<◌, Bool, Option, List, true, length, get_or, sym, subst, arith}
use Rattle.pg_aiger.specs.declared.gate.Gate.{Gate}
use Rattle.pg_aiger.specs.Runs.{Satisfies}
use Rattle.pg_satisfies_check.specs.Mirrors.Known.{Learns, Meets}
use Rattle.pg_satisfies_check.proofs.Knowing.{learns_more, learns_not, met_at}
use Rattle.pg_satisfies_check.proofs.propagation.settle.Goals as goal
use Rattle.pg_satisfies_check.proofs.propagation.settle.Goals.{then-place-gates+in_ok-ok+else-not-ok, else-place-gates}

abbrev none : Gate
none = record { lhs = 0; rhs0 = 0; rhs1 = 0 }

pub loop-step-preserved : goal.loop-step-preserved
loop-step-preserved c =
    let gates = c.args.gates.now in
    let place = c.in-Some.place in
    let P : List (Option Bool) → Type 0 = λ r. Learns (λ u. Satisfies u gates) c.args.row.now true r in
    elim c.if-place-gates.branch [
      | then-place-gates+in_ok-ok+else-not-ok w ↦
          let below : place < length gates = omega arith in
          subst P (sym w.row-is)
          (learns_more (λ u. Satisfies u gates) (λ u. Meets u (get_or gates place none)) c.args.row.now c.loop-step.row w.settle_gate.new.row
          w.in_ok-ok.ok (λ u met. met_at u gates place none met below) c.loop-step.invariant w.in_ok-ok.ensures)
      | else-place-gates w ↦ subst P (sym w.row-is) c.loop-step.invariant
    ]

pub returns-then-not-ok : goal.returns-then-not-ok
returns-then-not-ok c =
    let gates = c.args.gates.now in
    let place = c.in-Some.place in
    let below : place < length gates = omega arith in
    learns_not (λ u. Satisfies u gates) (λ u. Meets u (get_or gates place none)) c.args.row.now c.loop-step.row c.settle_gate.new.row
    c.settle_gate.new.row c.in_ok-ok.ok (λ u met. met_at u gates place none met below) c.loop-step.invariant c.in_ok-ok.ensures c.if-not-ok.true
