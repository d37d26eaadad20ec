use Rattle.std.proofs.Common.{None, Some, arith}
use Rattle.std.proofs.lemmas.Grind.{common_steps}
use Rattle.pg_satisfies_check.proofs.Cutting.{begins_at, no_pieces, one_piece, keeps_pop, all_aside}
use Rattle.pg_satisfies_check.proofs.rows.rows_of.Goals as goal

pub returns-in_default : goal.returns-in_default
returns-in_default g c =
    no_pieces c.args.system.now c.args.bits.now c.new-rows.result.items
    (begins_at c.args.system.now c.args.bits.now c.in_ok-row.field-0 None c.in_default.is c.in_ok-row.ensures)

pub loop-step-init : goal.loop-step-init
loop-step-init g c =
    one_piece c.args.system.now c.args.bits.now c.in-Some.row c.new-stack.result.items c.push.new.self.items c.new-rows.result.items
    c.in_ok-push.ensures.items
    (begins_at c.args.system.now c.args.bits.now c.in_ok-row.field-0 (Some c.in-Some.row) c.in-Some.is c.in_ok-row.ensures)

pub loop-step-preserved : goal.loop-step-preserved
loop-step-preserved g c =
    keeps_pop c.args.system.now c.args.bits.now c.in-Some-pop.next c.loop-step.stack.items c.pop.new.self.items c.loop-step.rows.items
    c.cut.new.stack.items c.cut.new.rows.items c.in-Some-pop.ensures.items c.in_ok-cut.ensures c.loop-step.invariant

pub returns-in_default-pop : goal.returns-in_default-pop
returns-in_default-pop g c =
    all_aside c.args.system.now c.args.bits.now c.loop-step.stack.items c.loop-step.rows.items
    (grind (arith, common_steps, c.in_default-pop.ensures.items, c.in_default-pop.ensures.variant, c.in_default-pop.ensures.cases, c.in_default-pop.ensures.len)) c.loop-step.invariant
