use Rattle.std.proofs.Common.{rules, sym, ◌∙◌}
use Rattle.pg_ltl.proofs.Pending.{completed_turn, completed_there, completed_ends}
use Rattle.pg_ltl.proofs.reading.completed.Goals as goal

pub pending-preserved : goal.pending-preserved
pending-preserved c =
    completed_turn c.pending.nodes.items _ c.pending.pending.items c.pop.new.pending.items c.in-Some.innermost c.in-Some-ahead.op c.pending.place _ c.in-Some.ensures
    (sym c.in-Some-ahead.ensures) c.in_ok-push-in-Some-ahead.ensures.items (search rules) ∙ c.pending.invariant

pub returns-in-None : goal.returns-in-None
returns-in-None c =
    c.over.ensures
    ∙ completed_ends c.pending.nodes.items c.pending.pending.items c.pop.new.pending.items c.pending.place c.in-None.ensures.0 c.in-None.ensures.1
    ∙ c.pending.invariant

pub returns-in-None-ahead : goal.returns-in-None-ahead
returns-in-None-ahead c =
    c.over-in-None-ahead.ensures
    ∙ completed_there c.pending.nodes.items c.pending.pending.items c.pop.new.pending.items c.push-in-None-ahead.new.self.items c.in-Some.innermost c.pending.place
    c.in-Some.ensures (sym c.in-None-ahead.ensures) c.in_ok-push-in-None-ahead.ensures.items
    ∙ c.pending.invariant
