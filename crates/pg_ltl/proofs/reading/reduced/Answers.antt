use Rattle.std.proofs.Common.{rules, sym, ◌∙◌}
use Rattle.pg_ltl.proofs.Pending.{reduced_turn, reduced_there, reduced_ends}
use Rattle.pg_ltl.proofs.reading.reduced.Goals as goal

pub pending-preserved : goal.pending-preserved
pending-preserved c =
    reduced_turn c.args.bound c.pending.nodes.items _ c.pending.pending.items c.pop.new.pending.items c.in-Some.innermost c.in-Some-taking.op c.in-Some-taking.other
    c.pending.place _ c.in-Some.ensures
    (sym c.in-Some-taking.ensures) c.in_ok-push-in-Some-taking.ensures.items (search rules) ∙ c.pending.invariant

pub returns-in-None : goal.returns-in-None
returns-in-None c =
    c.over.ensures
    ∙ reduced_ends c.args.bound c.pending.nodes.items c.pending.pending.items c.pop.new.pending.items c.pending.place c.in-None.ensures.0 c.in-None.ensures.1
    ∙ c.pending.invariant

pub returns-in-None-taking : goal.returns-in-None-taking
returns-in-None-taking c =
    c.over-in-None-taking.ensures
    ∙ reduced_there c.args.bound c.pending.nodes.items c.pending.pending.items c.pop.new.pending.items c.push-in-None-taking.new.self.items
    c.in-Some.innermost c.pending.place
    c.in-Some.ensures (sym c.in-None-taking.ensures) c.in_ok-push-in-None-taking.ensures.items
    ∙ c.pending.invariant
