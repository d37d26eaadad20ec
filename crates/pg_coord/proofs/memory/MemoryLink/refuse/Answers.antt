use Rattle.pg_coord.proofs.Keeping.{kept_report}
use Rattle.pg_coord.proofs.memory.MemoryLink.refuse.Goals as goal

pub invariant_of-self-2 : goal.invariant_of-self-2
invariant_of-self-2 c =
    let inside = c.self.inside in
    kept_report inside.highest inside.session.highest inside.next inside.session.held inside.has_refused
    inside.waiting.items c.put_fault.new.out.items c.args.fault c.self.invariant c.in_ok-put_fault.ensures.ok
