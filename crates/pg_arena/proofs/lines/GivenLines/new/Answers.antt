use Rattle.pg_arena.proofs.Adding.{kept_none}
use Rattle.pg_arena.proofs.lines.GivenLines.new.Goals as goal

pub invariant_of-result : goal.invariant_of-result
invariant_of-result c = kept_none c.new.result c.new-3.result.items c.new-5.result.items c.new-4.result.items c.new-2.result.items c.new.ensures
    c.new-3.ensures.items c.new-5.ensures.items c.new-4.ensures.items c.new-2.ensures.items
