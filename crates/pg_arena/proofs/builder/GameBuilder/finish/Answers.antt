use Rattle.pg_arena.proofs.Common.{List, subst, sym, Line, IsGameOf}
use Rattle.pg_arena.proofs.Unique.{only}
use Rattle.pg_arena.proofs.builder.GameBuilder.finish.Goals as goal

pub returns-clause-only : goal.returns-clause-only
returns-clause-only c = λ game is. only c.self.inside.lines c.finish.result c.finish.ensures.game c.finish.ensures.fault game
    (subst (λ (ls : List Line). IsGameOf ls game) (sym c.self.view_is) is)
