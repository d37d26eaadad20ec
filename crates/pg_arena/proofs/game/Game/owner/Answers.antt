use Rattle.pg_arena.proofs.Common.{ap, Entry}
use Rattle.pg_arena.proofs.Vertices.{vertex_is, entry_read}
use Rattle.pg_arena.proofs.game.Game.owner.Goals as goal

pub returns : goal.returns
returns c = rw (vertex_is c.args.self.now c.args.v c.self.invariant c.self.view_is c.requires)
    (ap (λ (e : Entry). e.owner) (entry_read c.args.self.now c.args.v c.v.inside.0 c.index.result.now c.self.invariant c.self.view_is c.requires c.v.view_is
    c.index.ensures))
