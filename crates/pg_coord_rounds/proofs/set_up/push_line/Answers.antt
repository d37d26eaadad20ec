use Rattle.pg_coord_rounds.proofs.Common.{◌≡◌, ◌∷◌, ◌++◌, ℕ, [], List, subst, GameVertex, vertex_at, vertex_line, line_with, IsLineAdded}
use Rattle.pg_coord_rounds.proofs.Common.{told_line}
use Rattle.pg_coord_rounds.proofs.Gathering.{pushed_line}
use Rattle.pg_coord_rounds.proofs.set_up.push_line.Goals as goal

pub prove-unreachable-requires : goal.prove-unreachable-requires
prove-unreachable-requires c =
    let head = c.in_ok-head in
    let line = line_with head.head c.fill_line.new.successors.items in
    let written = c.requires.written in
    let line_is : told_line line ≡ vertex_line (vertex_at c.args.task.now.game c.args.v) =
    subst (λ (game : List GameVertex). told_line line ≡ vertex_line (vertex_at game c.args.v)) c.game.ensures.value head.ensures.line in
    let added = subst (λ (ss : List ℕ). IsLineAdded c.in_ok-fits.fits c.args.writer.now c.push.new.self [] written.0
    (line_with head.head ss) c.args.out.now.items c.push.new.out.items)
    c.as_slice.ensures.value (c.in_ok-fits.ensures.added [] written.0 written.1.writing) in
    let pushed = pushed_line c.args.task.now c.args.writer.now c.push.new.self c.args.v written.0 line c.args.out.now.items c.push.new.out.items c.in_ok-fits.fits
    c.game.ensures.task head.ensures.vertex c.requires.v head.ensures.well line_is written.1 c.requires.short added in
    let yes = pushed.0 in
    let no = c.if-prove.true in
    cc

pub returns : goal.returns
returns c =
    let head = c.in_ok-head in
    let line = line_with head.head c.fill_line.new.successors.items in
    let written = c.requires.written in
    let line_is : told_line line ≡ vertex_line (vertex_at c.args.task.now.game c.args.v) =
    subst (λ (game : List GameVertex). told_line line ≡ vertex_line (vertex_at game c.args.v)) c.game.ensures.value head.ensures.line in
    let added = subst (λ (ss : List ℕ). IsLineAdded c.in_ok-fits.fits c.args.writer.now c.push.new.self [] written.0
    (line_with head.head ss) c.args.out.now.items c.push.new.out.items)
    c.as_slice.ensures.value (c.in_ok-fits.ensures.added [] written.0 written.1.writing) in
    let pushed = pushed_line c.args.task.now c.args.writer.now c.push.new.self c.args.v written.0 line c.args.out.now.items c.push.new.out.items c.in_ok-fits.fits
    c.game.ensures.task head.ensures.vertex c.requires.v head.ensures.well line_is written.1 c.requires.short added in
    (written.0 ++ line ∷ [], pushed.1)
