use Rattle.pg_worker.proofs.adding.fits_game.Goals as goal

pub returns : goal.returns
returns c = rw (c.as_slice.ensures, c.head_of.ensures) at c.fits_line.ensures
