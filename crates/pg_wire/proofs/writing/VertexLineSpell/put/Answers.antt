use Rattle.pg_wire.proofs.writing.VertexLineSpell.put.Goals as goal

pub returns-clause-ok : goal.returns-clause-ok
returns-clause-ok g c = rw (c.line_front-front.ensures, c.as_slice.ensures) at c.put_front_and_counted.ensures.ok
