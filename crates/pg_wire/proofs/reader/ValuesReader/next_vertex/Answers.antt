use Rattle.pg_wire.proofs.Left.{no_vertex, vertex_read}
use Rattle.pg_wire.proofs.reader.ValuesReader.next_vertex.Goals as goal

pub returns-in_default-clause-next : goal.returns-in_default-clause-next
returns-in_default-clause-next c = λ ms h. no_vertex ms c.args.self.now c.in_default.field-0 h c.in_default.ensures.read

pub returns-clause-next : goal.returns-clause-next
returns-clause-next c = λ ms h. vertex_read ms c.args.self.now c.in-Ok.vertex c.in-Ok.tag c.in-Ok.rest h c.in-Ok.ensures.read
