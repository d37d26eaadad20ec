use Rattle.pg_wire.proofs.Common.{refl}
use Rattle.pg_wire.proofs.Left.{row_there, row_read}
use Rattle.pg_wire.proofs.reader.ValuesReader.read_row.Goals as goal

pub returns-in_err-self-clause-row : goal.returns-in_err-self-clause-row
returns-in_err-self-clause-row c = λ list ms h. absurd (row_there c.args.self.now list ms c.in_err-self.field-0.0 h c.in_err-self.ensures.read)

pub returns-clause-row : goal.returns-clause-row
returns-clause-row c = λ list ms h.
    let p = row_read c.args.self.now c.read_list.new.row list ms c.in_ok-self.field-0 h c.in_ok-self.ensures.read in
    (refl, p.0, p.1)
