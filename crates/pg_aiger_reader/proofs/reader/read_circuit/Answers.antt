use Rattle.pg_aiger_reader.proofs.Common.{length}
use Rattle.pg_aiger_reader.proofs.ReadingLaws.{is_found, is_refused}
use Rattle.pg_aiger_reader.proofs.reader.read_circuit.Goals as goal

pub returns-in-Ok-clause-found : goal.returns-in-Ok-clause-found
returns-in-Ok-clause-found c = is_found c.args.bytes.now c.in-Ok.parts c.in-Ok.ensures.0

pub returns-in-Err-clause-refused : goal.returns-in-Err-clause-refused
returns-in-Err-clause-refused c =
    rw c.at.ensures (is_refused c.args.bytes.now (length c.args.bytes.now) c.in-Err.fault c.in-Err.ensures)
