use Rattle.pg_text.proofs.Lexing.{read_spelt, read_only, read_fault}
use Rattle.pg_text.proofs.tokens.next_token.Goals as goal

pub returns-clause-spelt : goal.returns-clause-spelt
returns-clause-spelt c = read_spelt c.scan.result c.args.bytes.now c.scan.ensures

pub returns-clause-only : goal.returns-clause-only
returns-clause-only c = λ token rest begins. read_only c.scan.result c.args.bytes.now token rest c.scan.ensures begins

pub returns-clause-fault : goal.returns-clause-fault
returns-clause-fault c = read_fault c.scan.result c.args.bytes.now c.scan.ensures
