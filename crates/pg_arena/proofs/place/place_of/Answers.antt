use Rattle.pg_arena.proofs.Common.{arith}
use Rattle.pg_arena.proofs.Members.{below_least, behind_run, search_misses}
use Rattle.pg_arena.proofs.place.place_of.Goals as goal

pub returns-then-identifier-least-clause-missing : goal.returns-then-identifier-least-clause-missing
returns-then-identifier-least-clause-missing c = below_least c.args.identifiers.now c.args.identifier c.in_ok-least.least.now c.requires c.in_ok-least.ensures.value c.if-identifier-least.true

pub returns-else-guess-identifiers-clause-missing : goal.returns-else-guess-identifiers-clause-missing
returns-else-guess-identifiers-clause-missing c = behind_run c.args.identifiers.now c.args.identifier c.in_ok-least.least.now
    (c.is_run.ensures c.if-is_run.true) c.in_ok-least.ensures.value (omega arith)

pub returns-in-Err-clause-missing : goal.returns-in-Err-clause-missing
returns-in-Err-clause-missing c = search_misses c.args.identifier c.args.identifiers.now c.in-Err.field-0 c.requires c.in-Err.ensures.position
