use Rattle.pg_text.proofs.FirstBytes.{blank_skipped}
use Rattle.pg_text.proofs.tokens.blank.Goals as goal

pub returns-in-len1-up-clause-same : goal.returns-in-len1-up-clause-same
returns-in-len1-up-clause-same c = blank_skipped c.args.bytes.now c.in-len1-up.len_at_least (cc)
