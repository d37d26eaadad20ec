use Rattle.pg_satisfies_check.proofs.Covering.{cover_without}
use Rattle.pg_satisfies_check.proofs.branch.left_out.Goals as goal

pub returns : goal.returns
returns c s cert forms v place h = cover_without s cert forms v c.args.row.items place c.args.rest.items c.args.asks.items c.args.puts.items h
