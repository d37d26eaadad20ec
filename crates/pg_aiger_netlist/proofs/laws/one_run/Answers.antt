use Rattle.pg_aiger_netlist.proofs.Runs.{has_one}
use Rattle.pg_aiger_netlist.proofs.laws.one_run.Goals as goal

pub returns : goal.returns
returns c = has_one
