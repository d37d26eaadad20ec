use Rattle.pg_cli_command.proofs.Common.{◌<◌, ◌≤◌, length, [], Keeps}
use Rattle.pg_cli_command.proofs.input.read_input.Given as goal

abbrev pub invariant-reads : goal.invariant-reads
invariant-reads g l =
    let left = g.R.Read.remaining in
    record {
      room : 0 < length l.buffer;
      within : length l.text.items ≤ 268435456;
      kept : Keeps (left l.fn.reader) [] (left l.reader) l.text.items;
    }
