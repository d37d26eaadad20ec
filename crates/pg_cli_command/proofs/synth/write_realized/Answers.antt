use Rattle.pg_cli_command.proofs.Common.{circuit_text, realizable}
use Rattle.pg_cli_command.proofs.Writing.{appends_last}
use Rattle.pg_cli_command.proofs.synth.write_realized.Goals as goal

pub returns : goal.returns
returns g c =
    let contents = g.W.Write.contents in
    appends_last c.write_circuit.result (contents c.args.writer.now) (contents c.write_all.new.self) (contents c.write_circuit.new.out)
    realizable (circuit_text c.args.circuit.now c.args.automaton.now) c.in_ok-write_all.ensures.bytes c.write_circuit.ensures.bytes
