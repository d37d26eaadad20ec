use Rattle.pg_cli_command.proofs.Common.{OnOk, Appends, circuit_text, subst, sym}
use Rattle.std.specs.Prelude.{Bool}
use Rattle.pg_cli_command.specs.Synthesising.{unrealizable}
use Rattle.pg_cli_command.specs.Mirrors.Counter.{countered_text}
use Rattle.pg_cli_command.proofs.Writing.{appends_last}
use Rattle.pg_cli_command.proofs.counter.write_countered.Goals as goal

pub returns-then-is_realized : goal.returns-then-is_realized
returns-then-is_realized g c =
    let contents = g.W.Write.contents in
    subst (λ (b : Bool). OnOk c.write_realized.result (Appends (contents c.args.writer.now) (contents c.write_realized.new.writer)
    (countered_text b c.args.automaton.now c.args.circuit.now))) (sym c.if-is_realized.true) c.write_realized.ensures

pub returns : goal.returns
returns g c =
    let contents = g.W.Write.contents in
    subst (λ (b : Bool). OnOk c.write_circuit.result (Appends (contents c.args.writer.now) (contents c.write_circuit.new.out)
    (countered_text b c.args.automaton.now c.args.circuit.now))) (sym c.if-is_realized.false)
    (appends_last c.write_circuit.result (contents c.args.writer.now) (contents c.write_all.new.self) (contents c.write_circuit.new.out)
    unrealizable (circuit_text c.args.circuit.now c.args.automaton.now) c.in_ok-write_all.ensures.bytes c.write_circuit.ensures.bytes)
