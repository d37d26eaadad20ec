use Rattle.pg_cli_command.proofs.One.{one_answer}
use Rattle.pg_cli_command.proofs.Within.{one_synthesised}
use Rattle.pg_cli_command.proofs.laws.one_answer.Goals as goal

pub returns : goal.returns
returns c =
    one_answer c.one_game.ensures c.one_list_of_bounds.ensures c.closed_is_least.ensures c.one_reading.ensures (record {
      one_game = c.one_game.ensures;
      one_script = c.one_script.ensures;
      one_bounds = c.one_list_of_bounds.ensures;
      order = c.order_is_total.ensures;
      same_taken = c.same_taken.ensures;
    }) (one_synthesised c.one_reading.ensures c.one_winner.ensures c.one_list_of_bounds.ensures c.closed_is_least.ensures
    c.one_machine.ensures c.one_circuit.ensures)
