use Rattle.pg_cli_command.proofs.Common.{◌∙◌, dual, length_dual, check_fault, IsUnsolved}
use Rattle.pg_cli_command.proofs.Refusing.{refused_by, unsolved_by}
use Rattle.pg_cli_command.proofs.solution.solution_of.Goals as goal

pub strategies-requires-clause-even_size : goal.strategies-requires-clause-even_size
strategies-requires-clause-even_size g c =
    (g.met.F.Solver.closed c.args.solver.now c.args.game.now (g.F.Map.Measures.map c.in_ok-maps.maps.of_game) c.in_ok-maps.ensures.of_game).fits.size

pub strategies-requires-clause-odd_size : goal.strategies-requires-clause-odd_size
strategies-requires-clause-odd_size g c =
    (g.met.F.Solver.closed c.args.solver.now (dual c.args.game.now) (g.F.Map.Measures.map c.in_ok-maps.maps.of_dual) c.in_ok-maps.ensures.of_dual).fits.size
    ∙ length_dual c.args.game.now

pub strategies-requires-clause-closed : goal.strategies-requires-clause-closed
strategies-requires-clause-closed g c = record {
  game_map = (g.met.F.Solver.closed c.args.solver.now c.args.game.now (g.F.Map.Measures.map c.in_ok-maps.maps.of_game) c.in_ok-maps.ensures.of_game).closed;
  dual_map = (g.met.F.Solver.closed c.args.solver.now (dual c.args.game.now) (g.F.Map.Measures.map c.in_ok-maps.maps.of_dual) c.in_ok-maps.ensures.of_dual).closed;
}

pub returns-in_err-strategies-clause-refused : goal.returns-in_err-strategies-clause-refused
returns-in_err-strategies-clause-refused g c =
    let Kind = g.F.Solver.finds c.args.solver.now in
    let fault = c.in_err-strategies.field-0.0 in
    refused_by (IsUnsolved Kind c.args.game.now) c.from_residual-in_err-strategies.result (check_fault fault)
    c.from_residual-in_err-strategies.ensures.1
    (unsolved_by Kind c.args.game.now (g.F.Map.Measures.map c.in_ok-maps.maps.of_game) (g.F.Map.Measures.map c.in_ok-maps.maps.of_dual) c.in_ok-maps.ensures.of_game c.in_ok-maps.ensures.of_dual fault
    c.in_err-strategies.ensures.fault)

pub returns-clause-solved : goal.returns-clause-solved
returns-clause-solved g c = record {
  even = g.F.Map.Measures.map c.in_ok-maps.maps.of_game;
  odd = g.F.Map.Measures.map c.in_ok-maps.maps.of_dual;
  even_found = c.in_ok-maps.ensures.of_game;
  odd_found = c.in_ok-maps.ensures.of_dual;
  solution_of = c.in_ok-strategies.ensures.solution;
}
