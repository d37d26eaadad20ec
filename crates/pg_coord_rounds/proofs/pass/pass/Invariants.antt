use Rattle.pg_coord_rounds.proofs.Common.{◌≡◌, length, game_line, IsPassed}
use Rattle.pg_coord_rounds.proofs.pass.pass.Given as goal

abbrev pub invariant-loop-number : goal.invariant-loop-number
invariant-loop-number l = record {
  size : length l.coordinator.map.measures ≡ length l.game;
  passed : IsPassed (game_line l.game) l.fn.coordinator.map l.coordinator.map l.coordinator.rose l.number;
}
