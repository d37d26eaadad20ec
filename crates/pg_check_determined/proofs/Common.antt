-- The names that the proofs of this crate cite from elsewhere, passed on from one place. Declares nothing.
pub use Rattle.std.proofs.Common.{add-one, ap, arith, inl, inr, refl, subst, sym, ◌∙◌}
pub use Rattle.std.proofs.Math.Dec.{ltb}
pub use Rattle.std.proofs.lemmas.Bool.{cases_Bool, cases_lt, eq-eqb, eqb-true, lt-ltb, ltb-true}
pub use Rattle.std.proofs.lemmas.Cmp.{nat_eq_equiv}
pub use Rattle.std.proofs.lemmas.List.{get_or-map, get_or_default, length-map}
pub use Rattle.std.proofs.lemmas.List.Elements.{All-cons, All-contains, All-filter, All-head, All-map, All-nil, All-tail, Contains-get_or}
pub use Rattle.std.proofs.lemmas.List.Elements.{filter_passes}
pub use Rattle.std.proofs.lemmas.List.FromFn.{get_or-map-range_with_len, length-map-range_with_len}
pub use Rattle.std.proofs.lemmas.List.Sums.{length-filter, sum_by-cons}
pub use Rattle.std.proofs.lemmas.Map.Made.{length-le_from_is_member}
pub use Rattle.std.proofs.lemmas.Map.Views.{Contains-from_any, list_any-from_Contains}
pub use Rattle.std.specs.List.{All, AllPairs, Any, Contains, filter, range_with_len}
unfoldable pub use Rattle.std.specs.List.{IsDistinct}
pub use Rattle.std.specs.Option.{IsSome}
pub use Rattle.std.specs.Prelude.{Bool, List, MatchBool, None, Some, [], cond, eqb, false, get_or, length, map, suc, take, true, zero, ℕ}
pub use Rattle.std.specs.Prelude.{◌%◌, ◌++◌, ◌+◌, ◌<◌, ◌∷◌, ◌≡◌, ◌≢◌, ◌≤◌, ◌⊎◌}
pub use Rattle.pg_arena.specs.Games.{GameVertex, HasParityOf, IsEdge, IsGame, IsPath, dual, opponent, owner, priority, successors}
pub use Rattle.pg_arena.specs.Lemmas.Duals.{game_dual, length_dual, owner_dual, priority_dual, successors_dual}
pub use Rattle.pg_arena.specs.declared.player.Player.{Player}
pub use Rattle.pg_arena.specs.declared.player.Player.TheVariants.{Even, Odd}
pub use Rattle.pg_check.proofs.Chosen.{not_both}
pub use Rattle.pg_check.proofs.Cycles.{IsBadCycleFrom, bad_cycle_from, count-cons, cycle_from_repeat, edge_from, safe_from_sound}
pub use Rattle.pg_check.proofs.Cycles.{sound_from_no_cycle, sound_from_safe}
pub use Rattle.pg_check.proofs.Listed.{falls, lists_win}
pub use Rattle.pg_check.proofs.Recurring.{not_not_decided, one_loser, parity_of}
pub use Rattle.pg_check.proofs.Wins.{opponent_twice, player_cases, same_winner, wins}
pub use Rattle.pg_check.specs.Plays.{IsGreatestRecurring, IsPlay, Loses, WinsPlay}
pub use Rattle.pg_check.specs.Soundness.{Counts, IsBadCycle, IsSafe, IsSound, NoneLeaves, Wins, meetings}
pub use Rattle.pg_check.specs.Strategies.{GoesServed}
pub use Rattle.pg_map.proofs.Falls.{all_unmap}
pub use Rattle.pg_map.proofs.GameLines.{game_line_at, game_line_below}
pub use Rattle.pg_map.proofs.Paths.{Repeat, all_front, path_keeps, repeat_or_distinct}
pub use Rattle.pg_map.proofs.Rounds.{path_map}
pub use Rattle.pg_map.specs.Lines.{Line, game_line}
pub use Rattle.pg_map.specs.Maps.{IsClosed, IsLeastProgressMeasure, IsMap, MapValue, SomeOrAll, measure_at}
pub use Rattle.pg_measure.proofs.OneList.{falls_after}
pub use Rattle.pg_measure.proofs.SomeBounds.{priority_bound}
pub use Rattle.pg_measure.proofs.Widths.{width_in, width_none}
pub use Rattle.pg_measure.specs.Games.{IsBoundsOf, vertices_of}
pub use Rattle.pg_measure.specs.Measures.{AtMost, BoundList, Covers, Fits, ListAtMost, ListBelow, ListFits, MeasureValue, is_odd}
pub use Rattle.pg_measure.specs.Measures.{width_from}
pub use Rattle.pg_text.specs.Solutions.{IsSolution, answer_at, choice, loser, unanswered, winner}
pub use Rattle.pg_text.specs.declared.answer.Answer.{Answer}
pub use Rattle.pg_check_determined.specs.Winners.{EachHasOneWinner, HasSoundSolution, LeastTellsWinners, NeverUndecided, WinsFrom}
