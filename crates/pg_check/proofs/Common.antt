-- The names that the proofs of this crate cite from elsewhere, passed on from one place. Declares nothing.
pub use Rattle.std.proofs.Common.{add-one, ap, arith, below_more, get_or-set_other, get_or-set_same, inl, inr, length-set, refl, rules}
pub use Rattle.std.proofs.Common.{subst, sym, ◌∙◌}
pub use Rattle.std.proofs.lemmas.Bool.{cases_eq, cases_lt, eq-eqb, eqb-true}
pub use Rattle.std.proofs.lemmas.Bool.Decides.{Decides-eqb}
pub use Rattle.std.proofs.lemmas.List.{append-nil, get_or-map, get_or-replicate, get_or_append_left, get_or_default, get_or_past}
pub use Rattle.std.proofs.lemmas.List.{get_or_push, get_or_read, length-append, length-map, length-replicate, map-append, reverse-append}
pub use Rattle.std.proofs.lemmas.List.Elements.{All-append, All-cons, All-contains, All-head, All-map, All-nil, All-push, All-tail}
pub use Rattle.std.proofs.lemmas.List.Elements.{All-weaker, Contains-append_left, Contains-get_or, Contains-push}
pub use Rattle.std.proofs.lemmas.List.Kept.{AllPairs-cons}
pub use Rattle.std.proofs.lemmas.List.Quantifiers.{all_pairs_push}
pub use Rattle.std.proofs.lemmas.List.Sums.{sum_by-append, sum_by-cons}
pub use Rattle.std.proofs.lemmas.Map.Made.{IsDistinct-from_AllPairs}
pub use Rattle.std.proofs.lemmas.Map.Steps.{length-le_from_distinct_below}
pub use Rattle.std.proofs.lemmas.Map.Views.{Contains-from_any}
pub use Rattle.std.specs.Bool.{IsTrue}
pub use Rattle.std.specs.List.{All, AllPairs, Any, Contains, count_by}
pub use Rattle.std.specs.List.Sorted.{IsStrictlyIncreasing}
pub use Rattle.std.specs.Option.{IfNone, IfSome, IsSome}
pub use Rattle.std.specs.Prelude.{Bool, IfOk, List, None, Ok, Option, Result, Some, [], cond, eqb, false, get_or, length, map, replicate}
pub use Rattle.std.specs.Prelude.{reverse, set, slice_set, suc, true, zero, ℕ, ◌%◌, ◌++◌, ◌+◌, ◌-◌, ◌<◌, ◌↔◌, ◌∷◌, ◌≡◌, ◌≢◌, ◌≤◌, ◌⊎◌}
pub use Rattle.std.specs.declared.alloc.AllocError.{AllocError}
pub use Rattle.std.specs.declared.alloc.Global.{Global}
pub use Rattle.std.specs.declared.vec.Vec.{Vec}
pub use Rattle.pg_arena.specs.Games.{GameVertex, HasParityOf, IsEdge, IsGame, IsGreatest, IsPath, dual, identifier, nowhere, opponent}
pub use Rattle.pg_arena.specs.Games.{owner, priority, successors, vertex_at}
pub use Rattle.pg_arena.specs.Lemmas.Duals.{length_dual, owner_dual, priority_dual, successors_dual}
pub use Rattle.pg_arena.specs.declared.player.Player.{Player}
pub use Rattle.pg_arena.specs.declared.player.Player.TheVariants.{Even, Odd}
pub use Rattle.pg_map.proofs.Falls.{Falls, all_unmap, covers_falls, lists, no_odd_cycle}
pub use Rattle.pg_map.proofs.GameLines.{game_line_at, game_line_some}
pub use Rattle.pg_map.proofs.Parting.{none_both}
pub use Rattle.pg_map.proofs.Paths.{IsWay, Repeat, all_front, all_later, all_part, path_join, path_keeps, path_upto, repeat_or_few}
pub use Rattle.pg_map.proofs.Paths.{way_later, way_part}
pub use Rattle.pg_map.proofs.Rounds.{greatest_raised, path_map}
pub use Rattle.pg_map.proofs.Serving.{all_passed, first_serving_at, passed_or_later, rising_at}
pub use Rattle.pg_map.specs.Lines.{AreWithin, Line, game_line, line_at, vertex_line}
pub use Rattle.pg_map.specs.Maps.{IsClosed, IsFirstServing, IsServedBy, MapValue, SomeOrAll, measure_at}
pub use Rattle.pg_measure.proofs.Order.{covers_or}
pub use Rattle.pg_measure.proofs.SomeBounds.{priority_bound}
pub use Rattle.pg_measure.specs.Measures.{BoundList, Covers, MeasureValue, is_odd, width_from}
pub use Rattle.pg_check_order.proofs.Nested.{wins_nodes}
pub use Rattle.pg_check_order.specs.Orders.{span_at}
pub use Rattle.pg_check_order.specs.declared.span.Span.{Span}
pub use Rattle.pg_text.specs.Solutions.{IsSolution, answer_at, choice, loser, unanswered, winner}
pub use Rattle.pg_text.specs.declared.answer.Answer.{Answer}
pub use Rattle.pg_check.specs.Laws.{HasOneLoser, KeepsToSolution, SoundIffWins}
pub use Rattle.pg_check.specs.Mirrors.Cycles.{HasNoBadCycle, HasNoCycle, IsLost, IsSimpleCycle, IsTrail}
pub use Rattle.pg_check.specs.Mirrors.Orders.{GoesOn, IsOnSide, IsOrder, Stands, height_at, height_of}
pub use Rattle.pg_check.specs.Mirrors.Searches.{AreTaken, IsExplored, IsSearched, IsTaken}
pub use Rattle.pg_check.specs.Plays.{IsAbsentFrom, IsGreatestRecurring, IsPlay, Loses, Recurs, WinsPlay, stretch}
pub use Rattle.pg_check.specs.Soundness.{Counts, IsBadCycle, IsSafe, IsSound, IsSoundSolution, KeepsCount, NoneLeaves, Wins}
pub use Rattle.pg_check.specs.Strategies.{AreClosed, Certifies, DecidedMapsSolve, GoesServed, HasList, IsAnswerOf, IsCertifiedBy}
pub use Rattle.pg_check.specs.Strategies.{IsCertifiedFor, IsChoiceFor, IsLeastUndecided, IsServedFor, IsSolutionOf, IsUndecided, ListsWin}
pub use Rattle.pg_check.specs.Strategies.{game_of, map_of}
pub use Rattle.pg_check.specs.Verdicts.{IsLeastLeaving, IsSimpleBadCycle}
