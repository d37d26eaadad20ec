-- The names that the proofs of this crate cite from elsewhere, passed on from one place. Declares nothing.
pub use lib.Seq.{paste}
pub use Rattle.std.proofs.Common.{ap, append_assoc, arith, below_more, inl, inr, length-append, length-drop, length-take, refl, subst, sym}
pub use Rattle.std.proofs.Common.{◌∙◌}
pub use Rattle.std.proofs.Math.Nat.{mul-le-mul_left}
pub use Rattle.std.proofs.lemmas.Bool.{cases_eq, cases_lt, eq-eqb, eqb-true, le-leb, leb-true}
pub use Rattle.std.proofs.lemmas.Bool.Decides.{nat_tests}
pub use Rattle.std.proofs.lemmas.Grind.{common_steps}
pub use Rattle.std.proofs.lemmas.List.{append-nil, drop-replicate, drop_all, drop_at, get_or-drop, get_or-replicate, get_or-set_other}
pub use Rattle.std.proofs.lemmas.List.{get_or-set_same, get_or_default, get_or_past, length-replicate, length-set, set-get_or, set-set}
pub use Rattle.std.proofs.lemmas.List.{take-replicate, take_all, take_at}
pub use Rattle.std.proofs.lemmas.List.Elements.{All-cons, All-contains, All-filter, All-from_recursion, All-head, All-map, All-nil}
pub use Rattle.std.proofs.lemmas.List.Elements.{All-replicate, All-set, All-tail, All-weaker, recursion_from_All}
pub use Rattle.std.proofs.lemmas.List.Folds.{sum_by-replicate}
pub use Rattle.std.proofs.lemmas.List.Kept.{AllPairs-from_increasing}
pub use Rattle.std.proofs.lemmas.List.Sums.{count_by-le-length, length-filter, sum_by-cons, sum_by-set}
pub use Rattle.std.proofs.lemmas.Map.Steps.{length-le_from_distinct_below}
pub use Rattle.std.proofs.lemmas.Map.Views.{Contains-from_any}
pub use Rattle.std.proofs.lemmas.Nat.{rows}
pub use Rattle.std.specs.Bool.{OnFalse, OnTrue}
pub use Rattle.std.specs.List.{AllByRecursion, Contains, count_by, filter}
unfoldable pub use Rattle.std.specs.List.{IsDistinct}
pub use Rattle.std.specs.List.Sorted.{IsStrictlyIncreasing}
pub use Rattle.std.specs.Prelude.{All, Any, Bool, IsSome, IsTrue, List, MatchBool, None, Option, Some, [], cond, drop, eqb, false, get_or}
pub use Rattle.std.specs.Prelude.{leb, length, map, nat_eq, nat_le, not, replicate, set, slice_index, suc, take, true, zero, ℕ, ◌%◌, ◌*◌}
pub use Rattle.std.specs.Prelude.{◌++◌, ◌+◌, ◌-◌, ◌<◌, ◌^◌, ◌||◌, ◌↔◌, ◌∷◌, ◌≡◌, ◌≢◌, ◌≤◌, ◌⊎◌}
pub use Rattle.pg_arena.specs.Games.{GameVertex, IsGame, IsGreatest, IsPath, opponent, owner, priority, successors}
pub use Rattle.pg_arena.specs.declared.player.Player.{Player}
pub use Rattle.pg_arena.specs.declared.player.Player.TheVariants.{Even, Odd}
pub use Rattle.pg_measure.proofs.Compare.{below_tells}
pub use Rattle.pg_measure.proofs.Order.{at_most_all, at_most_front, at_most_same, at_most_same_value, at_most_trans, below_at_most}
pub use Rattle.pg_measure.proofs.Order.{below_is, below_not, below_or, below_or_at_most, below_then, covers_less, front_at_most}
pub use Rattle.pg_measure.proofs.Order.{misses_below, misses_not, more_covers, never_both, then_below}
pub use Rattle.pg_measure.proofs.Rows.{at_most_itself, same_length, zero_least, zeros_fit}
pub use Rattle.pg_measure.proofs.Steps.{least_cover}
pub use Rattle.pg_measure.specs.Measures.{AtMost, BoundList, Covers, CoversFront, Fits, IsBelow, ListAtMost, ListBelow, ListFits}
pub use Rattle.pg_measure.specs.Measures.{MeasureValue, OwnedMeasure, is_odd, width_from, zeros}
pub use Rattle.pg_measure.specs.Mirrors.Rows.{FrontAtMost, IsLeastCover, MissesFront, measure_of}
pub use Rattle.pg_measure.specs.Views.{measure_in}
pub use Rattle.pg_map.specs.Laws.{GameLinesAreDual, HasLeastProgressMeasure, MeasureJoinLaws}
pub use Rattle.pg_map.specs.Lemmas.Orders.{map_transitive, maps_same}
pub use Rattle.pg_map.specs.Lines.{AreDual, AreWithin, Line, dual_line, game_line, line_at, line_of, only}
pub use Rattle.pg_map.specs.Maps.{CoversSuccessors, IsClosed, IsFirstServing, IsJoin, IsLeastClosedFrom, IsLeastProgressMeasure}
pub use Rattle.pg_map.specs.Maps.{IsLeastServing, IsLifted, IsMap, IsMeasureJoin, IsNeverAbove, IsServed, IsServedBy, MapAtMost, MapValue}
pub use Rattle.pg_map.specs.Maps.{SomeOrAll, StaysUnder, measure_at, update_map, zero_map}
pub use Rattle.pg_map.specs.Mirrors.Tables.{AreRowsOf, IsBest, IsBetter, RowsValue, table}
pub use Rattle.pg_map.specs.Weights.{list_count, list_weight, map_weight, weight}
