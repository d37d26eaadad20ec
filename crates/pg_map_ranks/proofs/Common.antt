-- The names that the proofs of this crate cite from elsewhere, passed on from one place. Declares nothing.
pub use Rattle.std.proofs.Common.{ap, arith, inl, inr, length-append, refl, subst, sym, ◌∙◌}
pub use Rattle.std.proofs.lemmas.Bool.{cases_eq, cases_lt}
pub use Rattle.std.proofs.lemmas.Bool.Decides.{nat_tests}
pub use Rattle.std.proofs.lemmas.List.{get_or-append_right, get_or-map, get_or-set_other, get_or-set_same, get_or_append_left}
pub use Rattle.std.proofs.lemmas.List.{get_or_default, length-map}
pub use Rattle.std.proofs.lemmas.List.Elements.{All-contains, All-head, All-map, All-tail}
pub use Rattle.std.specs.List.{Contains}
pub use Rattle.std.specs.List.Sorted.{IsStrictlyIncreasing}
pub use Rattle.std.specs.Option.{IsSome}
pub use Rattle.std.specs.Prelude.{All, AllPairs, Any, IfNone, IfSome, IsTrue, List, None, Option, Some, [], false, get_or, length, nat_le}
pub use Rattle.std.specs.Prelude.{replicate, set, slice_index_or, suc, true, zero, ℕ, ◌%◌, ◌++◌, ◌+◌, ◌-◌, ◌<◌, ◌↔◌, ◌∷◌, ◌≡◌, ◌≤◌, ◌⊎◌}
pub use Rattle.pg_arena.specs.declared.player.Player.{Player}
pub use Rattle.pg_arena.specs.declared.player.Player.TheVariants.{Even, Odd}
pub use Rattle.pg_map.proofs.Joins.{at_most_top}
pub use Rattle.pg_map.proofs.Rounds.{even_or_odd}
pub use Rattle.pg_map.proofs.Serving.{first_serving_at}
pub use Rattle.pg_map.specs.Lines.{AreWithin, Line, line_at}
pub use Rattle.pg_map.specs.Maps.{IsFirstServing, IsMap, IsServed, IsServedBy, MapValue, SomeOrAll, measure_at}
pub use Rattle.pg_measure.proofs.Order.{at_most_trans, below_at_most, below_not, below_then, never_both, then_below}
pub use Rattle.pg_measure.proofs.Rows.{at_most_itself}
pub use Rattle.pg_measure.proofs.Widths.{components_are_first, width_is}
pub use Rattle.pg_measure.specs.Laws.{components_by_priority}
pub use Rattle.pg_measure.specs.Measures.{AreBounds, AtMost, BoundList, Covers, Fits, IsBelow, ListAtMost, ListBelow, ListFits}
pub use Rattle.pg_measure.specs.Measures.{MeasureValue, is_odd, width_from, zeros}
pub use Rattle.pg_map_ranks.specs.Ladders.{IsJustified, IsJustifiedFrom, IsLadder, LadderValue, after_step, component, rank_map, rank_measure}
pub use Rattle.pg_map_ranks.specs.Ladders.{row, step_at}
pub use Rattle.pg_map_ranks.specs.Laws.{RanksCompare}
pub use Rattle.pg_map_ranks.specs.Mirrors.Blocks.{CoversUnder, IsBlock, IsBlockFrom, IsBlockTo, IsClearRow, IsFirstUnder, IsHigh, IsLow, IsUnder}
pub use Rattle.pg_map_ranks.specs.Mirrors.Blocks.{rank_at}
pub use Rattle.pg_map_ranks.specs.Mirrors.Rungs.{AreCounts, IsBegin, IsBounded, IsCount, IsEnd, IsOrigin}
