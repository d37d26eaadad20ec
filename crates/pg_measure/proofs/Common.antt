-- The names that the proofs of this crate cite from elsewhere, passed on from one place. Declares nothing.
pub use Rattle.std.proofs.Common.{add-one, ap, append-nil, arith, inl, inr, length-append, length-drop, length-take, of_calls, refl, rules}
pub use Rattle.std.proofs.Common.{subst, sym, true≢false, ◌∙◌}
pub use Rattle.std.proofs.Math.Seq.{get_or-append_seam}
pub use Rattle.std.proofs.lemmas.Bool.{cases_eq, cases_lt}
pub use Rattle.std.proofs.lemmas.Bool.Decides.{nat_tests}
pub use Rattle.std.proofs.lemmas.Cmp.{ranked}
pub use Rattle.std.proofs.lemmas.Grind.{common_steps}
pub use Rattle.std.proofs.lemmas.List.{get_or-set_other, get_or-set_same, get_or_append_left, get_or_default, length-set, length_push}
pub use Rattle.std.proofs.lemmas.List.FromFn.{get_or-map-range_with_len, length-map-range_with_len}
pub use Rattle.std.proofs.lemmas.List.Quantifiers.{all_pairs_push}
pub use Rattle.std.proofs.lemmas.List.Sorted.{IsPartitionPoint-from_clause}
pub use Rattle.std.proofs.lemmas.List.Sums.{count_by-le-length, count_by_more_no, count_by_more_yes, sum_by-cons}
pub use Rattle.std.specs.Cmp.Lexicographic.{slice_cmp}
pub use Rattle.std.specs.List.{range_with_len}
pub use Rattle.std.specs.List.Sorted.{IsPartitionedBy}
pub use Rattle.std.specs.Ordering.{MatchOrdering, is_eq, is_le, is_lt, nat_cmp, ordering_then}
pub use Rattle.std.specs.Prelude.{All, AllPairs, Bool, Contains, List, MatchBool, None, Some, [], cond, drop, false, get_or, length, map}
pub use Rattle.std.specs.Prelude.{nat_le, nat_lt, replicate, set, slice_index, suc, take, true, zero, ℕ, ◌%◌, ◌++◌, ◌+◌, ◌-◌, ◌<◌, ◌==◌}
pub use Rattle.std.specs.Prelude.{◌∷◌, ◌≡◌, ◌≢◌, ◌≤◌, ◌⊎◌}
pub use Rattle.std.specs.declared.cmp.Ordering.{Ordering}
pub use Rattle.std.specs.declared.cmp.Ordering.TheVariants.{Equal, Greater, Less}
pub use Rattle.pg_arena.specs.Games.{GameVertex, HasPrioritiesUpTo, dual, dual_vertex, nowhere, priority}
pub use Rattle.pg_arena.specs.Lemmas.Duals.{length_dual, priority_dual}
pub use Rattle.pg_measure.specs.Games.{IsBoundsOf, vertices_of}
pub use Rattle.pg_measure.specs.Laws.{HasBounds, OneListOfBounds, components_by_priority}
pub use Rattle.pg_measure.specs.Measures.{AreBounds, AtMost, BoundList, CoversFront, Fits, IsBelow, ListAtMost, ListBelow, ListFits}
pub use Rattle.pg_measure.specs.Measures.{MeasureValue, OwnedMeasure, components_from, measure_cmp, measure_from, width_from, zeros}
pub use Rattle.pg_measure.specs.Mirrors.Counts.{IsCount}
pub use Rattle.pg_measure.specs.Mirrors.Rows.{FrontAtMost, IsLeastCover, MissesFront, cleared, measure_of}
pub use Rattle.pg_measure.specs.Mirrors.Widths.{AreWidths}
