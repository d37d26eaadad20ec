-- The names that the proofs of this crate cite from elsewhere, passed on from one place. Declares nothing.
pub use Rattle.std.proofs.Common.{Bor, ap, append-nil, arith, inl, inr, refl, rules, subst, sym, ◌∙◌}
pub use Rattle.std.proofs.Math.ListN.{get_or-append}
pub use Rattle.std.proofs.Math.Seq.{get_or-append_seam}
pub use Rattle.std.proofs.lemmas.Bool.{cases_lt, eqb-false, eqb-true, leb-false, ltb-false, ltb-true, ne_eqb}
pub use Rattle.std.proofs.lemmas.Bool.Decides.{nat_tests}
pub use Rattle.std.proofs.lemmas.List.{drop-append-le, drop-drop, drop-map, drop-set-lt, drop_all, drop_at, drop_more, get_or-append_right}
pub use Rattle.std.proofs.lemmas.List.{get_or-drop, get_or-map, get_or-replicate, get_or_default, get_or_past, length-append, length-drop}
pub use Rattle.std.proofs.lemmas.List.{length-map, length-replicate, length-take, length-take-le, map-append, take-append-le, take-map}
pub use Rattle.std.proofs.lemmas.List.{take_all, take_at, take_more, take_more_set}
pub use Rattle.std.proofs.lemmas.List.Concat.{flat_map-append, length-flat_map}
pub use Rattle.std.proofs.lemmas.List.Elements.{All-cons, All-contains, All-drop, All-from_get_or, All-get_or, All-head, All-map, All-nil}
pub use Rattle.std.proofs.lemmas.List.Elements.{All-push, All-tail, All-take, All-weaker, Contains-get_or}
pub use Rattle.std.proofs.lemmas.List.Filters.{dedup_is}
pub use Rattle.std.proofs.lemmas.List.Kept.{AllPairs-from_increasing}
pub use Rattle.std.proofs.lemmas.List.Sorted.{All-permutation, Contains-permutation, IsNonDecreasingBy-from_sort_by_key, IsPermutation-map}
pub use Rattle.std.proofs.lemmas.List.Sorted.{IsPermutation-sym, answers_always, length_permutation, list_any-IsPermutation, searched}
pub use Rattle.std.proofs.lemmas.List.Sorted.{sum_by-IsPermutation}
pub use Rattle.std.proofs.lemmas.List.Sums.{sum_by-cons}
pub use Rattle.std.proofs.lemmas.Map.Keys.{IsDistinct-IsPermutation, IsDistinct-push, IsStrictlyIncreasing-from_distinct, below_from_sorted}
pub use Rattle.std.proofs.lemmas.Map.Keys.{non_decreasing_from_sorted, sorted_from_strictly_increasing}
pub use Rattle.std.proofs.lemmas.Option.{get_or_from_slice_get, some_pair_parts}
pub use Rattle.std.proofs.lemmas.Result.{IfOk-weaker}
pub use Rattle.std.specs.Cmp.{nat_eq_equiv}
pub use Rattle.std.specs.List.{AllPairs, IsAllAdjacentAnswer, flat_map, list_any}
unfoldable pub use Rattle.std.specs.List.{IsDistinct}
pub use Rattle.std.specs.List.Sorted.{IsBinarySearchResult, IsNonDecreasing, IsNonDecreasingBy, IsPermutation, IsStrictlyIncreasing}
pub use Rattle.std.specs.Option.{option_or}
pub use Rattle.std.specs.Ordering.{nat_cmp}
pub use Rattle.std.specs.Prelude.{All, Bool, Contains, Err, IfErr, IfOk, IfSome, IsSome, IsTrue, List, MatchResult, None, Ok, OnErr, Option}
pub use Rattle.std.specs.Prelude.{Result, Some, [], cond, drop, eqb, false, get_or, is_ok, is_some, length, ltb, map, not, option_copied}
pub use Rattle.std.specs.Prelude.{option_map, option_to_list, replicate, set, slice_get, slice_index, slice_range, suc, take, true}
pub use Rattle.std.specs.Prelude.{vec_capacity, vec_len, zero, ℕ, ◌++◌, ◌+◌, ◌-◌, ◌<◌, ◌^◌, ◌||◌, ◌∷◌, ◌≡◌, ◌≤◌, ◌⊎◌}
pub use Rattle.std.specs.declared.alloc.Global.{Global}
pub use Rattle.std.specs.declared.vec.Vec.{Vec}
pub use Rattle.pg_list_lemmas.proofs.Contained.{Rises, contains_cases, contains_flat, contains_here, contains_later, contains_map}
pub use Rattle.pg_list_lemmas.proofs.Contained.{contains_mapped, pairs_by, pairs_head, pairs_tail, same_order}
pub use Rattle.pg_list_lemmas.proofs.Rising.{dedup_rising, has, has_contained, rises_already, rising_rises}
pub use Rattle.pg_list_lemmas.specs.Rising.{rising}
pub use Rattle.pg_arena.specs.Games.{GameVertex, HasPrioritiesUpTo, IsEdge, IsGame, IsWithinLimits, dual, dual_vertex, edge_count}
pub use Rattle.pg_arena.specs.Games.{identifier, identifiers, nowhere, successors, vertex_at}
pub use Rattle.pg_arena.specs.Lemmas.Duals.{game_dual, limits_dual}
pub use Rattle.pg_arena.specs.Lines.{Answers, FinishFails, IsGameOf, IsLeastUnknown, IsUnknown, Line, add_fault, is_named, line_of}
pub use Rattle.pg_arena.specs.Lines.{line_with, lines_of}
pub use Rattle.pg_arena.specs.Mirrors.Entries.{AreKept, AreKeptIn, AreNamed, AreWithin, HaveRanges, IsBuilt, IsBuiltIn, IsOrderly, Row}
pub use Rattle.pg_arena.specs.Mirrors.Entries.{dual_entry, dual_row, entry_at, keys_from, name_in, place_at, row_of, rows_in, vertex_in}
pub use Rattle.pg_arena.specs.Mirrors.Entries.{vertices_in}
pub use Rattle.pg_arena.specs.Mirrors.Links.{AreLinked, HasUnknown, first_unknown_in, is_among, unknown_in}
pub use Rattle.pg_arena.specs.declared.entry.Entry.{Entry}
pub use Rattle.pg_arena.specs.declared.fault.ArenaFault.{ArenaFault}
pub use Rattle.pg_arena.specs.declared.fault.ArenaFault.TheVariants.{NoVertex, OutOfMemory, UnknownSuccessor}
pub use Rattle.pg_arena.specs.declared.game.Shared.{Shared}
pub use Rattle.pg_arena.specs.declared.player.Player.{Player}
pub use Rattle.pg_arena.specs.declared.sorted_lines.Key.{Key}
