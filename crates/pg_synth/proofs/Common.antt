-- The names that the proofs of this crate cite from elsewhere, passed on from one place. Declares nothing.
pub use Rattle.std.proofs.Common.{ap, append_assoc, arith, inl, inr, length-append, map-id, refl, subst, sym, take_all, ◌∙◌}
pub use Rattle.std.proofs.Math.Nat.{mul-le-mul_left, mul-le-mul_right, pow-le-pow_right}
pub use Rattle.std.proofs.Math.Seq.{take-length}
pub use Rattle.std.proofs.lemmas.Bool.{cases_Bool, cases_eq, cases_lt, eq-eqb, eqb-true, le-leb, lt-leb, ne_eqb}
pub use Rattle.std.proofs.lemmas.Bool.Decides.{nat_tests}
pub use Rattle.std.proofs.lemmas.List.{ext_get_or, flat_map_more, get_or-map, get_or-take, get_or_append_left, get_or_default, get_or_push}
pub use Rattle.std.proofs.lemmas.List.{get_or_read, length-map, length-take, map_more, take_more}
pub use Rattle.std.proofs.lemmas.List.Elements.{All-cons, All-contains, All-from_get_or, All-nil, Contains-append_cases}
pub use Rattle.std.proofs.lemmas.List.Elements.{Contains-append_left, Contains-append_right, Contains-get_or}
pub use Rattle.std.proofs.lemmas.List.Filters.{dedup_is}
pub use Rattle.std.proofs.lemmas.List.FromFn.{get_or-map-range_with_len, get_or-range_with_len, length-map-range_with_len}
pub use Rattle.std.proofs.lemmas.List.FromFn.{length-range_with_len, map-range_with_len_more}
pub use Rattle.std.proofs.lemmas.List.Kept.{AllPairs-from_increasing}
pub use Rattle.std.proofs.lemmas.List.Sorted.{Contains-permutation, IsPermutation-refl, IsPermutation-sym}
pub use Rattle.std.proofs.lemmas.List.Sums.{sum_by-cons, sum_by_more, sum_by_more_le}
pub use Rattle.std.proofs.lemmas.Map.Keys.{apart_from_distinct, below_from_sorted, non_decreasing_from_sorted}
pub use Rattle.std.proofs.lemmas.Map.Keys.{sorted_from_strictly_increasing}
pub use Rattle.std.proofs.lemmas.Map.Steps.{length-le_from_distinct_below}
pub use Rattle.std.proofs.lemmas.Nat.{div-add-mod', div-mul-add, div_below, mod-mul-add, mod_below, mul-add-lt, pow_pos, same_from_place}
pub use Rattle.std.proofs.lemmas.Nat.{shl_whole}
pub use Rattle.std.proofs.lemmas.Option.{get_or_from_slice_get}
pub use Rattle.std.specs.List.{All, Contains, IsDistinct, flat_map, list_any, range_with_len, slice_index, sum_by}
pub use Rattle.std.specs.List.Sorted.{IsPermutation, IsStrictlyIncreasing}
pub use Rattle.std.specs.Prelude.{Bool, Err, IfErr, IsSome, List, MatchResult, None, Ok, OnOk, Option, Result, Some, [], cond, drop, eqb}
pub use Rattle.std.specs.Prelude.{false, get_or, is_some, leb, length, map, option_map, slice_get, slice_index_or, suc, take, true, zero, ℕ}
pub use Rattle.std.specs.Prelude.{◌%◌, ◌*◌, ◌++◌, ◌+◌, ◌-◌, ◌/◌, ◌<◌, ◌^◌, ◌||◌, ◌↔◌, ◌∷◌, ◌≡◌, ◌≢◌, ◌≤◌, ◌⊎◌}
pub use Rattle.indexmap.proofs.CallerLemmas.{Contains-list_any}
pub use Rattle.indexmap.specs.IndexSet.{insert_key}
pub use Rattle.pg_arena.proofs.Finishing.{game_from_sound, identifier_is}
pub use Rattle.pg_arena.proofs.Members.{has_none}
pub use Rattle.pg_arena.proofs.Unique.{same_vertex}
pub use Rattle.pg_arena.specs.Games.{GameVertex, HasParityOf, HasPrioritiesUpTo, IsEdge, IsGame, IsWithinLimits, edge_count, identifier}
pub use Rattle.pg_arena.specs.Games.{identifiers, nowhere, opponent, owner, priority, successors, vertex_at}
pub use Rattle.pg_arena.specs.Lines.{Answers, IsGameOf, Line, add_fault, counted, is_named, line_of, lines_of}
pub use Rattle.pg_arena.specs.declared.fault.ArenaFault.{ArenaFault}
pub use Rattle.pg_arena.specs.declared.fault.ArenaFault.TheVariants.{DuplicateVertex, NoSuccessor, NoVertex, OutOfMemory, PriorityTooLarge}
pub use Rattle.pg_arena.specs.declared.fault.ArenaFault.TheVariants.{TooManyEdges, TooManyVertices, UnknownSuccessor}
pub use Rattle.pg_arena.specs.declared.player.Player.{Player}
pub use Rattle.pg_arena.specs.declared.player.Player.TheVariants.{Even, Odd}
pub use Rattle.pg_hoa_automaton.proofs.Collections.{not_not_collected}
pub use Rattle.pg_hoa_automaton.proofs.Deciding.{decides_last}
pub use Rattle.pg_hoa_automaton.proofs.ShapeLaws.{shape_says}
pub use Rattle.pg_hoa_automaton.specs.Automata.{Automaton, IsAutomaton, IsStepOf, Step, deciding, first, last, letters, next, step}
pub use Rattle.pg_hoa_automaton.specs.Formulas.{Formula, holds}
pub use Rattle.pg_hoa_automaton.specs.Shapes.{Accepts, FitsShape, IsGreatest, IsLeast, condition_of}
pub use Rattle.pg_hoa_automaton.specs.Words.{HoldsRecurring, IsAccepted, IsWord, SetRecurs, sets_of, state_after, step_at, step_from, target_of}
pub use Rattle.pg_hoa_automaton.specs.declared.shape.Shape.{Shape}
pub use Rattle.pg_hoa_automaton.specs.declared.shape.Shape.TheVariants.{Always, MaxEven, MaxOdd, MinEven, MinOdd, Never}
pub use Rattle.pg_check.proofs.Cycles.{bad_cycle_from, safe_from_sound}
pub use Rattle.pg_check.proofs.Recurring.{one_loser, parity_of}
pub use Rattle.pg_check.proofs.Wins.{wins}
pub use Rattle.pg_check.specs.Plays.{IsGreatestRecurring, IsPlay, Loses, WinsPlay}
pub use Rattle.pg_check.specs.Soundness.{Counts, IsSound}
pub use Rattle.pg_list_lemmas.proofs.Contained.{Rises, contains_cases, contains_flat, contains_flattened, contains_here, contains_later}
pub use Rattle.pg_list_lemmas.proofs.Contained.{contains_map, contains_mapped, contains_none, pairs_head, pairs_tail, rising_same}
pub use Rattle.pg_list_lemmas.proofs.Rising.{contains_from, contains_rising, dedup_rising, has, has_contained, has_rising, rising_contains}
pub use Rattle.pg_list_lemmas.proofs.Rising.{rising_length, rising_rises}
pub use Rattle.pg_list_lemmas.specs.Rising.{rising}
pub use Rattle.pg_measure.proofs.SomeBounds.{priority_bound}
pub use Rattle.pg_text.specs.Solutions.{IsSolution, choice, winner}
pub use Rattle.pg_synth.specs.Answers.{IsMealyOf, IsSynthGame}
pub use Rattle.pg_synth.specs.AutomatonGames.{IsArrival, IsGameOfAutomaton, IsPlaceOf, Moves, StandsFor, arrival_of, input_letters}
pub use Rattle.pg_synth.specs.AutomatonGames.{none_priority, output_letters, place_identifier, place_name, place_owner, place_priority}
pub use Rattle.pg_synth.specs.AutomatonGames.{set_priority, width}
pub use Rattle.pg_synth.specs.Laws.{IsWonBy, Says, TracesOnePlay}
pub use Rattle.pg_synth.specs.Letters.{JoinsBack, input_of, inputs, joined, output_of, outputs}
pub use Rattle.pg_synth.specs.Machines.{Follows, FollowsAt, HasChosenInputs, IsInOrder, IsInputWord, IsMachine, IsMachineOf, Machine}
pub use Rattle.pg_synth.specs.Machines.{machine_output, machine_state, machine_word, no_reply, reply, reply_at}
pub use Rattle.pg_synth.specs.Mirrors.Drafts.{IsDraft, IsLeastIfAny, IsNumbered, IsWonAt, machine_with, reply_of, state_of}
pub use Rattle.pg_synth.specs.Mirrors.GameLines.{added_by, all_identifiers, edges_of, game_identifiers, game_lines, leads, line_at}
pub use Rattle.pg_synth.specs.Mirrors.GameLines.{line_of_place, place_in, place_with, place_within, target}
pub use Rattle.pg_synth.specs.Mirrors.Layouts.{IsLayoutOf}
pub use Rattle.pg_synth.specs.Tracing.{Traces, answer_after, answer_at, arrival_after}
pub use Rattle.pg_synth.specs.declared.layout.Layout.{Layout}
pub use Rattle.pg_synth.specs.declared.mealy.Reply.{Reply}
pub use Rattle.pg_synth.specs.declared.place.Place.{Place}
pub use Rattle.pg_synth.specs.declared.place.Place.TheVariants.{Answer, Arrival, Dead}
