-- The names that the proofs of this crate cite from elsewhere, passed on from one place. Declares nothing.
pub use Rattle.std.proofs.Common.{Bor, add-one, ap, append_assoc, arith, inl, inr, refl, rules, subst, sym, take-append-drop, ◌∙◌}
pub use Rattle.std.proofs.Math.Nat.{pow-le-pow_right, pow-succ'}
pub use Rattle.std.proofs.KnownBytes.{Appends-trans}
pub use Rattle.std.proofs.lemmas.Bool.{and_parts, and_right, cases_Bool, cases_eq, cases_lt, eq-eqb, eqb-false, eqb-true, leb-true, lt-leb}
pub use Rattle.std.proofs.lemmas.Bool.{lt-ltb, ltb-true, ne_eqb}
pub use Rattle.std.proofs.lemmas.Bool.Decides.{nat_tests}
pub use Rattle.std.proofs.lemmas.Cmp.{nat_eq_equiv}
pub use Rattle.std.proofs.lemmas.Fmt.{decimal_digit, decimal_nonempty, digits_decimal, digits_value-decimal}
pub use Rattle.std.proofs.lemmas.Grind.{flat_map-append}
pub use Rattle.std.proofs.lemmas.List.{append-nil, drop-drop, drop_at, drop_more, ext_get_or, flat_map_more, get_or-map, get_or-replicate}
pub use Rattle.std.proofs.lemmas.List.{get_or-set_other, get_or-set_same, get_or_default, length-append, length-map, length-replicate}
pub use Rattle.std.proofs.lemmas.List.{length-set, map-append, replicate-append-replicate, take_all, take_at, take_more, take_rest}
pub use Rattle.std.proofs.lemmas.List.Concat.{flat_map-cons}
pub use Rattle.std.proofs.lemmas.List.Elements.{All-from_get_or, All-from_recursion, All-get_or, All-map, Contains-get_or}
pub use Rattle.std.proofs.lemmas.List.Elements.{recursion_from_All}
pub use Rattle.std.proofs.lemmas.List.Filters.{dedup_is}
pub use Rattle.std.proofs.lemmas.List.FromFn.{get_or-map-range_with_len, length-map-range_with_len}
pub use Rattle.std.proofs.lemmas.List.Kept.{AllPairs-from_increasing}
pub use Rattle.std.proofs.lemmas.List.Sorted.{IsPermutation-refl, searched}
pub use Rattle.std.proofs.lemmas.List.Sums.{prefix_len_stops, sum_by-append, sum_by-cons}
pub use Rattle.std.proofs.lemmas.Map.Keys.{IsDistinct-from_apart, IsDistinct-head, IsDistinct-push, IsDistinct-tail}
pub use Rattle.std.proofs.lemmas.Map.Keys.{non_decreasing_from_sorted, sorted_from_strictly_increasing}
pub use Rattle.std.proofs.lemmas.Result.{err_from_is_err_and}
pub use Rattle.std.proofs.lemmas.Slice.Eq.{bytes_eq-Decides}
pub use Rattle.std.proofs.lemmas.Str.Parse.{IsNumeralModel, numerals_by_fold}
pub use Rattle.std.specs.Io.KnownBytes.{Appends}
pub use Rattle.std.specs.List.{AllByRecursion, flat_map, list_any, prefix_len, range_with_len, take-map, take_while}
unfoldable pub use Rattle.std.specs.List.{IsDistinct}
pub use Rattle.std.specs.List.Sorted.{IsBinarySearchResult, IsStrictlyIncreasing}
pub use Rattle.std.specs.Ordering.{nat_cmp}
pub use Rattle.std.specs.Prelude.{All, Bool, Contains, Err, IfErr, IfOk, IfSome, IsOkAnd, List, None, Ok, OnOk, Option, Result, Some, []}
pub use Rattle.std.specs.Prelude.{codes, cond, decimal, drop, eqb, false, get_or, is_some, length, ltb, map, nat_le, option_copied, option_map, replicate}
pub use Rattle.std.specs.Prelude.{slice_set, suc, take, true, zero, ℕ, ◌%◌, ◌&&◌, ◌*◌, ◌++◌, ◌+◌, ◌-◌, ◌<◌, ◌^◌, ◌||◌, ◌∷◌, ◌≡◌, ◌≢◌, ◌≤◌, ◌⊎◌}
pub use Rattle.std.specs.Result.{result_ok}
pub use Rattle.std.specs.Str.{bytes_eq}
pub use Rattle.pg_arena.proofs.Adding.{Passes}
pub use Rattle.pg_arena.proofs.Unique.{no_unknown, one_game}
pub use Rattle.pg_arena.specs.Games.{GameVertex, IsEdge, IsGame, IsWithinLimits, edge_count, identifier, identifiers, nowhere, owner}
pub use Rattle.pg_arena.specs.Games.{successors, vertex_at}
pub use Rattle.pg_arena.specs.Lines.{Accepts, Answers, FinishFails, IsGameOf, Line, add_fault, counted, is_named, line_of, lines_of}
pub use Rattle.pg_arena.specs.declared.fault.ArenaFault.{ArenaFault}
pub use Rattle.pg_arena.specs.declared.player.Player.{Player}
pub use Rattle.pg_arena.specs.declared.player.Player.TheVariants.{Even, Odd}
pub use Rattle.pg_list_lemmas.proofs.Contained.{contains_mapped}
pub use Rattle.pg_list_lemmas.proofs.Rising.{contains_rising, dedup_rising, rises_already, rising_length, rising_put, rising_rises}
pub use Rattle.pg_list_lemmas.proofs.Runs.{none_more, one_more, rest_again, run_again, run_each, run_is, run_parts, run_stops, value_from}
pub use Rattle.pg_list_lemmas.proofs.Runs.{value_grows}
pub use Rattle.pg_list_lemmas.proofs.Steps.{chosen, none, none_is_some, some, some_is}
pub use Rattle.pg_list_lemmas.specs.Bytes.{Each, Stops, is_digit, value_of}
pub use Rattle.pg_list_lemmas.specs.Rising.{put, rising}
pub use Rattle.pg_text.specs.GameLayout.{game_text, line_text, name_text}
pub use Rattle.pg_text.specs.GameText.{HasBadLine, HasNoGame, IsGameText, IsNoText, IsText, Refuses, game_lexemes, line_lexemes}
pub use Rattle.pg_text.specs.GameText.{name_lexemes, player_number}
pub use Rattle.pg_text.specs.Lexemes.{Begins, IsSpelt, Lexeme, Spells, after_space, clause_lexemes, comma, end, is_letter, is_plain}
pub use Rattle.pg_text.specs.Lexemes.{is_space, lexeme, number, quoted, semicolon, token_fault, word}
pub use Rattle.pg_text.specs.Limits.{AreWithinLimits}
pub use Rattle.pg_text.specs.Mirrors.Building.{BuildsLines}
pub use Rattle.pg_text.specs.Mirrors.GameScan.{counted_step, ending_in, item_in, item_seen, line_seen, player_in}
unfoldable pub use Rattle.pg_text.specs.Mirrors.GameScan.{body_at, counted_item_at, counted_line_at, ending_at, item_at, line_at, lines_at}
unfoldable pub use Rattle.pg_text.specs.Mirrors.GameScan.{owner_at, successors_at}
pub use Rattle.pg_text.specs.Mirrors.Parts.{clause_in, end_in, further_in, further_seen, misplaced_in, number_in, semicolon_in, string_in}
pub use Rattle.pg_text.specs.Mirrors.Parts.{word_in}
unfoldable pub use Rattle.pg_text.specs.Mirrors.Parts.{clause_at, end_at, further_at, misplaced, name_at, natural_at, numbers_at}
unfoldable pub use Rattle.pg_text.specs.Mirrors.Parts.{semicolon_at, string_at}
pub use Rattle.pg_text.specs.Mirrors.Refusals.{arena_fault, fault_of, token_fault_of}
pub use Rattle.pg_text.specs.Mirrors.Scan.{or_fault}
unfoldable pub use Rattle.pg_text.specs.Mirrors.Scan.{lexeme_at, number_at, quoted_at, solid_at, token_at, word_at}
pub use Rattle.pg_text.specs.Mirrors.SolutionReading.{BeginsMisfit, BeginsWell, HasRead, IsLost, IsMarked, IsMisfit, IsRefused, IsUnmarked}
pub use Rattle.pg_text.specs.Mirrors.SolutionReading.{LeadsNowhere, Puts, State, is_complete, is_seen, misfit_fault}
pub use Rattle.pg_text.specs.Mirrors.SolutionScan.{answer_in, answer_seen, strategy_in}
unfoldable pub use Rattle.pg_text.specs.Mirrors.SolutionScan.{next_answer_at, strategy_at}
pub use Rattle.pg_text.specs.Mirrors.Steps.{Fails, Read, Reads, Step, after_step, item, stop, ◌>>=◌}
unfoldable pub use Rattle.pg_text.specs.Mirrors.Steps.{items_at, items_within}
pub use Rattle.pg_text.specs.Numbers.{comma_number, comma_number_lexemes, identifiers_text, numbers_lexemes, numbers_text}
pub use Rattle.pg_text.specs.ReadBack.{IsPrintable}
pub use Rattle.pg_text.specs.SolutionLayout.{answer_text, printed_answer, printed_answers, printed_line, printed_lines, solution_text}
pub use Rattle.pg_text.specs.SolutionLayout.{strategy_text}
pub use Rattle.pg_text.specs.SolutionText.{AreLines, AreTaken, BeginsUnfit, BeginsWithLines, Fits, IsFirstMissing, IsNoMove, IsSolutionText}
pub use Rattle.pg_text.specs.SolutionText.{IsUnknown, Says, SpellsNoSolution, StartsLine, answer_lexemes, answers, counting_strategy}
pub use Rattle.pg_text.specs.SolutionText.{has_line, is_same, line_count, owns, solution_lexemes, strategy_lexemes}
pub use Rattle.pg_text.specs.Solutions.{IsSolution, choice, unanswered, winner}
unfoldable pub use Rattle.pg_text.specs.Solutions.{answer_at}
pub use Rattle.pg_text.specs.declared.answer.Answer.{Answer}
pub use Rattle.pg_text.specs.declared.fault.TextFault.{TextFault}
pub use Rattle.pg_text.specs.declared.fault.TextFault.TheVariants.{Arena, OutOfMemory, Syntax}
pub use Rattle.pg_text.specs.declared.line.TextLine.{TextLine}
pub use Rattle.pg_text.specs.declared.reading.Refusal.{Refusal}
pub use Rattle.pg_text.specs.declared.reading.Refusal.TheVariants.{Memory, Token}
pub use Rattle.pg_text.specs.declared.solution_line.SolutionLine.{SolutionLine}
pub use Rattle.pg_text.specs.declared.solution_text.Misfit.{Misfit}
pub use Rattle.pg_text.specs.declared.solution_text.Misfit.TheVariants.{NotOfGame, Repeated}
pub use Rattle.pg_text.specs.declared.tokens.TokenFault.{TokenFault}
pub use Rattle.pg_text.specs.declared.tokens.TokenFault.TheVariants.{NumberTooLarge}
