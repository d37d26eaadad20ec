-- The names that the proofs of this crate cite from elsewhere, passed on from one place. Declares nothing.
pub use Rattle.std.proofs.Common.{Bor, add-one, ap, append_assoc, arith, inl, inr, length-append, refl, rules, subst, sym, tests, ◌∙◌}
pub use Rattle.std.proofs.Math.Dec.{eqb-suc-zero}
pub use Rattle.std.proofs.Math.ListN.{get_or-map, replicate, set}
pub use Rattle.std.proofs.Math.Nat.{le-div_iff_mul-le}
pub use Rattle.std.proofs.Math.Seq.{drop-append-add, take-append_seam}
pub use Rattle.std.proofs.lemmas.Bool.{and_parts, cases_Bool, eq-eqb, eqb-false, eqb-true, le-leb, le-ltb, leb-true, lt-ltb, ltb-true}
pub use Rattle.std.proofs.lemmas.Bool.{ne_eqb}
pub use Rattle.std.proofs.lemmas.Bool.Decides.{eqb_tells, nat_tests}
pub use Rattle.std.proofs.lemmas.Iterator.{YieldsList-from_slice}
pub use Rattle.std.proofs.lemmas.Iterator.Search.{all_from_yields_List}
pub use Rattle.std.proofs.lemmas.List.{append-nil, at_drop_more, get_or-replicate, get_or-set_other, get_or-set_same, length-map}
pub use Rattle.std.proofs.lemmas.List.{length-replicate, length-set, map-append, take-append-drop}
pub use Rattle.std.proofs.lemmas.List.Elements.{All-cons, All-contains, All-from_recursion, All-head, All-map, All-tail}
pub use Rattle.std.proofs.lemmas.List.Elements.{Contains-append_left, Contains-append_right, Contains-push, filter-append}
pub use Rattle.std.proofs.lemmas.List.FromFn.{map-range_with_len_more}
pub use Rattle.std.proofs.lemmas.List.Kept.{AllPairs-from_increasing}
pub use Rattle.std.proofs.lemmas.List.Sorted.{searched}
pub use Rattle.std.proofs.lemmas.List.Sums.{AllPass-from_list_all, fold-append, list_all-from_AllPass}
pub use Rattle.std.proofs.lemmas.Map.Keys.{non_decreasing_from_sorted, sorted_from_strictly_increasing}
pub use Rattle.std.proofs.lemmas.Nat.{pow_pos}
pub use Rattle.std.proofs.lemmas.Result.{err_from_is_err_and}
pub use Rattle.std.proofs.lemmas.Slice.Eq.{bytes_eq-Decides}
pub use Rattle.std.specs.List.{All, AllByRecursion, flat_map, fold, insert, list_all, list_any, prefix_len, take_while}
pub use Rattle.std.specs.List.Sorted.{IsBinarySearchResult, IsStrictlyIncreasing}
pub use Rattle.std.specs.Ordering.{nat_cmp}
pub use Rattle.std.specs.Prelude.{Bool, Contains, Err, IfNone, IfSome, List, MatchBool, MatchResult, None, Ok, Option, Result, Some, []}
pub use Rattle.std.specs.Prelude.{codes, cond, drop, eqb, false, get_or, if◌then◌else◌, leb, length, ltb, map, max, min, nat_le, nat_lt}
pub use Rattle.std.specs.Prelude.{option_map, suc, take, true, unwrap_or, vec_len, zero, ℕ, ◌&&◌, ◌*◌, ◌++◌, ◌+◌, ◌-◌, ◌/◌, ◌<◌, ◌==◌, ◌^◌}
pub use Rattle.std.specs.Prelude.{◌||◌, ◌∷◌, ◌≡◌, ◌≢◌, ◌≤◌, ◌⊎◌}
pub use Rattle.std.specs.Str.{bytes_eq}
pub use Rattle.std.specs.declared.alloc.Global.{Global}
pub use Rattle.std.specs.declared.vec.Vec.{Vec}
pub use Rattle.pg_hoa_automaton.proofs.Nested.{condition_nested, nested, nested_in, no_constant}
pub use Rattle.pg_hoa_automaton.proofs.ShapeLaws.{one_shape}
pub use Rattle.pg_hoa_automaton.specs.Automata.{Automaton, IsNameByte, IsPropositionName}
pub use Rattle.pg_hoa_automaton.specs.Formulas.{Formula, both, bracket, either, fin, inf, no, not, proposition, yes}
pub use Rattle.pg_hoa_automaton.specs.Mirrors.Nests.{is_wanted, set_at, wanted_at}
pub use Rattle.pg_hoa_automaton.specs.Mirrors.Steps.{◌>>=◌}
pub use Rattle.pg_hoa_automaton.specs.Shapes.{FitsShape, HasShape, IsLike, bare, condition_of, decides, leaf, place}
pub use Rattle.pg_hoa_automaton.specs.declared.shape.Shape.{Shape}
pub use Rattle.pg_hoa_automaton.specs.declared.shape.Shape.TheVariants.{Always, MaxEven, MaxOdd, MinEven, MinOdd, Never}
pub use Rattle.pg_list_lemmas.proofs.Contained.{Rises, pairs_tail, rising_same}
pub use Rattle.pg_list_lemmas.proofs.Rising.{contains_from, has, has_contained, has_rising, rising_put, rising_rises}
pub use Rattle.pg_list_lemmas.proofs.Runs.{rest_again, run_again, run_each, run_first, run_is, run_parts, run_some, run_stops, value_from}
pub use Rattle.pg_list_lemmas.proofs.Runs.{value_grows}
pub use Rattle.pg_list_lemmas.proofs.Steps.{chosen, none, none_is_some, some, some_is}
pub use Rattle.pg_list_lemmas.specs.Bytes.{Each, Stops, is_digit, value_of}
pub use Rattle.pg_list_lemmas.specs.Rising.{put, rising}
pub use Rattle.pg_hoa_syntax.specs.FormulaTexts.{IsGrouped, IsOf, IsWritten, formula_lexemes, nesting, rank}
pub use Rattle.pg_hoa_syntax.specs.Lexemes.{Begins, Blank, Character, IsBlank, IsCharacter, IsName, IsSpelt, Lexeme, Spells, abort}
pub use Rattle.pg_hoa_syntax.specs.Lexemes.{after_comments, alias, ampersand, bang, bar, blank_bytes, body, character_bytes, comment, end}
pub use Rattle.pg_hoa_syntax.specs.Lexemes.{escaped, header, identifier, is_colon, is_inner, is_letter, is_space, left_brace, left_bracket}
pub use Rattle.pg_hoa_syntax.specs.Lexemes.{left_paren, number, plain, right_brace, right_bracket, right_paren, space, stray, string}
pub use Rattle.pg_hoa_syntax.specs.Mirrors.BodyScan.{behind_set, bracket_first, is_seen, name_first, sets_before, single}
unfoldable pub use Rattle.pg_hoa_syntax.specs.Mirrors.BodyScan.{begins_edge, begins_line, behind_label, behind_name, body_at, due, edge_at}
unfoldable pub use Rattle.pg_hoa_syntax.specs.Mirrors.BodyScan.{edges_at, edges_within, kept_edges_at, line_at, lines_within, new_state}
unfoldable pub use Rattle.pg_hoa_syntax.specs.Mirrors.BodyScan.{rising_sets_at, set_in, sets_at, sets_if, state_of, target_at}
pub use Rattle.pg_hoa_syntax.specs.Mirrors.FormulaRun.{KeptReading, both_ops, either_ops, goes_on, limit_op, mode_goes_on, mode_turn, not_ops}
pub use Rattle.pg_hoa_syntax.specs.Mirrors.FormulaRun.{ops_in, postfix, split_last, view, with_op}
unfoldable pub use Rattle.pg_hoa_syntax.specs.Mirrors.FormulaRun.{closed_at, closing_turn, completed_at, goes_on_at, limit_at, naming_turn}
unfoldable pub use Rattle.pg_hoa_syntax.specs.Mirrors.FormulaRun.{negated_at, opened_at, opening_turn, operand_at, operand_turn, operator_turn}
unfoldable pub use Rattle.pg_hoa_syntax.specs.Mirrors.FormulaRun.{ops_at, ops_from, over_at, product_at, sum_at, taken_at, turn_at, word_at}
pub use Rattle.pg_hoa_syntax.specs.Mirrors.FormulaScan.{Bracket, State, closing, closing_step, completes, deeper, finish, fresh, limited}
pub use Rattle.pg_hoa_syntax.specs.Mirrors.FormulaScan.{multiplied, naming, naming_step, negated, opening, opening_step, operand, operand_step}
pub use Rattle.pg_hoa_syntax.specs.Mirrors.FormulaScan.{operator, operator_step, step, stops, summed, word_step}
unfoldable pub use Rattle.pg_hoa_syntax.specs.Mirrors.FormulaScan.{formula_at, formula_from}
pub use Rattle.pg_hoa_syntax.specs.Mirrors.HeaderScan.{begins_low, empty_head, is_name, is_name_byte, is_value, note, noted, noted_behind}
pub use Rattle.pg_hoa_syntax.specs.Mirrors.HeaderScan.{numeral_of, once}
unfoldable pub use Rattle.pg_hoa_syntax.specs.Mirrors.HeaderScan.{acceptance_at, alone_at, controls_at, header_at, headers_at, headers_from}
unfoldable pub use Rattle.pg_hoa_syntax.specs.Mirrors.HeaderScan.{headers_within, name_of, names_at, names_from, noted_at, numbers_from}
unfoldable pub use Rattle.pg_hoa_syntax.specs.Mirrors.HeaderScan.{numeral_at, opening_at, other_at, quoted_at, skipped_from, start_at}
unfoldable pub use Rattle.pg_hoa_syntax.specs.Mirrors.HeaderScan.{states_at, version_at}
pub use Rattle.pg_hoa_syntax.specs.Mirrors.Kept.{KeptEdge, KeptHead, KeptLine, count_named, edge_in, greatest_of, head_in, kept_edges}
pub use Rattle.pg_hoa_syntax.specs.Mirrors.Kept.{kept_of_edge, kept_of_line, line_in, may_hold, option_with}
pub use Rattle.pg_hoa_syntax.specs.Mirrors.Preambles.{HasCondition, HasNoPreamble, IsPreambleOf, Preamble, StartsBelow, listed, marked}
pub use Rattle.pg_hoa_syntax.specs.Mirrors.Preambles.{nothing_at, preamble_in}
pub use Rattle.pg_hoa_syntax.specs.Mirrors.Readings.{AreFew, Declares, NeverReads, Reads, SaysNothing, bare_automaton, bound, letter_count}
pub use Rattle.pg_hoa_syntax.specs.Mirrors.Readings.{state_count, states_in}
pub use Rattle.pg_hoa_syntax.specs.Mirrors.Scan.{IsToken, behind_blank, behind_gap, behind_token, characters, first, lexeme, name_before}
unfoldable pub use Rattle.pg_hoa_syntax.specs.Mirrors.Scan.{alias_at, character_at, gap_from, gap_step, gap_within, lex, lex_within, mark_at}
unfoldable pub use Rattle.pg_hoa_syntax.specs.Mirrors.Scan.{name_at, number_at, sign_at, solid_at, string_at, string_len}
pub use Rattle.pg_hoa_syntax.specs.Mirrors.ShapeRun.{constant_at, is_join, is_leaf, last_op, leaf_last, nested_at, only_leaf, passes}
unfoldable pub use Rattle.pg_hoa_syntax.specs.Mirrors.ShapeRun.{fits_at, inner_at, nests_at, without_leaf}
pub use Rattle.pg_hoa_syntax.specs.Mirrors.Steps.{Fails}
pub use Rattle.pg_hoa_syntax.specs.Syntax.{AtMostOne, EachBelow, Edge, EdgeFits, Header, IsDistinct, IsHeader, IsText, LineFits, Says, SaysNone}
pub use Rattle.pg_hoa_syntax.specs.Syntax.{StateLine, Value, Written, acceptances, character_code, controls, count_of, edge_lexemes}
pub use Rattle.pg_hoa_syntax.specs.Syntax.{header_lexemes, line_numbers, name_lexemes, names, numeral, quoted, set_list, sets_lexemes, starts}
pub use Rattle.pg_hoa_syntax.specs.Syntax.{state_counts, state_lexemes, text_lexemes, value_lexeme, word}
pub use Rattle.pg_hoa_syntax.specs.declared.body.Ranges.{Ranges}
pub use Rattle.pg_hoa_syntax.specs.declared.body.ReadState.{ReadState}
pub use Rattle.pg_hoa_syntax.specs.declared.fault.PartRefusal.{PartRefusal}
pub use Rattle.pg_hoa_syntax.specs.declared.fault.PartRefusal.TheVariants.{Memory, Wrong}
pub use Rattle.pg_hoa_syntax.specs.declared.formula.FormulaKind.{FormulaKind}
pub use Rattle.pg_hoa_syntax.specs.declared.formula.FormulaKind.TheVariants.{Condition, Label}
pub use Rattle.pg_hoa_syntax.specs.declared.formula.Mode.{Mode}
pub use Rattle.pg_hoa_syntax.specs.declared.formula.Mode.TheVariants.{Naming, Opening, Operand, Operator}
pub use Rattle.pg_hoa_syntax.specs.declared.formula.Op.{Op}
pub use Rattle.pg_hoa_syntax.specs.declared.formula.Op.TheVariants.{Both, Either, Fin, Inf, No, Not, Proposition, Yes}
pub use Rattle.pg_hoa_syntax.specs.declared.header.Head.{Head}
pub use Rattle.pg_hoa_syntax.specs.declared.token.HoaToken.{HoaToken}
