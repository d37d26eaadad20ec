-- The names that the proofs of this crate cite from elsewhere, passed on from one place. Declares nothing.
pub use Rattle.std.proofs.Common.{Bor, add-one, ap, ap₂, append_assoc, arith, inl, inr, length-append, refl, rules, subst, sym, ◌∙◌}
pub use Rattle.std.proofs.lemmas.Bool.{and_parts, cases_Bool, cases_lt, eq-eqb, eqb-false, eqb-true, le-leb, le-ltb, leb-false, leb-true, lt-leb, lt-ltb, ltb-false, ltb-true}
pub use Rattle.std.proofs.lemmas.Bool.{ne_eqb}
pub use Rattle.std.proofs.lemmas.Bool.Decides.{nat_tests}
pub use Rattle.std.proofs.Math.Dec.{eqb-suc-zero}
pub use Rattle.std.proofs.lemmas.List.{append-nil, at_drop_more, drop-drop, drop_all, take_all}
pub use Rattle.std.proofs.lemmas.List.{drop_at, take_at, drop_more, length-map, map-append, map_push, take-append-drop}
pub use Rattle.std.proofs.lemmas.Result.{err_from_is_err_and}
pub use Rattle.std.specs.List.{AllByRecursion, fold, prefix_len, take_while}
pub use Rattle.std.specs.Prelude.{Bool, Err, IfOk, IfErr, List, None, Ok, Option, Result, Some, [], codes, cond, drop, eqb, false, get_or}
pub use Rattle.std.specs.Prelude.{if◌then◌else◌, leb, length, ltb, map, nat_le, nat_lt, suc, take, true, zero, ℕ, ◌&&◌, ◌*◌, ◌++◌, ◌+◌, ◌-◌}
pub use Rattle.std.specs.Prelude.{◌<◌, ◌==◌, ◌^◌, ◌||◌, ◌∷◌, ◌≡◌, ◌≢◌, ◌≤◌, ◌⊎◌}
pub use Rattle.std.specs.Str.{bytes_eq}
pub use Rattle.pg_hoa_automaton.specs.Mirrors.Steps.{◌>>=◌}
pub use Rattle.pg_list_lemmas.proofs.Runs.{one_more, rest_again, run_again, run_each, run_first, run_is, run_parts, run_some, run_stops, value_from}
pub use Rattle.pg_list_lemmas.proofs.Runs.{value_grows}
pub use Rattle.pg_list_lemmas.proofs.Steps.{chosen, none, none_is_some, some, some_is}
pub use Rattle.pg_list_lemmas.specs.Bytes.{Each, Stops, is_digit, value_of}
pub use Rattle.pg_aiger_reader.specs.Mirrors.Scan.{behind_field, ended, newline_at}
unfoldable pub use Rattle.pg_aiger_reader.specs.Mirrors.Scan.{field_at, line_at}
pub use Rattle.pg_aiger_reader.specs.Mirrors.Steps.{Fails, FailsAs, Gives, GivesAs, first_named}
pub use Rattle.pg_aiger_reader.specs.declared.fault.ReaderFault.{ReaderFault}
unfoldable pub use Rattle.pg_aiger_reader.specs.Mirrors.Sections.{many_at, sections_at}
unfoldable pub use Rattle.pg_aiger_reader.specs.Mirrors.Items.{literal_at, input_at, latch_at, ascii_gate_at, groups_at, binary_gate_at, gate_at}
unfoldable pub use Rattle.pg_aiger_reader.specs.Mirrors.Symbols.{is_blank, is_end, without_return, name_at, symbol_at, good_at, symbols_at}
unfoldable pub use Rattle.pg_aiger_reader.specs.Mirrors.Headers.{header_of, header_at, header_fault, fault_at}
unfoldable pub use Rattle.pg_aiger_reader.specs.Mirrors.Reading.{behind_line, latches_at, reset_fault, text_at, text_fault}
pub use Rattle.std.proofs.lemmas.List.Sums.{prefix_len_stops}
pub use Rattle.std.proofs.lemmas.Slice.Eq.{bytes_eq-Decides, strip_suffix_is}
pub use Rattle.std.proofs.lemmas.List.Elements.{Contains-append_left, Contains-append_right, Contains-get_or, Contains-push, Contains-push_cases}
pub use Rattle.std.specs.Prelude.{Contains}
pub use Rattle.std.proofs.lemmas.List.{get_or-map, get_or_append_left, get_or_default, get_or_push, take_more}
pub use Rattle.std.proofs.lemmas.List.Elements.{Decides-contains, contains_decides}
pub use Rattle.std.proofs.lemmas.Bool.Decides.{Decides-eqb}
pub use Rattle.std.proofs.lemmas.Grind.{same_number_lists}
