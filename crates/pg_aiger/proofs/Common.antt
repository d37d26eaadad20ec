-- The names that the proofs of this crate cite from elsewhere, passed on from one place. Declares nothing.
pub use mathlib.Core.Bool.{beq}
pub use Rattle.std.proofs.Common.{add-one, ap, append_assoc, arith, inl, inr, length-append, pow-add, refl, rules, subst, sym, zero-add}
pub use Rattle.std.proofs.Common.{◌∙◌}
pub use Rattle.std.proofs.KnownBytes.{Appends-trans}
pub use Rattle.std.proofs.Math.Arith.{digits_div, digits_mod}
pub use Rattle.std.proofs.Math.ListN.{get_or-append}
pub use Rattle.std.proofs.Math.Nat.{div-add-mod', div-div-eq-div-mul, div-lt_iff_lt-mul, mod-eq_of_lt, mul-le-mul_left, pow-suc, pow-succ'}
pub use Rattle.std.proofs.Math.Pow.{pow-lt}
pub use Rattle.std.proofs.Math.Seq.{get_or-append_seam, take-length}
pub use Rattle.std.proofs.lemmas.Bool.{cases_eq, cases_lt, eq-eqb, eqb-true, le-ltb, lt-ltb, ne_eqb}
pub use Rattle.std.proofs.lemmas.Fmt.{decimal_nonempty, digits_decimal, digits_value-decimal}
pub use Rattle.std.proofs.lemmas.List.{append-nil, flat_map_more, get_or-map, get_or_default, length-map, length-take, length-take-le}
pub use Rattle.std.proofs.lemmas.List.{map-append, take_more}
pub use Rattle.std.proofs.lemmas.List.Concat.{flat_map-append}
pub use Rattle.std.proofs.lemmas.List.FromFn.{get_or-map-range_with_len, length-map-range_with_len, map-range_with_len_more}
pub use Rattle.std.proofs.lemmas.List.Sums.{fold-append}
pub use Rattle.std.proofs.lemmas.Nat.{mod-pow-add, mul-add-lt, pow_pos}
pub use Rattle.std.proofs.lemmas.Nat.Bits.{bit_at_cat_low}
pub use Rattle.std.proofs.lemmas.Result.{IfOk-weaker}
pub use Rattle.std.proofs.lemmas.Str.Parse.{IsNumeralModel, numerals_by_fold}
pub use Rattle.std.specs.Io.KnownBytes.{Appends}
pub use Rattle.std.specs.List.{AllByRecursion, flat_map, fold, items_where_true, range_with_len}
pub use Rattle.std.specs.Prelude.{All, Bool, Err, IsErrAnd, List, Ok, Option, Result, [], codes, cond, decimal, eqb, false, get_or, length}
pub use Rattle.std.specs.Prelude.{ltb, map, max, min, not, slice_index, suc, take, true, zero, ℕ, ◌%◌, ◌&&◌, ◌*◌, ◌++◌, ◌+◌, ◌-◌, ◌/◌, ◌<◌}
pub use Rattle.std.specs.Prelude.{◌==◌, ◌^◌, ◌||◌, ◌↔◌, ◌∷◌, ◌≡◌, ◌≢◌, ◌≤◌, ◌⊎◌}
pub use Rattle.pg_hoa_automaton.specs.Automata.{Automaton, IsAutomaton, IsNameByte, IsPropositionName}
pub use Rattle.pg_list_lemmas.specs.Bytes.{Each, is_digit, value_of}
pub use Rattle.pg_synth.specs.Letters.{inputs, joined, outputs}
pub use Rattle.pg_synth.specs.Machines.{IsMachine, Machine, machine_output, machine_state, machine_word, no_reply, reply}
pub use Rattle.pg_synth.specs.declared.mealy.Reply.{Reply}
pub use Rattle.pg_aiger.specs.CircuitLayout.{circuit_text, input_names, output_names, row_line, row_text, spaced, spaced_number}
pub use Rattle.pg_aiger.specs.CircuitLayout.{symbols_from, symbols_of}
pub use Rattle.pg_aiger.specs.CircuitText.{AreNumbers, AreRows, IsCircuitText, IsNumber, Kind, Row, Says, Symbol, count_of, header, input}
pub use Rattle.pg_aiger.specs.CircuitText.{is_inner, kind_text, latch, numbers, output, rows_of, symbol}
pub use Rattle.pg_aiger.specs.Circuits.{AreGatesFrom, Circuit, IsNumbered, Latch, circuit_in_order, input_at, latch_at, no_latch}
pub use Rattle.pg_aiger.specs.Construction.{Made, all_minterms, bit_columns, conjunction_of, disjunction_of, each_made, having}
pub use Rattle.pg_aiger.specs.Construction.{minterm_literals, negation, new_gate, spelling}
unfoldable pub use Rattle.pg_aiger.specs.Construction.{conjunction, disjunction, made_circuit}
pub use Rattle.pg_aiger.specs.Laws.{FollowsMachine, HasOneStep, OneCircuit}
pub use Rattle.pg_aiger.specs.Machines.{IsCircuitOf, IsTooLarge, IsWidth, RunsAs, count_ahead}
pub use Rattle.pg_aiger.specs.Mirrors.Drafts.{Drafted, Extends, HasRoom, IsDraft, IsLiteral, Means, conjunction_with, number_at}
pub use Rattle.pg_aiger.specs.Mirrors.Layouts.{gate_row, kind_of, latch_row, literal_row, named, names_until, symbol_rows}
pub use Rattle.pg_aiger.specs.Mirrors.Steps.{Agrees, IsValued}
pub use Rattle.pg_aiger.specs.Mirrors.Tables.{AreColumns, IsAt, IsBuiltFor, MeanEach, any_below, column_bit, is_minterm, minterm_at}
pub use Rattle.pg_aiger.specs.Mirrors.Tables.{minterms_below, nexts_below, outputs_below, reply_of}
pub use Rattle.pg_aiger.specs.Mirrors.Views.{IsKept, latches_from, literals_from, viewed}
pub use Rattle.pg_aiger.specs.Runs.{GoesOn, HasOneRun, HaveBits, IsRun, IsStepAt, IsWordOf, Satisfies, Steps, Valuation, bit, current}
pub use Rattle.pg_aiger.specs.Runs.{number_of, value}
pub use Rattle.pg_aiger.specs.declared.fault.AigerFault.{AigerFault}
pub use Rattle.pg_aiger.specs.declared.fault.AigerFault.TheVariants.{OutOfMemory, TooLarge}
pub use Rattle.pg_aiger.specs.declared.gate.Gate.{Gate}
