-- The names that the proofs of this crate cite from elsewhere, passed on from one place. Declares nothing.
pub use Rattle.std.proofs.Common.{Bor, Fits, ap, append_assoc, arith, inl, inr, lit<, lit≤, refl, rules, subst, sym, w32, ◌∙◌}
pub use Rattle.std.proofs.Math.ListN.{get_or-map}
pub use Rattle.std.proofs.Math.Nat.{div-le_self, mod-le, mul-le-mul_right}
pub use Rattle.std.proofs.Math.Pow.{pow_mono}
pub use Rattle.std.proofs.Math.Seq.{take-append_seam}
pub use Rattle.std.proofs.lemmas.Bool.{cases_order, false≢true}
pub use Rattle.std.proofs.lemmas.Bool.Decides.{Decides-and, Decides-below_and, Decides-eqb, Decides-ltb, leb_tells, nat_tests}
pub use Rattle.std.proofs.lemmas.Fn.{always_returns_same}
pub use Rattle.std.proofs.lemmas.List.{append-nil, at_drop_all, at_drop_more, drop_all, flat_map_more, get_or-replicate, get_or-set_other}
pub use Rattle.std.proofs.lemmas.List.{get_or-set_same, get_or_read, length-map, length-replicate, length-set, map-append, nil_from_length}
pub use Rattle.std.proofs.lemmas.List.{reverse-append, take_all, take_more}
pub use Rattle.std.proofs.lemmas.List.Elements.{All-append, All-cons, All-from_recursion, All-get_or, All-head, All-nil, All-push, All-tail}
pub use Rattle.std.proofs.lemmas.List.Elements.{All-weaker, filter-append}
pub use Rattle.std.proofs.lemmas.List.Filters.{dedup_is}
pub use Rattle.std.proofs.lemmas.List.Folds.{list_any-append}
pub use Rattle.std.proofs.lemmas.List.FromFn.{length-map-range_with_len}
pub use Rattle.std.proofs.lemmas.Nat.{and_assoc, and_comm, and_or_self, and_shr, div-add-mod', div-mul-add, div_below, mod-mul-add}
pub use Rattle.std.proofs.lemmas.Nat.{mod_below, mul-add-lt, mul-le, one_shl, or_comm, pow-add, pow_below, pow_pos, shl_whole, shr-shr}
pub use Rattle.std.proofs.lemmas.Nat.{shr_high, shr_le}
pub use Rattle.std.proofs.lemmas.Nat.Bits.{and_pow, bit_at-lt, bit_at-trailing_zeros, bit_at-zero, bit_at_above, bit_at_and}
pub use Rattle.std.proofs.lemmas.Nat.Bits.{bit_at_cat_high, bit_at_cat_low, bit_at_not, bit_at_ones, bit_at_or, same_from_bits, shr_and_one}
pub use Rattle.std.proofs.lemmas.Result.{err_from_is_err_and}
pub use Rattle.std.specs.Int.{bit_at, trailing_zeros, w64}
pub use Rattle.std.specs.Int.RustNames.{bit_or}
pub use Rattle.std.specs.List.{All, AllByRecursion, filter, flat_map, list_any, range_with_len}
pub use Rattle.std.specs.List.Sorted.{IsPermutation, ties}
pub use Rattle.std.specs.Option.{option_cmp}
pub use Rattle.std.specs.Ordering.{is_lt, nat_cmp, ordering_then}
pub use Rattle.std.specs.Prelude.{Bool, Decides, List, None, Option, Some, [], bit_and, cond, drop, eqb, false, get_or, leb, length, ltb}
pub use Rattle.std.specs.Prelude.{map, max, min, option_map, replicate, set, slice_get, suc, take, true, vec_len, zero, ℕ, ◌%◌, ◌&&◌, ◌*◌}
pub use Rattle.std.specs.Prelude.{◌++◌, ◌+◌, ◌-◌, ◌/◌, ◌<◌, ◌==◌, ◌^◌, ◌||◌, ◌∷◌, ◌≡◌, ◌≢◌, ◌≤◌, ◌⊎◌}
pub use Rattle.std.specs.Vec.{with_item, with_items}
pub use Rattle.std.specs.declared.alloc.Global.{Global}
pub use Rattle.std.specs.declared.cmp.Ordering.{Ordering}
pub use Rattle.std.specs.declared.vec.Vec.{Vec}
pub use Rattle.pg_hoa_automaton.proofs.Deciding.{decides_last}
pub use Rattle.pg_hoa_automaton.proofs.Rows.{next_viewed}
pub use Rattle.pg_hoa_automaton.specs.Automata.{Automaton, IsAutomaton, IsPropositionName, IsStepOf, Step, deciding, first, last, letters, next}
pub use Rattle.pg_hoa_automaton.specs.Automata.{rows, step}
pub use Rattle.pg_hoa_automaton.specs.Formulas.{Formula, both, bracket, either, fin, holds, inf, no, not, proposition, yes}
pub use Rattle.pg_hoa_automaton.specs.Mirrors.Steps.{◌>>=◌}
pub use Rattle.pg_hoa_automaton.specs.Mirrors.Tables.{numbered}
pub use Rattle.pg_hoa_automaton.specs.Mirrors.Views.{viewed}
pub use Rattle.pg_hoa_automaton.specs.Shapes.{FitsShape}
pub use Rattle.pg_hoa_automaton.specs.declared.shape.Shape.{Shape}
pub use Rattle.pg_hoa_automaton.specs.declared.shape.Shape.TheVariants.{Always, MaxEven, MaxOdd, MinEven, MinOdd, Never}
pub use Rattle.pg_hoa_automaton.specs.declared.table.Stored.{Stored}
pub use Rattle.pg_hoa_automaton.specs.declared.table.Table.{Table}
pub use Rattle.pg_list_lemmas.proofs.Contained.{Rises, pairs_tail}
pub use Rattle.pg_list_lemmas.proofs.Rising.{dedup_rising, has, has_rising, rising_below, rising_pairs, rising_put, rising_rises}
pub use Rattle.pg_list_lemmas.proofs.Steps.{none_is_some, some, some_is}
pub use Rattle.pg_list_lemmas.specs.Rising.{put, rising}
pub use Rattle.pg_hoa_syntax.proofs.Lists.{all_of_both, both_true}
pub use Rattle.pg_hoa_syntax.proofs.SetLists.{rising_alike}
pub use Rattle.pg_hoa_syntax.proofs.SpeltReads.{SaysOnce, says_once}
pub use Rattle.pg_hoa_syntax.proofs.Steps.{bind_some}
pub use Rattle.pg_hoa_syntax.specs.Mirrors.FormulaRun.{postfix}
pub use Rattle.pg_hoa_syntax.specs.Mirrors.Kept.{KeptEdge, KeptLine, edge_in, kept_edges, kept_of_edge, kept_of_line, line_in, may_hold}
pub use Rattle.pg_hoa_syntax.specs.Mirrors.Readings.{Declares, SaysNothing, automaton, bare_automaton}
pub use Rattle.pg_hoa_syntax.specs.Syntax.{EachBelow, Edge, EdgeFits, LineFits, Says, SaysNone, StateLine, Written, controls, set_list}
pub use Rattle.pg_hoa_syntax.specs.declared.body.ReadState.{ReadState}
pub use Rattle.pg_hoa_syntax.specs.declared.fault.PartFault.{PartFault}
pub use Rattle.pg_hoa_syntax.specs.declared.fault.PartFault.TheVariants.{BadName, LeftOut, NotParity, OutOfRange, Syntax, TooLarge}
pub use Rattle.pg_hoa_syntax.specs.declared.fault.PartFault.TheVariants.{UnknownHeader}
pub use Rattle.pg_hoa_syntax.specs.declared.fault.PartRefusal.{PartRefusal}
pub use Rattle.pg_hoa_syntax.specs.declared.formula.Op.{Op}
pub use Rattle.pg_hoa_syntax.specs.declared.formula.Op.TheVariants.{No}
pub use Rattle.pg_hoa.specs.AutomatonText.{Agree, IsDeterministicAt, IsRefused, IsUndetermined, SpellsNone, Spelt, edge_steps, head}
pub use Rattle.pg_hoa.specs.AutomatonText.{steps_of}
pub use Rattle.pg_hoa.specs.Laws.{HasOneReading}
pub use Rattle.pg_hoa.specs.Mirrors.Faults.{conflict_fault, in_text, refusal_in_text}
pub use Rattle.pg_hoa.specs.Mirrors.Instructions.{SpeaksOf, execute, execute_all, fits}
unfoldable pub use Rattle.pg_hoa.specs.Mirrors.Instructions.{executed}
pub use Rattle.pg_hoa.specs.Mirrors.Letters.{on_at, truth, truth_in}
unfoldable pub use Rattle.pg_hoa.specs.Mirrors.Letters.{truths}
pub use Rattle.pg_hoa.specs.Mirrors.Saying.{perform, run, says, top, under}
pub use Rattle.pg_hoa.specs.Mirrors.Tables.{Adds, Covers, Extends, HasKey, IsConflictOf, IsCovered, IsDecided, IsFilled, IsFirstConflict}
pub use Rattle.pg_hoa.specs.Mirrors.Tables.{IsOf, IsPlaced, IsRegrouped, IsRow, IsSplit, IsTableOf, Leads, MayNumber, Stage, agree}
pub use Rattle.pg_hoa.specs.Mirrors.Tables.{at_letters, at_line, at_lines, at_slot, at_word, edge_step, has_key, kept_edge_steps}
pub use Rattle.pg_hoa.specs.Mirrors.Tables.{kept_steps, same_set, says_at, stage, way_step, when, with_set, with_sets, within}
pub use Rattle.pg_hoa.specs.declared.fault.Conflict.{Conflict}
pub use Rattle.pg_hoa.specs.declared.fault.Conflict.TheVariants.{Memory, NotDeterministic}
pub use Rattle.pg_hoa.specs.declared.table.Covered.{Covered}
pub use Rattle.pg_hoa.specs.declared.table.Way.{Way}
pub use Rattle.pg_hoa.specs.declared.terms.Instruction.{Instruction}
pub use Rattle.pg_hoa.specs.declared.terms.Instruction.TheVariants.{Both, BothTerm, Either, EitherTerm, Not, Put}
pub use Rattle.pg_hoa.specs.declared.terms.Term.{Term}
