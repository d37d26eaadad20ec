-- The names that the proofs of this crate cite from elsewhere, passed on from one place. Declares nothing.
pub use mir.Val.{bool_byte}
pub use Rattle.std.proofs.Common.{ap, append_assoc, arith, inl, inr, refl, rules, subst, sym, ◌∙◌}
pub use Rattle.std.proofs.Math.ListN.{get_or-append}
pub use Rattle.std.proofs.Math.Seq.{drop-append_seam}
pub use Rattle.std.proofs.lemmas.Bool.{cases_Bool, cases_eq, cases_lt, eqb-true, le-ltb, lt-ltb, ltb-true}
pub use Rattle.std.proofs.lemmas.Bool.Decides.{nat_tests}
pub use Rattle.std.proofs.lemmas.Grind.{flat_map-append, take_at_read}
pub use Rattle.std.proofs.lemmas.List.{append-nil, drop-append-le, drop_all, drop_more, get_or-drop, get_or-map, get_or-replicate}
pub use Rattle.std.proofs.lemmas.List.{get_or-set_other, get_or-set_same, get_or_default, get_or_past, get_or_push, length-append}
pub use Rattle.std.proofs.lemmas.List.{length-drop, length-map, length-replicate, length-set, length-take-le, map-append, nil_from_length}
pub use Rattle.std.proofs.lemmas.List.{take-append-drop, take-append-le, take_all, take_more}
pub use Rattle.std.proofs.lemmas.List.Concat.{flat_map-cons}
pub use Rattle.std.proofs.lemmas.List.Elements.{All-append, All-cons, All-head, All-map, All-nil, All-push, All-set, All-tail, All-weaker}
pub use Rattle.std.proofs.lemmas.List.FromFn.{fill_by_all, get_or-map-range_with_len, length-map-range_with_len}
pub use Rattle.std.proofs.lemmas.List.Sums.{sum_by-drop_more}
pub use Rattle.std.proofs.lemmas.Result.{err_from_is_err_and}
pub use Rattle.std.specs.Io.KnownBytes.{Appends, Consumes}
pub use Rattle.std.specs.List.{Contains, flat_map}
pub use Rattle.std.specs.Prelude.{All, AllPairs, Any, Bool, Err, IfErr, IfOk, IfSome, IsSome, IsTrue, List, None, Ok, OnOk, Option, Result}
pub use Rattle.std.specs.Prelude.{Some, [], cond, drop, false, get_or, if◌then◌else◌, length, map, nat_eq, nat_lt, option_map, replicate}
pub use Rattle.std.specs.Prelude.{set, suc, sum_by, take, true, unwrap_or, vec_capacity, zero, ℕ, ◌++◌, ◌+◌, ◌-◌, ◌<◌, ◌==◌, ◌^◌, ◌↔◌, ◌∷◌}
pub use Rattle.std.specs.Prelude.{◌≡◌, ◌≢◌, ◌≤◌, ◌⊎◌}
pub use Rattle.pg_arena.specs.Games.{nowhere}
pub use Rattle.pg_arena.specs.declared.player.Player.{Player}
pub use Rattle.pg_arena.specs.declared.player.Player.TheVariants.{Even}
pub use Rattle.pg_map_lift.specs.Mirrors.Lifters.{KeepsLines, LifterValue, Lifts}
pub use Rattle.pg_map.proofs.Above.{lift_stays_under}
pub use Rattle.pg_map.proofs.Joins.{zero_map_least}
pub use Rattle.pg_map.specs.Lemmas.Orders.{map_reflexive, map_transitive}
pub use Rattle.pg_map.specs.Lines.{AreWithin, Line, line_at, line_of, only, vertex_line}
pub use Rattle.pg_map.specs.Maps.{IsClosed, IsJoin, IsLifted, IsMap, IsServed, MapAtMost, MapValue, SomeOrAll, StaysUnder, measure_at, update_map}
pub use Rattle.pg_map.specs.Maps.{zero_map}
pub use Rattle.pg_map.specs.declared.update.Update.{Update}
pub use Rattle.pg_measure.proofs.Order.{at_most_all, at_most_same, below_is}
pub use Rattle.pg_measure.proofs.Widths.{width_is}
pub use Rattle.pg_measure.specs.Measures.{AtMost, BoundList, Covers, Fits, MeasureValue, owned, width_from, zeros}
pub use Rattle.pg_measure.specs.Views.{measure_in}
pub use Rattle.pg_coord_partition.proofs.Fitting.{components_fit, few_components, frame_tells, well_of}
pub use Rattle.pg_coord_partition.proofs.Joining.{all_none, joins_more, joins_none}
pub use Rattle.pg_coord_partition.proofs.Lists.{all_left, all_right, pairs_left, pairs_map, pairs_right}
pub use Rattle.pg_coord_partition.proofs.Reading.{first_is, in_row, none_left, some_is}
pub use Rattle.pg_coord_partition.specs.Frames.{IsAtLeast, IsClosedAt, Joins, lines_in, measures_in, told_line}
pub use Rattle.pg_wire.proofs.Append.{few, then}
pub use Rattle.pg_wire.proofs.Bodies.{one_frame}
pub use Rattle.pg_wire.proofs.Buffers.{extends_by, extends_then}
pub use Rattle.pg_wire.proofs.Consumed.{consumes_then, got, refused_known}
pub use Rattle.pg_wire.proofs.Few.{few_bounds}
pub use Rattle.pg_wire.proofs.Frames.{body_size, fields}
pub use Rattle.pg_wire.proofs.Nonzero.{pairs_size, words_size}
pub use Rattle.pg_wire.proofs.Tells.{dense_told, sparse_told}
pub use Rattle.pg_wire.specs.Bytes.{IsTooLong, IsTruncated, Spells}
pub use Rattle.pg_wire.specs.Left.{IsLeft}
pub use Rattle.pg_wire.specs.Lines.{head_of, line_with}
pub use Rattle.pg_wire.specs.LinesLeft.{AreLeft, IsNextLine}
pub use Rattle.pg_wire.specs.Measured.{IsMeasured, Measured, frame_of, nonzero, nonzero_from, spelled_as}
pub use Rattle.pg_wire.specs.Mirrors.Reading.{HasBytes}
pub use Rattle.pg_wire.specs.Spelling.{body, longest, spelling}
pub use Rattle.pg_wire.specs.Well.{IsSetup, IsVertexLine, IsWell, IsWord}
pub use Rattle.pg_wire.specs.Written.{IsAdded, IsWriting}
pub use Rattle.pg_wire.specs.declared.fault.WireFault.{WireFault}
pub use Rattle.pg_wire.specs.declared.frame.Frame.{Frame}
pub use Rattle.pg_wire.specs.declared.frame.LineHead.{LineHead}
pub use Rattle.pg_wire.specs.declared.frame.Setup.{Setup}
pub use Rattle.pg_wire.specs.declared.frame.VertexLine.{VertexLine}
pub use Rattle.pg_wire.specs.declared.kind.ValueKind.{ValueKind}
pub use Rattle.pg_wire.specs.declared.kind.ValueKind.TheVariants.{Dense, Sparse}
pub use Rattle.pg_wire.specs.declared.lines_reader.VerticesReader.{VerticesReader}
pub use Rattle.pg_wire.specs.declared.reader.ValuesReader.{ValuesReader}
pub use Rattle.pg_wire.specs.declared.writer.ValuesWriter.{ValuesWriter}
pub use Rattle.pg_worker.specs.Above.{AreFrames, IsAboveSession}
pub use Rattle.pg_worker.specs.Laws.{AreSteps, IsAtLeastTaken, Lifted, RepliesStayUnder, Step, Taken, ToldStayUnder, updates_in}
pub use Rattle.pg_worker.specs.Mirrors.Faults.{own_fault}
pub use Rattle.pg_worker.specs.Mirrors.Insides.{IsNext, IsWhole}
pub use Rattle.pg_worker.specs.Mirrors.Joins.{JoinsAll}
pub use Rattle.pg_worker.specs.Mirrors.Lifts.{AreListedLifts}
pub use Rattle.pg_worker.specs.Mirrors.Replies.{measures_of}
pub use Rattle.pg_worker.specs.Mirrors.Sessions.{IsSmall}
pub use Rattle.pg_worker.specs.Mirrors.Steps.{Answers, IsStep}
pub use Rattle.pg_worker.specs.Serving.{Breaks, Exchanges, IsFaultAt, Replies, report_bytes}
pub use Rattle.pg_worker.specs.Turns.{ArePacked, CanTakeAll, DoesTurn, EndsFull, IsUpTo, LiftsAndTells, Packs, Refuses, RefusesBytes}
pub use Rattle.pg_worker.specs.Turns.{RefusesValues, SessionValue, TakesValues, Turn, frame_size, fresh, greeting, lifted_measures, report}
pub use Rattle.pg_worker.specs.Turns.{with_part}
pub use Rattle.pg_worker.specs.Workers.{AreAbove, AreLifts, CanTake, FitsGame, IsLiftBy, IsListedTurn, IsWorker, RefusesLines, Takes}
pub use Rattle.pg_worker.specs.Workers.{WorkerValue, part_line, with_lines}
pub use Rattle.pg_worker.specs.declared.fault.WorkerFault.{WorkerFault}
pub use Rattle.pg_worker.specs.declared.fault.WorkerFault.TheVariants.{BadUpdate, NotMine, Order, OutOfMemory, Wire}
