-- The names that the proofs of this crate cite from elsewhere, passed on from one place. Declares nothing.
pub use Rattle.std.proofs.Common.{ap, append_assoc, arith, inl, inr, length-set, refl, rules, subst, sym, ◌∙◌}
pub use Rattle.std.proofs.lemmas.Bool.{cases_Bool, cases_eq, cases_lt, eqb-false, eqb-true}
pub use Rattle.std.proofs.lemmas.List.{append-nil, drop-drop, drop_all, drop_more, get_or-set_other, get_or-set_same, get_or_push}
pub use Rattle.std.proofs.lemmas.List.{length-append, length-replicate, take_all, take_more}
pub use Rattle.std.proofs.lemmas.List.Concat.{flat_map-append, flat_map-cons}
pub use Rattle.std.proofs.lemmas.List.Elements.{All-append, All-contains, All-drop, All-head, All-nil, All-push, All-set, All-tail}
pub use Rattle.std.proofs.lemmas.List.Elements.{All-weaker, Contains-get_or}
pub use Rattle.std.proofs.lemmas.List.Quantifiers.{all_pairs_push}
pub use Rattle.std.proofs.lemmas.List.Sums.{sum_by-set}
pub use Rattle.std.proofs.lemmas.Result.{IfOk-weaker, err_from_is_err_and, on_ok_weaker}
pub use Rattle.std.specs.Bool.{OnFalse, OnTrue}
pub use Rattle.std.specs.List.{flat_map}
pub use Rattle.std.specs.Prelude.{All, AllPairs, Bool, Err, IfErr, IfSome, List, None, Ok, OnOk, Option, Result, Some, [], cond, drop}
pub use Rattle.std.specs.Prelude.{false, get_or, if◌then◌else◌, length, map, min, set, slice_index_or, suc, take, true, zero, ℕ, ◌*◌, ◌++◌}
pub use Rattle.std.specs.Prelude.{◌+◌, ◌-◌, ◌<◌, ◌==◌, ◌^◌, ◌||◌, ◌↔◌, ◌∷◌, ◌≡◌, ◌≢◌, ◌≤◌, ◌⊎◌}
pub use Rattle.pg_arena.specs.Games.{GameVertex, IsGame, successors, vertex_at}
pub use Rattle.pg_map.proofs.GameLines.{game_line_at, game_line_some}
pub use Rattle.pg_map.proofs.Joins.{zero_map_least}
pub use Rattle.pg_map.proofs.Lifts.{served_line_back}
pub use Rattle.pg_map.proofs.Passes.{IsPassed, closed_after, passed_more, passed_none}
pub use Rattle.pg_map.proofs.Weights.{measure_falls, zero_map_weight}
pub use Rattle.pg_map.specs.Lemmas.Orders.{map_reflexive, map_transitive, measure_reflexive}
pub use Rattle.pg_map.specs.Lines.{AreWithin, Line, game_line, vertex_line}
pub use Rattle.pg_map.specs.Maps.{IsClosed, IsLeastProgressMeasure, IsMap, IsNeverAbove, IsServed, MapAtMost, MapValue, StaysUnder}
pub use Rattle.pg_map.specs.Maps.{measure_at, zero_map}
pub use Rattle.pg_map.specs.Weights.{list_count, map_weight, weight}
pub use Rattle.pg_measure.proofs.Order.{at_most_all}
pub use Rattle.pg_measure.specs.Games.{IsBoundsOf}
pub use Rattle.pg_measure.specs.Measures.{AtMost, BoundList, Fits, IsBelow, MeasureValue, zeros}
pub use Rattle.pg_measure.specs.Views.{measure_in}
pub use Rattle.pg_coord_partition.proofs.Fitting.{components_fit, few_components, frame_tells, well_of}
pub use Rattle.pg_coord_partition.proofs.Joining.{joins_none}
pub use Rattle.pg_coord_partition.proofs.Lists.{all_left, all_right}
pub use Rattle.pg_coord_partition.proofs.Ranges.{setup_is_well}
pub use Rattle.pg_coord_partition.proofs.Reading.{first_is, in_row, none_left}
pub use Rattle.pg_coord_partition.specs.Cuts.{CutValue}
pub use Rattle.pg_coord_partition.specs.Frames.{IsAtLeast, IsClosedAt, Joins, kind_of, measures_in, told_line}
pub use Rattle.pg_coord_partition.specs.Links.{HandsOver, IsUnderAfter, RestartsTold, SendsTold, refusal}
pub use Rattle.pg_coord_partition.specs.declared.link.LinkFault.{LinkFault}
pub use Rattle.pg_coord_partition.specs.declared.link.LinkFault.TheVariants.{Failed, OutOfMemory}
pub use Rattle.pg_wire.proofs.Bodies.{one_frame}
pub use Rattle.pg_wire.proofs.Nonzero.{pairs_size, words_size}
pub use Rattle.pg_wire.proofs.Tells.{dense_told}
pub use Rattle.pg_wire.specs.Bytes.{Spells}
pub use Rattle.pg_wire.specs.Left.{IsLeft, IsNext}
pub use Rattle.pg_wire.specs.Lines.{frame_with, line_with}
pub use Rattle.pg_wire.specs.LinesWritten.{AreWriting, IsLineAdded}
pub use Rattle.pg_wire.specs.Measured.{IsMeasured, Measured, dense_value, frame_of, told_values}
pub use Rattle.pg_wire.specs.Spelling.{body, line, longest, spelling, word}
pub use Rattle.pg_wire.specs.Well.{IsBound, IsVertexLine, IsVertices, IsWell}
pub use Rattle.pg_wire.specs.Written.{IsAdded}
pub use Rattle.pg_wire.specs.declared.frame.Frame.{Frame}
pub use Rattle.pg_wire.specs.declared.frame.Report.{Report}
pub use Rattle.pg_wire.specs.declared.frame.Values.{Values}
pub use Rattle.pg_wire.specs.declared.frame.VertexLine.{VertexLine}
pub use Rattle.pg_wire.specs.declared.kind.ValueKind.{ValueKind}
pub use Rattle.pg_wire.specs.declared.kind.ValueKind.TheVariants.{Dense, Sparse}
pub use Rattle.pg_wire.specs.declared.lines_writer.VerticesWriter.{VerticesWriter}
pub use Rattle.pg_wire.specs.declared.reader.ValuesReader.{ValuesReader}
pub use Rattle.pg_wire.specs.declared.writer.ValuesWriter.{ValuesWriter}
pub use Rattle.pg_coord_rounds.specs.Mirrors.CoordinatorMaps.{Moves, Receives}
pub use Rattle.pg_coord_rounds.specs.Mirrors.Lines.{AreLines, AreWritten, IsLineOf, SpellsLines}
pub use Rattle.pg_coord_rounds.specs.Mirrors.LinkStates.{AllInStep, IsInStep}
pub use Rattle.pg_coord_rounds.specs.Mirrors.Rounds.{AreRounds, Closes, Ends, IsFoundFrom, IsSolvedFrom}
pub use Rattle.pg_coord_rounds.specs.Mirrors.Sent.{AreSent, IsWritten, SpellsMeasures}
pub use Rattle.pg_coord_rounds.specs.Mirrors.Takes.{TakesFrame}
pub use Rattle.pg_coord_rounds.specs.Mirrors.Tasks.{IsClosedMap, IsTask, TaskValue}
pub use Rattle.pg_coord_rounds.specs.Mirrors.Telling.{AllQueried, AllTell, AnswersAfter, AnswersSetUp, FailsAfter, IsMended, IsQueried}
pub use Rattle.pg_coord_rounds.specs.Mirrors.Telling.{IsRoundOver, JoinsEach, ReceivesReply, Tells, TellsAfter, acceptance, answer_to}
pub use Rattle.pg_coord_rounds.specs.Mirrors.Telling.{received_by, reply_measures, told_reply, told_with}
pub use Rattle.pg_coord_rounds.specs.PartMeasures.{AreOfPart, IsOfPart}
pub use Rattle.pg_coord_rounds.specs.Replies.{AreReplies, Ending, EndsSo, FailsLink, IsLeastOverReplies, IsReply, Reply, TellReplies, is_failure}
pub use Rattle.pg_coord_rounds.specs.Replies.{measures_of, missing, received, reported, spelled_ending, spelled_replies, spelled_reply, spoiled}
pub use Rattle.pg_coord_rounds.specs.Solving.{most_rounds}
pub use Rattle.pg_coord_rounds.specs.declared.coordinator_map.CoordinatorMap.{CoordinatorMap}
pub use Rattle.pg_coord_rounds.specs.declared.link_state.LinkState.{LinkState}
pub use Rattle.pg_coord_rounds.specs.declared.solver.Solved.{Solved}
