-- The names that the proofs of this crate cite from elsewhere, passed on from one place. Declares nothing.
pub use Rattle.std.proofs.Common.{ap, append-nil, append_assoc, ap₂, arith, inl, inr, length-append, length-drop, length-take-le, refl}
pub use Rattle.std.proofs.Common.{rules, subst, sym, take-append-drop, ◌∙◌}
pub use Rattle.std.proofs.Math.Nat.{mod-eq_of_lt}
pub use Rattle.std.proofs.Math.Seq.{drop-append_seam, get_or-append_seam, take-append-add, take-append_seam}
pub use Rattle.std.proofs.lemmas.Bool.{cases_lt}
pub use Rattle.std.proofs.lemmas.Grind.{common_steps, flat_map-append}
pub use Rattle.std.proofs.lemmas.List.{get_or-map, get_or_append_left, get_or_default, get_or_past, length-map, map-append, same_lists}
pub use Rattle.std.proofs.lemmas.List.{take_all, take_more}
pub use Rattle.std.proofs.lemmas.List.Elements.{All-cons, All-map, Contains-append_left, Contains-append_right}
pub use Rattle.std.proofs.lemmas.List.FromFn.{get_or-enumerate_from, get_or-map-range_with_len, length-enumerate_from}
pub use Rattle.std.proofs.lemmas.List.FromFn.{length-map-range_with_len}
pub use Rattle.std.proofs.lemmas.List.Sorted.{All-permutation}
pub use Rattle.std.proofs.lemmas.Nat.{mod_below, pow_pos}
pub use Rattle.std.proofs.lemmas.Slice.Zip.{get_or-zip, length-zip}
pub use Rattle.std.specs.Io.KnownBytes.{Appends}
pub use Rattle.std.specs.List.{enumerate_from, flat_map, zip}
pub use Rattle.std.specs.Ordering.{nat_cmp, ord_max}
pub use Rattle.std.specs.Prelude.{All, Contains, Err, IfErr, IfOk, IfSome, IsErrAnd, IsSome, List, MatchResult, None, Ok, OnOk, Option}
pub use Rattle.std.specs.Prelude.{Result, Some, [], codes, decimal, drop, get_or, if◌then◌else◌, length, map, max, slice_get, suc, take}
pub use Rattle.std.specs.Prelude.{zero, ℕ, ◌%◌, ◌*◌, ◌++◌, ◌+◌, ◌-◌, ◌<◌, ◌^◌, ◌∷◌, ◌≡◌, ◌≢◌, ◌≤◌, ◌⊎◌}
pub use Rattle.memchr.proofs.lemmas.MatchLemmas.{OccursAt-from_part, OccursAt-split}
pub use Rattle.memchr.specs.Find.{NoneBefore, Nowhere, OccursAt}
pub use Rattle.pg_aiger.specs.CircuitLayout.{circuit_text, symbols_of}
pub use Rattle.pg_aiger.specs.Circuits.{Circuit}
pub use Rattle.pg_aiger.specs.Laws.{CircuitFollows, CircuitReadsBack, OneCircuit}
pub use Rattle.pg_aiger.specs.Machines.{IsCircuitOf}
pub use Rattle.pg_aiger.specs.declared.fault.AigerFault.{AigerFault}
pub use Rattle.pg_arena.specs.Games.{GameVertex, IsEdge, IsGame, IsPath, IsWithinLimits, dual, identifier, nowhere, opponent, owner}
pub use Rattle.pg_arena.specs.Games.{priority, successors, vertex_at}
pub use Rattle.pg_arena.specs.Lemmas.Duals.{game_dual, length_dual}
pub use Rattle.pg_arena.specs.Lines.{Line, counted, line_of, lines_of}
pub use Rattle.pg_arena.specs.declared.player.Player.{Player}
pub use Rattle.pg_arena.specs.declared.player.Player.TheVariants.{Even, Odd}
pub use Rattle.pg_hoa_automaton.specs.Automata.{Automaton, IsAutomaton, Step, next}
pub use Rattle.pg_hoa_automaton.specs.Formulas.{Formula}
pub use Rattle.pg_hoa_automaton.specs.Shapes.{FitsShape}
pub use Rattle.pg_hoa_automaton.specs.Words.{IsAccepted, IsWord, state_after, step_from, target_of}
pub use Rattle.pg_check.proofs.Chosen.{is_solution}
pub use Rattle.pg_check.specs.Laws.{OneWinner, SoundWins}
pub use Rattle.pg_check.specs.Soundness.{Counts, IsBadCycle, IsSound, IsSoundSolution}
pub use Rattle.pg_check.specs.Strategies.{AreClosed, ClosedMapsSound, DecidedMapsSolve, HasList, IsAnswerOf, IsChoiceFor, IsLeastUndecided}
pub use Rattle.pg_check.specs.Strategies.{IsSolutionOf, IsUndecided, StrategiesFail}
pub use Rattle.pg_check.specs.Verdicts.{IsSimpleBadCycle, Refutes}
pub use Rattle.pg_check.specs.declared.fault.CheckFault.{CheckFault}
pub use Rattle.pg_check.specs.declared.verdict.Verdict.{Verdict}
pub use Rattle.pg_check.specs.declared.verdict.Verdict.TheVariants.{BadCycle, Leaves, Wins}
pub use Rattle.pg_check_determined.specs.Winners.{LeastTellsWinners, NeverUndecided}
pub use Rattle.pg_hoa.specs.AutomatonText.{IsRefused, Spelt}
pub use Rattle.pg_hoa.specs.Laws.{OneReading}
pub use Rattle.pg_hoa.specs.declared.fault.HoaFault.{HoaFault}
pub use Rattle.pg_map.proofs.Above.{fits_at}
pub use Rattle.pg_map.proofs.Paths.{path_front}
pub use Rattle.pg_map.specs.Laws.{ClosedIsLeast, GameLines, HasLeastProgressMeasure}
pub use Rattle.pg_map.specs.Lines.{game_line}
pub use Rattle.pg_map.specs.Maps.{IsLeastProgressMeasure, IsLeastServing, IsServed, MapValue, measure_at}
pub use Rattle.pg_map.specs.declared.update.Update.{Update}
pub use Rattle.pg_measure.specs.Games.{IsBoundsOf}
pub use Rattle.pg_measure.specs.Laws.{HasBounds, OneListOfBounds, OrderIsTotal}
pub use Rattle.pg_measure.specs.Measures.{BoundList, IsBelow, MeasureValue}
pub use Rattle.pg_coord_partition.specs.Cuts.{CutValue}
pub use Rattle.pg_synth.proofs.Letters.{input_back}
pub use Rattle.pg_synth.proofs.OneGame.{one_game}
pub use Rattle.pg_synth.proofs.Places.{known, letter_in, reached}
pub use Rattle.pg_synth.proofs.Trace.{one_vertex, the_play}
pub use Rattle.pg_synth.specs.Answers.{IsMealyOf, IsSynthGame}
pub use Rattle.pg_synth.specs.AutomatonGames.{IsGameOfAutomaton, IsPlaceOf, StandsFor, arrival_of, input_letters}
pub use Rattle.pg_synth.specs.Laws.{IsWonBy, MachineAccepted, OneMachine, Unrealizable}
pub use Rattle.pg_synth.specs.Letters.{inputs, joined, outputs}
pub use Rattle.pg_synth.specs.Machines.{Follows, HasChosenInputs, IsInputWord, Machine, machine_word}
pub use Rattle.pg_synth.specs.Mirrors.GameLines.{place_in}
pub use Rattle.pg_synth.specs.Tracing.{Traces, arrival_after}
pub use Rattle.pg_synth.specs.declared.fault.SynthFault.{SynthFault}
pub use Rattle.pg_synth.specs.declared.place.Place.{Place}
pub use Rattle.pg_synth.specs.declared.place.Place.TheVariants.{Arrival, Dead}
pub use Rattle.pg_text.specs.GameLayout.{game_text}
pub use Rattle.pg_text.specs.GameText.{IsGameText, Refuses, line_lexemes}
pub use Rattle.pg_text.specs.Lexemes.{IsSpelt, Lexeme, Spells, clause_lexemes, end, number}
pub use Rattle.pg_text.specs.Numbers.{comma_number}
pub use Rattle.pg_text.specs.OneSpelling.{SpellsOneGame}
pub use Rattle.pg_text.specs.SolutionLayout.{printed_answer, printed_answers, solution_text}
pub use Rattle.pg_text.specs.SolutionReadBack.{SolutionReadsBack}
pub use Rattle.pg_text.specs.SolutionText.{IsSolutionText, RefusesSolution, is_same}
pub use Rattle.pg_text.specs.Solutions.{IsSolution, answer_at, choice, unanswered, winner}
pub use Rattle.pg_text.specs.declared.answer.Answer.{Answer}
pub use Rattle.pg_text.specs.declared.fault.TextFault.{TextFault}
pub use Rattle.pg_cli_words.specs.declared.command.Command.{Command}
pub use Rattle.pg_cli_words.specs.declared.command.Command.TheVariants.{Measure, Solve, SolveAny}
pub use Rattle.pg_world.specs.Laws.{AreTakenToo, NeverAbove, SameTaken, SpellsOneScript}
pub use Rattle.pg_world.specs.ScriptText.{IsScriptText}
pub use Rattle.pg_world.specs.Updates.{UpdateValue, update_value}
pub use Rattle.pg_world.specs.Worlds.{IsEventOf, IsMapOf, IsRefusedBy, Lifts, LiftsIn, Runs, Steps, StopsAt, WorldValue, making, new_world}
pub use Rattle.pg_world.specs.Worlds.{refusal, taken_of}
pub use Rattle.pg_world.specs.declared.event.Event.{Event}
pub use Rattle.pg_world.specs.declared.event.Event.TheVariants.{CoordinatorLift, Deliver, Lift, Restart}
pub use Rattle.pg_world.specs.declared.fault.WorldFault.{WorldFault}
pub use Rattle.pg_world.specs.declared.script_fault.ScriptFault.{ScriptFault}
pub use Rattle.pg_cli_command.specs.Answers.{Answers, Meaning, PrintsBy, RefusesBy, meaning_of}
pub use Rattle.pg_cli_command.specs.Checking.{RefusesCheck, greatest}
pub use Rattle.pg_cli_command.specs.Controllers.{AnswersWithinLimits, CircuitAccepted, NoController, NoneAccepted, OneVerdict, controlled_word}
pub use Rattle.pg_cli_command.specs.Controllers.{inputs_before}
pub use Rattle.pg_cli_command.specs.Faults.{aiger_fault, check_fault, event_fault, hoa_fault, script_fault, synth_fault, text_fault}
pub use Rattle.pg_cli_command.specs.Laws.{OneAnswer, WinsAsPrinted}
pub use Rattle.pg_cli_command.specs.Making.{IsGameFor, IsNoAutomaton, IsTooLarge, RefusesGame}
pub use Rattle.pg_cli_command.specs.Measuring.{IsClosedMapOf, IsMeasureOf, IsMeasured, MapKind, RefusesMeasure, measure_line, measures_text}
pub use Rattle.pg_cli_command.specs.Mirrors.Naming.{IsWithin}
pub use Rattle.pg_cli_command.specs.Mirrors.Reading.{Keeps}
pub use Rattle.pg_cli_command.specs.Mirrors.Unsolved.{IsUnsolved}
pub use Rattle.pg_cli_command.specs.Mirrors.Synthesised.{Fits}
pub use Rattle.pg_cli_command.specs.Mirrors.Working.{Fails, ShowsWhat}
pub use Rattle.pg_cli_command.specs.Parts.{IsParted, Parting, separator}
pub use Rattle.pg_cli_command.specs.Mirrors.Parting.{parting_of}
pub use Rattle.pg_cli_command.specs.Replaying.{AreMapsOf, IsNoScript, IsReplayed, IsScripted, IsStopped, RefusesReplay, replica_text}
pub use Rattle.pg_cli_command.specs.Replaying.{update_line, world_text}
pub use Rattle.pg_cli_command.specs.Solving.{IsSolved, IsSolvedAnyhow, IsSolvedBy, IsUndecidedAt, IsUndecidedIn, RefusesSolve}
pub use Rattle.pg_cli_command.specs.Synthesising.{HasLargeMachine, IsRealized, IsSynthesised, IsUndecidedFor, IsWonFor, RefusesSynth}
pub use Rattle.pg_cli_command.specs.Synthesising.{realizable}
pub use Rattle.pg_cli_command.specs.Texts.{IsNoGame, IsNoSolution}
pub use Rattle.pg_cli_command.specs.Winners.{GamesHaveAnswers, MeasuresTellWinners, NoneUndecided}
pub use Rattle.pg_cli_command.specs.declared.fault.CliFault.{CliFault}
pub use Rattle.pg_cli_command.specs.declared.fault.CliFault.TheVariants.{Hoa, OutOfMemory, Synth}
pub use Rattle.pg_cli_command.specs.declared.input.TheConstants.{MOST_BYTES}
