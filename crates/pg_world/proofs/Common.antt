-- The names that the proofs of this crate cite from elsewhere, passed on from one place. Declares nothing.
pub use Rattle.std.proofs.Common.{ap, append_assoc, arith, inl, inr, is_lt, refl, subst, sym, ◌∙◌}
pub use Rattle.std.proofs.Math.Seq.{drop-cons, get_or-append_seam, map-set_same}
pub use Rattle.std.proofs.lemmas.Bool.{cases_eq, cases_lt, leb-true, ltb-true}
pub use Rattle.std.proofs.lemmas.Grind.{flat_map-append}
pub use Rattle.std.proofs.lemmas.List.{append-nil, drop_all, ext_get_or, get_or-map, get_or-replicate, get_or-set_other, get_or-set_same}
pub use Rattle.std.proofs.lemmas.List.{get_or_append_left, get_or_default, get_or_past, length-append, length-map, length-replicate}
pub use Rattle.std.proofs.lemmas.List.{length-set, map-append, map-set, take_more, with_items_is}
pub use Rattle.std.proofs.lemmas.List.Elements.{All-append, All-cons, All-contains, All-head, All-nil, All-push, All-set, All-tail}
pub use Rattle.std.proofs.lemmas.List.Elements.{All-weaker, Contains-append_left, Contains-append_right, Contains-get_or}
pub use Rattle.std.proofs.lemmas.Option.{slice_get-get_or}
pub use Rattle.std.proofs.lemmas.Result.{err_from_is_err_and}
pub use Rattle.std.proofs.lemmas.Slice.Eq.{bytes_eq-Decides}
pub use Rattle.std.specs.List.{flat_map}
pub use Rattle.std.specs.Ordering.{MatchOrdering, is_gt}
pub use Rattle.std.specs.Prelude.{All, Bool, Contains, Err, IfNone, IfSome, IsSome, List, MatchBool, MatchOption, None, Ok, Option, Some}
pub use Rattle.std.specs.Prelude.{[], codes, drop, false, get_or, if◌then◌else◌, is_ok, length, map, nat_le, nat_lt, option_map, replicate}
pub use Rattle.std.specs.Prelude.{set, slice_get, suc, take, true, vec_capacity, vec_len, zero, ℕ, ◌&&◌, ◌++◌, ◌+◌, ◌<◌, ◌==◌, ◌∷◌, ◌≡◌}
pub use Rattle.std.specs.Prelude.{◌≢◌, ◌≤◌, ◌⊎◌}
pub use Rattle.std.specs.Str.{bytes_eq}
pub use Rattle.std.specs.Vec.{with_items}
pub use Rattle.std.specs.declared.alloc.Global.{Global}
pub use Rattle.std.specs.declared.cmp.Ordering.{Ordering}
pub use Rattle.std.specs.declared.cmp.Ordering.TheVariants.{Equal, Greater, Less}
pub use Rattle.std.specs.declared.vec.Vec.{Vec}
pub use Rattle.pg_arena.specs.Games.{GameVertex, IsGame, identifier, owner, priority, successors}
pub use Rattle.pg_arena.specs.declared.player.Player.{Player}
pub use Rattle.pg_arena.specs.declared.player.Player.TheVariants.{Even, Odd}
pub use Rattle.pg_list_lemmas.proofs.Contained.{contains_none}
pub use Rattle.pg_list_lemmas.proofs.Steps.{chosen, none_is_some, some, some_is}
pub use Rattle.pg_map.proofs.Bests.{BestSoFar, left, taken}
pub use Rattle.pg_map.proofs.GameLines.{game_line_at}
pub use Rattle.pg_map.proofs.Lifts.{least_serving}
pub use Rattle.pg_map.specs.Laws.{ZeroMapIsLeast}
pub use Rattle.pg_map.specs.Lemmas.Orders.{map_transitive, maps_same}
pub use Rattle.pg_map.specs.Lines.{Line, game_line, line_at, only}
pub use Rattle.pg_map.specs.Maps.{IsClosed, IsJoin, IsLeastServing, IsLifted, IsMap, IsNeverAbove, IsServed, MapAtMost, SomeOrAll}
pub use Rattle.pg_map.specs.Maps.{measure_at, update_map, zero_map}
pub use Rattle.pg_map.specs.Mirrors.Tables.{IsBest, IsBetter}
pub use Rattle.pg_map.specs.declared.update.Update.{Update}
pub use Rattle.pg_measure.proofs.Order.{at_most_same, below_is, more_covers}
pub use Rattle.pg_measure.specs.Games.{IsBoundsOf}
pub use Rattle.pg_measure.specs.Laws.{OrderIsTotal}
pub use Rattle.pg_measure.specs.Measures.{AtMost, BoundList, Covers, Fits, IsBelow, IsLeastStep, MeasureValue, OwnedMeasure, is_odd}
pub use Rattle.pg_measure.specs.Measures.{measure_from, width_from, zeros}
pub use Rattle.pg_measure.specs.Mirrors.Rows.{FrontAtMost}
pub use Rattle.pg_coord_partition.specs.Cuts.{CutValue, even_worker, worker_of}
pub use Rattle.pg_text.proofs.Answering.{same_vertex}
pub use Rattle.pg_text.proofs.Lexing.{token_again}
pub use Rattle.pg_text.proofs.Parts.{clause_takes, clause_there, end_again, end_takes, name_again, name_takes, natural_again, natural_takes}
pub use Rattle.pg_text.proofs.Parts.{numbers_again, numbers_take, semicolon_again, semicolon_takes}
pub use Rattle.pg_text.proofs.Spelling.{begins_shorter, spells_append, spells_parts, spells_within}
pub use Rattle.pg_text.proofs.Steps.{bind_ok, err_is_ok, ok, ok_is, same_ok}
pub use Rattle.pg_text.specs.Lexemes.{Begins, Lexeme, Spells, clause_lexemes, end, number, semicolon, word}
pub use Rattle.pg_text.specs.Mirrors.Parts.{clause_at, end_at, natural_at, numbers_at, semicolon_at}
unfoldable pub use Rattle.pg_text.specs.Mirrors.Parts.{name_at}
pub use Rattle.pg_text.specs.Mirrors.Steps.{Fails, Read, unexpected, ◌>>=◌}
pub use Rattle.pg_text.specs.declared.reading.Refusal.{Refusal}
pub use Rattle.pg_text.specs.declared.reading.Refusal.TheVariants.{Memory, Token}
pub use Rattle.pg_text.specs.declared.tokens.TokenFault.{TokenFault}
pub use Rattle.pg_world.specs.Laws.{AreTakenToo}
pub use Rattle.pg_world.specs.Mirrors.Kept.{AreReplicas, ComeFrom, IsCovered, IsMade, IsReplica, IsWorld, LiftsTo, Raises, shown, shown_by}
pub use Rattle.pg_world.specs.Mirrors.Kept.{viewed}
pub use Rattle.pg_world.specs.Mirrors.MapLaws.{MapLaws}
pub use Rattle.pg_world.specs.Mirrors.ScriptReading.{AreEvents, IsEventAt, IsHead, IsNoScript, IsOnlyHead, line_of}
pub use Rattle.pg_world.specs.Mirrors.ScriptScan.{cut_in, end_or, next_in, refusal_in}
unfoldable pub use Rattle.pg_world.specs.Mirrors.ScriptScan.{cut_at, next_line_at, one_at, two_at}
pub use Rattle.pg_world.specs.ScriptText.{IsCutOf, IsScriptText, cut_lexemes, event_lexemes, events_lexemes, head_lexemes}
pub use Rattle.pg_world.specs.Updates.{IsJoinOf, UpdateValue, map_of_update, update_at, update_value}
pub use Rattle.pg_world.specs.Worlds.{IsEventOf, IsMapOf, Lifts, Runs, Steps, WorldValue, forgetting, is_worker, making, new_world, refusal}
pub use Rattle.pg_world.specs.Worlds.{taken_of, taking}
pub use Rattle.pg_world.specs.declared.event.Event.{Event}
pub use Rattle.pg_world.specs.declared.event.Event.TheVariants.{CoordinatorLift, Deliver, Lift, Restart}
pub use Rattle.pg_world.specs.declared.fault.WorldFault.{WorldFault}
pub use Rattle.pg_world.specs.declared.fault.WorldFault.TheVariants.{NoSuchReplica, NoSuchUpdate, NotMine}
pub use Rattle.pg_world.specs.declared.replica.TheConstants.{NO_UPDATE}
pub use Rattle.pg_world.specs.declared.script.TheConstants.{MAX_WORKERS}
pub use Rattle.pg_world.specs.declared.script_fault.ScriptFault.{ScriptFault}
pub use Rattle.pg_world.specs.declared.script_fault.ScriptFault.TheVariants.{CutMismatch, NoVertex, NumberTooLarge, OutOfMemory, Syntax}
pub use Rattle.pg_world.specs.declared.script_line.ScriptLine.{ScriptLine}
pub use Rattle.pg_world.specs.declared.script_line.ScriptLine.TheVariants.{Central}
