-- The names that the proofs of this crate cite from elsewhere, passed on from one place. Declares nothing.
pub use Rattle.std.proofs.Common.{ap, arith, inl, inr, refl, subst, sym, ◌∙◌}
pub use Rattle.std.proofs.lemmas.Bool.{cases_lt}
pub use Rattle.std.proofs.lemmas.List.{get_or-map, get_or_past, length-map, length-replicate}
pub use Rattle.std.proofs.lemmas.List.Elements.{All-contains}
pub use Rattle.std.specs.Option.{IsSome}
pub use Rattle.std.specs.Prelude.{All, Bool, List, None, Option, false, if◌then◌else◌, length, slice_index_or, true, ℕ, ◌+◌, ◌<◌, ◌≡◌, ◌⊎◌}
pub use Rattle.pg_arena.specs.Games.{GameVertex, IsGame, dual}
pub use Rattle.pg_arena.specs.Lemmas.Duals.{game_dual, length_dual}
pub use Rattle.pg_arena.specs.declared.player.Player.{Player}
pub use Rattle.pg_arena.specs.declared.player.Player.TheVariants.{Even, Odd}
pub use Rattle.pg_map_claims.specs.Known.{known_map}
pub use Rattle.pg_map_lift.specs.Mirrors.Lifters.{LifterValue, Lifts}
pub use Rattle.pg_solver.specs.Mirrors.Zeros.{IsAtZero}
pub use Rattle.pg_map.proofs.Above.{fits_at, lift_stays_under, stays_trans}
pub use Rattle.pg_map.proofs.Duals.{dual_at, dual_held, held_dual}
pub use Rattle.pg_map.proofs.Joins.{at_most_top, zero_map_least}
pub use Rattle.pg_map.proofs.Least.{least_from_zero}
pub use Rattle.pg_map.proofs.Parting.{both_serve, is_top, none_both}
pub use Rattle.pg_map.proofs.Weights.{lift_falls}
pub use Rattle.pg_map.specs.Laws.{GameLines, GameLinesAreDual}
pub use Rattle.pg_map.specs.Lines.{AreDual, AreWithin, Line, game_line, line_at}
pub use Rattle.pg_map.specs.Maps.{IsClosed, IsLeastClosedFrom, IsLeastProgressMeasure, IsMap, IsNeverAbove, MapValue, SomeOrAll, StaysUnder}
pub use Rattle.pg_map.specs.Maps.{measure_at, zero_map}
pub use Rattle.pg_map.specs.Weights.{map_weight}
pub use Rattle.pg_measure.proofs.Rows.{zero_least}
pub use Rattle.pg_measure.specs.Measures.{AtMost, BoundList, Covers, Fits, MeasureValue, zeros}
pub use Rattle.pg_solver.specs.Mirrors.Known.{AreKnownFrom, AreOpposite, IsKnownFrom}
pub use Rattle.pg_solver.specs.Mirrors.Raised.{IsRaised}
