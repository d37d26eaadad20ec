-- The names that the proofs of this crate cite from elsewhere, passed on from one place. Declares nothing.
pub use Rattle.std.proofs.Common.{ap, arith, inl, inr, length-append, ltb, refl, subst, sym, ◌∙◌}
pub use Rattle.std.proofs.Math.Nat.{mul_comm}
pub use Rattle.std.proofs.Math.Seq.{get_or-append_seam}
pub use Rattle.std.proofs.lemmas.Bool.{cases_Bool, cases_eq, cases_lt}
pub use Rattle.std.proofs.lemmas.Bool.Decides.{nat_tests}
pub use Rattle.std.proofs.lemmas.List.{get_or_append_left, get_or_past}
pub use Rattle.std.proofs.lemmas.List.Elements.{All-contains}
pub use Rattle.std.proofs.lemmas.Nat.{div-mul-add, mod-mul-add, mod_below, mul-add-lt, pow_pos}
pub use Rattle.std.specs.Prelude.{Bool, IsSome, List, None, Option, Some, cond, eqb, [], false, get_or, is_some, length, suc, true, zero, ℕ}
pub use Rattle.std.specs.Prelude.{◌++◌, ◌%◌, ◌*◌, ◌+◌, ◌-◌, ◌/◌, ◌<◌, ◌^◌, ◌↔◌, ◌∷◌, ◌≡◌, ◌≤◌}
pub use Rattle.pg_hoa_automaton.proofs.Collections.{not_not_collected}
pub use Rattle.pg_hoa_automaton.specs.Automata.{Automaton, IsAutomaton, IsStepOf, Step, letters, next, step}
pub use Rattle.pg_hoa_automaton.specs.Formulas.{Formula, holds}
pub use Rattle.pg_hoa_automaton.specs.Shapes.{FitsShape}
pub use Rattle.pg_hoa_automaton.specs.Words.{HoldsRecurring, IsAccepted, IsWord, SetRecurs, sets_of, state_after, step_at, step_from, target_of}
pub use Rattle.pg_hoa_automaton.specs.declared.shape.Shape.{Shape}
pub use Rattle.pg_hoa_automaton.specs.declared.shape.Shape.TheVariants.{MaxEven}
pub use Rattle.pg_check.proofs.Recurring.{parity_of}
pub use Rattle.pg_synth.proofs.Accepting.{HasShape, shape_of_fits}
pub use Rattle.pg_synth.proofs.Ranks.{deciding_cases}
pub use Rattle.pg_synth.proofs.Recurs.{Meets}
pub use Rattle.pg_synth.proofs.Trace.{dead_on, halves, state_in}
pub use Rattle.pg_synth.specs.AutomatonGames.{arrival_of, none_priority, place_priority, set_priority}
