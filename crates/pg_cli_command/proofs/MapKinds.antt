-- Answers by maps of one kind, each of which is of another.
use Rattle.pg_cli_command.proofs.Common.{ℕ, List, Option, Some, None, Result, Ok, Err, inl, inr, IfSome, Player, GameVertex, MapValue, Answer}
use Rattle.pg_cli_command.proofs.Common.{MapKind, IsClosedMapOf, IsMeasureOf, IsMeasured, IsSolvedBy, IsSolved, IsUndecidedIn, IsUndecidedAt}
use Rattle.pg_cli_command.proofs.Common.{RefusesSolve, IsWonFor, IsRealized, IsSynthesised, IsUndecidedFor, HasLargeMachine, RefusesSynth}
use Rattle.pg_cli_command.proofs.Common.{Meaning, meaning_of, PrintsBy, RefusesBy, Answers, Command, Measure, Solve, SolveAny, CliFault}
use Rattle.pg_hoa_automaton.specs.Automata.{Automaton}
use Rattle.pg_aiger.specs.Circuits.{Circuit}
use Rattle.pg_aiger.specs.declared.fault.AigerFault.TheVariants as aiger
use Rattle.pg_synth.specs.declared.fault.SynthFault.TheVariants as synth
use Rattle.pg_cli_words.specs.declared.command.Command.TheVariants.{Synth, SynthSmall, SynthCounter, Verify}
use Rattle.pg_verify.specs.declared.fault.VerifyFault.TheVariants as verify
use Rattle.pg_cli_command.specs.Parts.{Parting, IsParted}
use Rattle.pg_cli_command.specs.Small.{IsSynthesisedSmall}
use Rattle.pg_cli_command.specs.Counter.{IsSynthesisedCounter, RefusesCounter}
use Rattle.pg_cli_command.specs.Verifying.{IsUndecidedOn, RefusesVerify}
use Rattle.pg_cli_command.specs.Refuting.{RefusesRefute, RefusesLook}
use Rattle.std.specs.Prelude.{Bool, true, false}
use Rattle.pg_cli_command.specs.declared.fault.CliFault.TheVariants as cli

-- the least progress measure is closed
pub least_closed : (game : List GameVertex) (map : MapValue) → IsMeasureOf game map → IsClosedMapOf game map
least_closed game map m = record {
  bounds = m.bounds;
  fits = m.least.map;
  closed = m.least.closed;
}

-- What is said by maps of the kind is said by those of the other. A command that solves nothing says the same by any.
record SaysToo (one other : Meaning) : Type 0 where
  prints : (output : List ℕ) → one.prints output → other.prints output
  refuses : (fault : CliFault) → one.refuses fault → other.refuses fault

module _ (Kind Other : MapKind) (is_other : (game : List GameVertex) (map : MapValue) → Kind game map → Other game map) where
  pub measured_too : (input output : List ℕ) → IsMeasured Kind input output → IsMeasured Other input output
  measured_too input output m = record { game = m.game; spelt = m.spelt; map = m.map; found = is_other m.game m.map m.found; printed = m.printed }

  pub solved_by_too : (game : List GameVertex) (solution : List Answer) → IsSolvedBy Kind game solution → IsSolvedBy Other game solution
  solved_by_too game solution s = record {
    even = s.even;
    odd = s.odd;
    even_found = is_other _ s.even s.even_found;
    odd_found = is_other _ s.odd s.odd_found;
    solution_of = s.solution_of;
  }

  solved_too : (input output : List ℕ) → IsSolved Kind input output → IsSolved Other input output
  solved_too input output s = record {
    game = s.game;
    spelt = s.spelt;
    identifiers = s.identifiers;
    solution = s.solution;
    solved = solved_by_too s.game s.solution s.solved;
    printed = s.printed;
  }

  undecided_in_too : (game : List GameVertex) (id : ℕ) → IsUndecidedIn Kind game id → IsUndecidedIn Other game id
  undecided_in_too game id u = record {
    even = u.even;
    odd = u.odd;
    even_found = is_other _ u.even u.even_found;
    odd_found = is_other _ u.odd u.odd_found;
    undecided = u.undecided;
  }

  undecided_at_too : (input : List ℕ) (id : ℕ) → IsUndecidedAt Kind input id → IsUndecidedAt Other input id
  undecided_at_too input id u = record { game = u.game; spelt = u.spelt; undecided = undecided_in_too u.game id u.undecided }

  undecided_for_too : (input : List ℕ) (id : ℕ) → IsUndecidedFor Kind input id → IsUndecidedFor Other input id
  undecided_for_too input id u = record { game = u.game; made = u.made; limits = u.limits; undecided = undecided_in_too u.game id u.undecided }

  won_too : (input : List ℕ) (player : Player) → IsWonFor Kind input player → IsWonFor Other input player
  won_too input player w = record {
    automaton = w.automaton;
    spelt = w.spelt;
    is_automaton = w.is_automaton;
    game = w.game;
    limits = w.limits;
    initial = w.initial;
    solution = w.solution;
    solved = solved_by_too w.game w.solution w.solved;
    won = w.won;
  }

  realized_too : (input output : List ℕ) → IsRealized Kind input output → IsRealized Other input output
  unfolding won_too
  realized_too input output r = record {
    circuit = r.circuit;
    realized = record {
      even = won_too input _ r.realized.even;
      machine = r.realized.machine;
      follows = r.realized.follows;
      within = r.realized.within;
      circuit_of = r.realized.circuit_of;
    };
    printed = r.printed;
  }

  synthesised_too : (input output : List ℕ) → IsSynthesised Kind input output → IsSynthesised Other input output
  synthesised_too input output (inl r) = inl (realized_too input output r)
  synthesised_too input output (inr u) = inr (record { odd = won_too input _ u.odd; printed = u.printed })

  small_too : (input output : List ℕ) → IsSynthesisedSmall Kind input output → IsSynthesisedSmall Other input output
  small_too input output (inl s) = inl s
  small_too input output (inr a) = inr (synthesised_too input output a)

  countered_too : (input output : List ℕ) → IsSynthesisedCounter Kind input output → IsSynthesisedCounter Other input output
  countered_too input output (inl r) = inl (realized_too input output r)
  countered_too input output (inr c) = inr (record { odd = won_too input _ c.0.odd; printed = c.0.printed }, c.1)

  large_too : (input : List ℕ) → HasLargeMachine Kind input → HasLargeMachine Other input
  unfolding won_too
  large_too input l = record { even = won_too input _ l.even; machine = l.machine; follows = l.follows; over = l.over }

  unsolved_too : (input : List ℕ) (fault : CliFault) → RefusesSolve Kind input fault → RefusesSolve Other input fault
  unsolved_too input (cli.Undecided id) why = undecided_at_too input id why
  unsolved_too input _ why = why

  unsynthesised_too : (input : List ℕ) (fault : CliFault) → RefusesSynth Kind input fault → RefusesSynth Other input fault
  unsynthesised_too input (cli.Undecided id) why = undecided_for_too input id why
  unsynthesised_too input (cli.Synth synth.TooLarge) why = why
  unsynthesised_too input (cli.Aiger aiger.TooLarge) why = large_too input why
  unsynthesised_too input _ why = why

  uncountered_too : (input : List ℕ) (fault : CliFault) → RefusesCounter Kind input fault → RefusesCounter Other input fault
  uncountered_too input cli.NoCounter why = record { odd = won_too input _ why.odd; printed = why.printed }
  uncountered_too input fault why = unsynthesised_too input fault why

  undecided_on_too : (a : Automaton) (circuit : Circuit) (id : ℕ) → IsUndecidedOn Kind a circuit id → IsUndecidedOn Other a circuit id
  undecided_on_too a circuit id u = record {
    product = u.product;
    product_of = u.product_of;
    game = u.game;
    game_of = u.game_of;
    limits = u.limits;
    undecided = undecided_in_too u.game id u.undecided;
  }

  unverified_too : (Parts : Parting) (by_place : Bool) (fault : CliFault) → RefusesVerify Kind Parts by_place fault
      → RefusesVerify Other Parts by_place fault
  unverified_too Parts by_place (cli.Undecided id) (a, given, tied, paired, (acyclic, why)) =
      (a, given, tied, paired, (acyclic, undecided_on_too a tied id why))
  unverified_too Parts by_place (cli.Verify verify.TooLarge) why = why
  unverified_too Parts by_place (cli.Synth synth.TooLarge) why = why
  unverified_too Parts by_place _ why = why

  unrefuted_too : (Parts : Parting) (by_place : Bool) (fault : CliFault) → RefusesRefute Kind Parts by_place fault
      → RefusesRefute Other Parts by_place fault
  unrefuted_too Parts by_place (cli.Undecided id) (a, given, tied, opposed, (acyclic, why)) =
      (a, given, tied, opposed, (acyclic, undecided_on_too opposed.twin tied id why))
  unrefuted_too Parts by_place (cli.Verify verify.TooLarge) why = why
  unrefuted_too Parts by_place (cli.Synth synth.TooLarge) why = why
  unrefuted_too Parts by_place _ why = why

  unlooked_too : (environment : Bool) (Parts : Parting) (by_place : Bool) (fault : CliFault) → RefusesLook environment Kind Parts by_place fault
      → RefusesLook environment Other Parts by_place fault
  unlooked_too true Parts by_place fault why = unrefuted_too Parts by_place fault why
  unlooked_too false Parts by_place fault why = unverified_too Parts by_place fault why

  says_too : (command : Command) (input : List ℕ) → SaysToo (meaning_of Kind command input) (meaning_of Other command input)
  says_too (Measure workers) input = record { prints = measured_too input; refuses = λ fault why. why }
  says_too (Solve workers) input = record { prints = solved_too input; refuses = unsolved_too input }
  says_too (SolveAny workers) input = record { prints = λ output a. a; refuses = unsolved_too input }
  says_too (Synth workers) input = record { prints = synthesised_too input; refuses = unsynthesised_too input }
  says_too (SynthSmall workers) input = record { prints = small_too input; refuses = unsynthesised_too input }
  says_too (SynthCounter workers) input = record { prints = countered_too input; refuses = uncountered_too input }
  says_too (Verify workers by_place environment) input = record {
    prints = λ output a. a;
    refuses = unlooked_too environment (IsParted input) by_place;
  }
  says_too _ input = record { prints = λ output a. a; refuses = λ fault why. why }

  pub prints_too : (command : Command) (input output : List ℕ) → PrintsBy Kind command input output → PrintsBy Other command input output
  prints_too command input output p = record { limit = p.limit; answer = (says_too command input).prints output p.answer }

  refuses_too : (command : Command) (input : List ℕ) (fault : CliFault) → RefusesBy Kind command input fault → RefusesBy Other command input fault
  refuses_too command input cli.OutOfMemory why = why
  refuses_too command input cli.Read why = why
  refuses_too command input cli.Write why = (why.0, prints_too command input why.0 why.1)
  refuses_too command input cli.InputTooLong why = why
  refuses_too command input fault why = (why.0, (says_too command input).refuses fault why.1)

  pub answers_too : (command : Command) (input : List ℕ) (old new : Option (List ℕ)) (result : Result (Unit {0}) CliFault)
      → Answers Kind command input old new result → Answers Other command input old new result
  answers_too command input old new (Ok done) a = (a.0, prints_too command input a.0 a.1, a.2)
  answers_too command input old new (Err fault) why = refuses_too command input fault why

  -- where the input is known
  pub known_too : (command : Command) (known old new : Option (List ℕ)) (result : Result (Unit {0}) CliFault)
      → IfSome known (λ input. Answers Kind command input old new result) → IfSome known (λ input. Answers Other command input old new result)
  known_too command None old new result a = tt
  known_too command (Some input) old new result a = answers_too command input old new result a
