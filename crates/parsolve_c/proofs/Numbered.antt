-- The number of a command, from the command.
use Rattle.std.proofs.Common.{◌≡◌, ℕ, zero, suc, ◌<◌, ◌≤◌, eqb, false, Option, None, Some, refl, sym, ap, ◌∙◌, inl, inr, ◌⊎◌, arith}
use Rattle.std.proofs.lemmas.Bool.{cases_lt, ne_eqb}
use Rattle.pg_cli_words.specs.declared.command.Command.{Command}
use Rattle.pg_cli_words.specs.declared.command.Command.TheVariants.{Measure, Solve, SolveAny, Check, Replay, Automaton, Means, Game, Synth, SynthSmall, SynthCounter, Verify, VerifyFormula}
use Rattle.parsolve_c.specs.Commands.{command_of, NumbersTellApart}

abbrev number_in : Option Command → ℕ
number_in None = 13
number_in (Some (Measure workers)) = 0
number_in (Some (Solve workers)) = 1
number_in (Some Check) = 2
number_in (Some Replay) = 3
number_in (Some Game) = 4
number_in (Some (Synth workers)) = 5
number_in (Some (SolveAny workers)) = 6
number_in (Some (Verify workers by_place environment)) = 7
number_in (Some (SynthSmall workers)) = 8
number_in (Some Automaton) = 9
number_in (Some Means) = 10
number_in (Some (SynthCounter workers)) = 11
number_in (Some (VerifyFormula environment)) = 12

number_back : (n : ℕ) → n < 13 → number_in (command_of n) ≡ n
number_back zero lt = refl
number_back (suc zero) lt = refl
number_back (suc (suc zero)) lt = refl
number_back (suc (suc (suc zero))) lt = refl
number_back (suc (suc (suc (suc zero)))) lt = refl
number_back (suc (suc (suc (suc (suc zero))))) lt = refl
number_back (suc (suc (suc (suc (suc (suc zero)))))) lt = refl
number_back (suc (suc (suc (suc (suc (suc (suc zero))))))) lt = refl
number_back (suc (suc (suc (suc (suc (suc (suc (suc zero)))))))) lt = refl
number_back (suc (suc (suc (suc (suc (suc (suc (suc (suc zero))))))))) lt = refl
number_back (suc (suc (suc (suc (suc (suc (suc (suc (suc (suc zero)))))))))) lt = refl
number_back (suc (suc (suc (suc (suc (suc (suc (suc (suc (suc (suc zero))))))))))) lt = refl
number_back (suc (suc (suc (suc (suc (suc (suc (suc (suc (suc (suc (suc zero)))))))))))) lt = refl
number_back (suc (suc (suc (suc (suc (suc (suc (suc (suc (suc (suc (suc (suc n))))))))))))) lt = absurd (omega arith)

no_command : (n : ℕ) → 13 ≤ n → command_of n ≡ None
no_command n over = rw (
  off 0 (omega arith),
  off 1 (omega arith),
  off 2 (omega arith),
  off 3 (omega arith),
  off 4 (omega arith),
  off 5 (omega arith),
  off 6 (omega arith),
  off 7 (omega arith),
  off 8 (omega arith),
  off 9 (omega arith),
  off 10 (omega arith),
  off 11 (omega arith),
  off 12 (omega arith),
) refl
  where
    off : (k : ℕ) → k < 13 → eqb n k ≡ false
    off k lt = ne_eqb n k (λ e. absurd (omega arith))

-- the command says its number
numbered : (n : ℕ) (command : Command) → command_of n ≡ Some command → (n < 13) ⊎ (13 ≤ n) → n ≡ number_in (Some command)
numbered n command is (inl lt) = sym (number_back n lt) ∙ ap number_in is
numbered n command is (inr over) = let none = sym (no_command n over) ∙ is in cc

pub numbers_tell_apart : NumbersTellApart
numbers_tell_apart = record {
  measure = refl;
  solve = refl;
  check = refl;
  replay = refl;
  game = refl;
  synth = refl;
  solve_any = refl;
  verify = refl;
  synth_small = refl;
  automaton = refl;
  means = refl;
  synth_counter = refl;
  verify_formula = refl;
  one_number = λ m n command a b. numbered m command a (cases_lt m 13) ∙ sym (numbered n command b (cases_lt n 13));
}
