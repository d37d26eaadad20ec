use Rattle.std.proofs.Common.{◌≢◌, ◌∷◌, [], false, ℕ, ◌<◌, List, get_or, lit<, arith}
use Rattle.pg_cli_words.specs.declared.command.Command.{Command}
use Rattle.pg_cli_words.specs.declared.command.Command.TheVariants.{Measure, Solve, SolveAny, Check, Replay, Automaton, Means, Game, Synth, SynthSmall, SynthCounter, Verify, VerifyFormula}
use Rattle.pg_cli_words.specs.Commands.{command_name}
use Rattle.pg_cli_words.proofs.command.Command.named.Goals as goal

-- a name that is none of those in the order of the help is no command's
unnamed : (name : List ℕ) (workers : ℕ) → ((k : ℕ) → k < 9 → name ≢ command_name (get_or (Measure workers ∷ Solve workers ∷ Check ∷ Replay
    ∷ Automaton ∷ Means ∷ Game ∷ Synth workers ∷ Verify workers false false ∷ []) k Check)) → (command : Command) → name ≢ command_name command
unnamed name workers none (Measure n) = none 0 (lit< tt)
unnamed name workers none (Solve n) = none 1 (lit< tt)
unnamed name workers none (SolveAny n) = none 1 (lit< tt)
unnamed name workers none Check = none 2 (lit< tt)
unnamed name workers none Replay = none 3 (lit< tt)
unnamed name workers none Automaton = none 4 (lit< tt)
unnamed name workers none Means = none 5 (lit< tt)
unnamed name workers none Game = none 6 (lit< tt)
unnamed name workers none (Synth n) = none 7 (lit< tt)
unnamed name workers none (SynthSmall n) = none 7 (lit< tt)
unnamed name workers none (SynthCounter n) = none 7 (lit< tt)
unnamed name workers none (Verify n by_place environment) = none 8 (lit< tt)
unnamed name workers none (VerifyFormula environment) = none 8 (lit< tt)

pub returns-clause-unknown : goal.returns-clause-unknown
returns-clause-unknown c =
    let done = c.loop-command-test.false in
    let none = rw c.all-command-items.ensures at c.loop-command.invariant in
    unnamed c.args.name.now c.args.workers (λ k lt. none k (omega arith))
