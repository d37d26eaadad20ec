-- The names of commands, and how many workers they have.
use Rattle.std.specs.Prelude.{ℕ, List, Option, Some, None, codes}
use Rattle.pg_cli_words.specs.declared.command.Command.{Command}
use Rattle.pg_cli_words.specs.declared.command.Command.TheVariants.{Measure, Solve, SolveAny, Check, Replay, Automaton, Means, Game, Synth, SynthSmall, SynthCounter, Verify, VerifyFormula}

-- the word that names a command
abbrev pub command_name : Command → List ℕ
command_name (Measure workers) = codes "measure"
command_name (Solve workers) = codes "solve"
command_name (SolveAny workers) = codes "solve"
command_name Check = codes "check"
command_name Replay = codes "replay"
command_name Automaton = codes "automaton"
command_name Means = codes "means"
command_name Game = codes "game"
command_name (Synth workers) = codes "synth"
command_name (SynthSmall workers) = codes "synth"
command_name (SynthCounter workers) = codes "synth"
command_name (Verify workers by_place environment) = codes "verify"
command_name (VerifyFormula environment) = codes "verify"

-- how many workers solve for a command; None if it solves nothing
abbrev pub workers_of : Command → Option ℕ
workers_of (Measure workers) = Some workers
workers_of (Solve workers) = Some workers
workers_of (SolveAny workers) = Some workers
workers_of Check = None
workers_of Replay = None
workers_of Automaton = None
workers_of Means = None
workers_of Game = None
workers_of (Synth workers) = Some workers
workers_of (SynthSmall workers) = Some workers
workers_of (SynthCounter workers) = Some workers
workers_of (Verify workers by_place environment) = Some workers
workers_of (VerifyFormula environment) = None
