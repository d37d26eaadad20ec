-- Why there is no look at a circuit.
use Rattle.pg_hoa_automaton.specs.Automata.{Automaton}
use Rattle.pg_synth.specs.declared.fault.SynthFault.TheVariants as synth
use Rattle.pg_aiger.specs.Circuits.{Circuit}
use Rattle.pg_verify.specs.Products.{HasLargeGame}
use Rattle.pg_verify.specs.Reached.{HasTooManyStates}
use Rattle.pg_verify.specs.declared.fault.VerifyFault.TheVariants as verify
use Rattle.pg_cli_command.specs.Measuring.{MapKind}
use Rattle.pg_cli_command.specs.Verifying.{IsUndecidedOn}
use Rattle.pg_cli_command.specs.declared.fault.CliFault.{CliFault}
use Rattle.pg_cli_command.specs.declared.fault.CliFault.TheVariants.{OutOfMemory, Verify, Synth, Undecided}

-- memory ran out, or circuit and automaton are too large together, or both maps of their game are top at some vertex
abbrev pub IsUnlooked : MapKind → Automaton → Circuit → CliFault → Type 0
IsUnlooked Kind a circuit OutOfMemory = Unit {0}
IsUnlooked Kind a circuit (Verify verify.TooLarge) = HasTooManyStates a circuit
IsUnlooked Kind a circuit (Synth synth.TooLarge) = HasLargeGame a circuit
IsUnlooked Kind a circuit (Undecided id) = IsUndecidedOn Kind a circuit id
IsUnlooked Kind a circuit _ = ⊥
