-- What `verify --environment` prints.
use Rattle.std.specs.Prelude.{◌≡◌, ℕ, ◌<◌, ◌⊎◌, Bool, true, false, List, ◌++◌, length, codes}
use Rattle.pg_hoa_automaton.specs.Automata.{Automaton}
use Rattle.pg_hoa.specs.AutomatonText.{Spelt}
use Rattle.pg_synth.specs.declared.fault.SynthFault.TheVariants as synth
use Rattle.pg_aiger.specs.Circuits.{Circuit, output_at}
use Rattle.pg_aiger.specs.CircuitText.{Symbol}
use Rattle.pg_aiger_netlist.specs.Netlists.{IsAcyclic, IsFaultOf, variable}
use Rattle.pg_aiger_netlist.specs.Hearing.{Hears, IsMoore}
use Rattle.pg_aiger_reader.specs.Texts.{IsRead, SpellsNone}
use Rattle.pg_aiger_reader.specs.Faults.{Refuses}
use Rattle.pg_aiger_reader.specs.Ties.{IsTied}
use Rattle.pg_verify.specs.Products.{HasLargeGame}
use Rattle.pg_verify.specs.Reached.{HasTooManyStates}
use Rattle.pg_verify.specs.declared.fault.VerifyFault.TheVariants as verify
use Rattle.pg_verify_environment.specs.Counterparts.{IsCounterpart, IsTooLarge}
use Rattle.pg_verify_environment.specs.Environments.{Says}
use Rattle.pg_verify_environment.specs.declared.outcome.EnvironmentVerdict.{EnvironmentVerdict}
use Rattle.pg_verify_environment.specs.declared.outcome.EnvironmentVerdict.TheVariants.{Refutes, Answered}
use Rattle.pg_cli_command.specs.Parts.{Parting}
use Rattle.pg_cli_command.specs.Measuring.{MapKind}
use Rattle.pg_cli_command.specs.Making.{IsNoAutomaton}
use Rattle.pg_cli_command.specs.Verifying.{letter_lines, IsVerified, FailsFirstText, FailsSecondText, IsUntied, IsUndecidedOn, RefusesVerify}
use Rattle.pg_cli_command.specs.declared.fault.CliFault.{CliFault}
use Rattle.pg_cli_command.specs.declared.fault.CliFault.TheVariants as cli
use Rattle.pg_cli_command.specs.declared.fault.CliFault.TheVariants.{NoSeparator, Hoa, Tie, Netlist, Verify, Hearing, Synth, Undecided}

-- `REFUTES`; or `FAILS`, lines, a line `loop`, and the lines that repeat
abbrev pub outcome_text : List ℕ → List ℕ → EnvironmentVerdict → List ℕ
outcome_text given tied Refutes = codes "REFUTES\n"
outcome_text given tied (Answered stem loop) =
    codes "FAILS\n" ++ (letter_lines given tied stem.items ++ (codes "loop\n" ++ letter_lines given tied loop.items))

-- The first of two texts spells an automaton, the second a circuit that plays the environment: its inputs are the propositions that the
-- controller sets, its outputs the others. The same circuit, with its inputs and outputs in the order of the automaton's propositions, is
-- tied to the automaton's counterpart, in which controller and environment swap their propositions.
pub record AreOpposed (Parts : Parting) (by_place : Bool) (automaton : Automaton) (given tied : Circuit) : Type 0 where
  pub first : List ℕ
  pub second : List ℕ
  pub parted : Parts first second
  pub spelt : Spelt first automaton
  pub symbols : List Symbol
  pub read : IsRead second given symbols
  pub twin : Automaton
  pub counterpart : IsCounterpart automaton twin
  pub tied_by : IsTied by_place twin given symbols tied

-- No output of the circuit depends on an input of the same step, and what is printed is the text of a correct outcome.
pub record IsRefuted (Parts : Parting) (by_place : Bool) (output : List ℕ) : Type 0 where
  pub automaton : Automaton
  pub given : Circuit
  pub tied : Circuit
  pub opposed : AreOpposed Parts by_place automaton given tied
  pub acyclic : IsAcyclic tied
  pub moore : IsMoore tied
  pub outcome : EnvironmentVerdict
  pub says : Says automaton opposed.spelt.says.condition tied outcome
  pub printed : output ≡ outcome_text given.inputs tied.inputs outcome

-- ---- what is refused

-- the texts spell an automaton and a circuit that plays the environment, and P holds for the automaton's counterpart and the circuit
abbrev pub IsOpposedPair : Parting → Bool → (Automaton → Circuit → Type 0) → Type 0
IsOpposedPair Parts by_place P =
    (a : Automaton) × (given : Circuit) × (tied : Circuit) × (opposed : AreOpposed Parts by_place a given tied) × P opposed.twin tied

-- the automaton that the first text spells has a counterpart, and the second text fails for this counterpart
abbrev pub FailsBeside : Parting → (Automaton → List ℕ → Type 0) → Type 0
FailsBeside Parts Fails = FailsSecondText Parts (λ a second. (twin : Automaton) × IsCounterpart a twin × Fails twin second)

-- Why an input has no such output: for a reason of `verify`, with the propositions swapped; or the automaton is too large to have a
-- counterpart; or an output depends on an input of the same step.
abbrev pub RefusesRefute : MapKind → Parting → Bool → CliFault → Type 0
RefusesRefute Kind Parts by_place NoSeparator = (first second : List ℕ) → ¬ Parts first second
RefusesRefute Kind Parts by_place (Hoa fault) = FailsFirstText Parts (λ first. IsNoAutomaton first fault)
RefusesRefute Kind Parts by_place (cli.Circuit fault) = FailsBeside Parts (λ twin second. SpellsNone second × Refuses second fault)
RefusesRefute Kind Parts by_place (Tie fault) = FailsBeside Parts (IsUntied by_place fault)
RefusesRefute Kind Parts by_place (Netlist fault) = IsOpposedPair Parts by_place (λ twin tied. IsFaultOf tied fault)
RefusesRefute Kind Parts by_place (Hearing place) =
    IsOpposedPair Parts by_place (λ twin tied. IsAcyclic tied × (place < length tied.outputs) × Hears tied (variable (output_at tied place)))
RefusesRefute Kind Parts by_place (Verify verify.TooLarge) =
    FailsFirstText Parts (λ first. (a : Automaton) × Spelt first a × IsTooLarge a)
    ⊎ IsOpposedPair Parts by_place (λ twin tied. IsAcyclic tied × HasTooManyStates twin tied)
RefusesRefute Kind Parts by_place (Synth synth.TooLarge) = IsOpposedPair Parts by_place (λ twin tied. IsAcyclic tied × HasLargeGame twin tied)
RefusesRefute Kind Parts by_place (Undecided id) = IsOpposedPair Parts by_place (λ twin tied. IsAcyclic tied × IsUndecidedOn Kind twin tied id)
RefusesRefute Kind Parts by_place _ = ⊥

-- ---- for either player

-- what `verify` prints for a circuit that plays the environment, or for a controller
abbrev pub IsLookedAt : Bool → Parting → Bool → List ℕ → Type 0
IsLookedAt true Parts by_place = IsRefuted Parts by_place
IsLookedAt false Parts by_place = IsVerified Parts by_place

abbrev pub RefusesLook : Bool → MapKind → Parting → Bool → CliFault → Type 0
RefusesLook true Kind Parts by_place = RefusesRefute Kind Parts by_place
RefusesLook false Kind Parts by_place = RefusesVerify Kind Parts by_place
