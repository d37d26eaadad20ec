-- What `verify` prints.
use Rattle.std.specs.Prelude.{◌≡◌, ℕ, ◌==◌, ◌/◌, ◌%◌, Bool, List, [], ◌∷◌, ◌++◌, codes, if◌then◌else◌}
use Rattle.std.specs.List.{flat_map}
use Rattle.pg_arena.specs.Games.{GameVertex, IsWithinLimits}
use Rattle.pg_hoa_automaton.specs.Automata.{Automaton}
use Rattle.pg_hoa.specs.AutomatonText.{Spelt}
use Rattle.pg_synth.specs.AutomatonGames.{IsGameOfAutomaton}
use Rattle.pg_synth.specs.declared.fault.SynthFault.TheVariants as synth
use Rattle.pg_aiger.specs.Circuits.{Circuit}
use Rattle.pg_aiger.specs.CircuitText.{Symbol}
use Rattle.pg_aiger_netlist.specs.Netlists.{IsAcyclic, IsFaultOf}
use Rattle.pg_aiger_reader.specs.Texts.{IsRead, SpellsNone}
use Rattle.pg_aiger_reader.specs.Faults.{Refuses}
use Rattle.pg_aiger_reader.specs.Ties.{IsTied, IsTieFault}
use Rattle.pg_aiger_reader.specs.declared.fault.TieFault.{TieFault}
use Rattle.pg_verify.specs.Products.{IsProductOf, HasLargeGame}
use Rattle.pg_verify.specs.Reached.{HasTooManyStates}
use Rattle.pg_verify.specs.Verdicts.{Says}
use Rattle.pg_verify.specs.declared.verdict.CircuitVerdict.{CircuitVerdict}
use Rattle.pg_verify.specs.declared.verdict.CircuitVerdict.TheVariants.{Accepted, Stuck, Rejected}
use Rattle.pg_verify.specs.declared.fault.VerifyFault.TheVariants as verify
use Rattle.pg_cli_command.specs.Parts.{Parting}
use Rattle.pg_cli_command.specs.Measuring.{MapKind}
use Rattle.pg_cli_command.specs.Solving.{IsUndecidedIn}
use Rattle.pg_cli_command.specs.Making.{IsNoAutomaton}
use Rattle.pg_cli_command.specs.declared.fault.CliFault.{CliFault}
use Rattle.pg_cli_command.specs.declared.fault.CliFault.TheVariants as cli
use Rattle.pg_cli_command.specs.declared.fault.CliFault.TheVariants.{NoSeparator, Hoa, Tie, Netlist, Verify, Synth, Undecided}

-- The bit of an input letter for the input with this literal. The list has the inputs in the order of the letter's bits.
abbrev pub bit_of : List ℕ → ℕ → ℕ → ℕ
bit_of [] letter literal = 0
bit_of (input ∷ inputs) letter literal = if input == literal then letter % 2 else bit_of inputs (letter / 2) literal

abbrev pub bit_text : ℕ → List ℕ
bit_text bit = if bit == 0 then codes "0" else codes "1"

-- A line for an input letter: the bit of each input, in the circuit's own order. `tied` has the inputs in the order of the letter's bits.
abbrev pub letter_line : List ℕ → List ℕ → ℕ → List ℕ
letter_line given tied letter = flat_map (λ literal. bit_text (bit_of tied letter literal)) given ++ codes "\n"

abbrev pub letter_lines : List ℕ → List ℕ → List ℕ → List ℕ
letter_lines given tied letters = flat_map (letter_line given tied) letters

-- `ACCEPTED`; or `STUCK` and a line for each step; or `REJECTED`, lines, a line `loop`, and the lines that repeat
abbrev pub verdict_text : List ℕ → List ℕ → CircuitVerdict → List ℕ
verdict_text given tied Accepted = codes "ACCEPTED\n"
verdict_text given tied (Stuck letters) = codes "STUCK\n" ++ letter_lines given tied letters.items
verdict_text given tied (Rejected stem loop) =
    codes "REJECTED\n" ++ (letter_lines given tied stem.items ++ (codes "loop\n" ++ letter_lines given tied loop.items))

-- The first of two texts spells an automaton, the second a circuit. `tied` is the same circuit, with its inputs and outputs in the order of
-- the automaton's propositions.
pub record ArePaired (Parts : Parting) (by_place : Bool) (automaton : Automaton) (given tied : Circuit) : Type 0 where
  pub first : List ℕ
  pub second : List ℕ
  pub parted : Parts first second
  pub spelt : Spelt first automaton
  pub symbols : List Symbol
  pub read : IsRead second given symbols
  pub tied_by : IsTied by_place automaton given symbols tied

-- The circuit and the automaton don't reach too many states, and the output is the text of a correct verdict.
pub record IsVerified (Parts : Parting) (by_place : Bool) (output : List ℕ) : Type 0 where
  pub automaton : Automaton
  pub given : Circuit
  pub tied : Circuit
  pub paired : ArePaired Parts by_place automaton given tied
  pub acyclic : IsAcyclic tied
  pub within : ¬ HasTooManyStates automaton tied
  pub verdict : CircuitVerdict
  pub says : Says automaton paired.spelt.says.condition tied verdict
  pub printed : output ≡ verdict_text given.inputs tied.inputs verdict

-- ---- what is refused

-- the first of two texts fails
abbrev pub FailsFirstText : Parting → (List ℕ → Type 0) → Type 0
FailsFirstText Parts Fails = (first : List ℕ) × (second : List ℕ) × Parts first second × Fails first

-- the first spells an automaton, and the second fails
abbrev pub FailsSecondText : Parting → (Automaton → List ℕ → Type 0) → Type 0
FailsSecondText Parts Fails =
    (first : List ℕ) × (second : List ℕ) × Parts first second × ((a : Automaton) × Spelt first a × Fails a second)

-- the texts spell an automaton and a circuit, whose inputs and outputs aren't the propositions of the automaton
abbrev pub IsUntied : Bool → TieFault → Automaton → List ℕ → Type 0
IsUntied by_place fault a second = (given : Circuit) × (symbols : List Symbol) × IsRead second given symbols × IsTieFault by_place a given symbols fault

-- the texts spell an automaton and a circuit with its propositions, and P holds for them
abbrev pub IsPair : Parting → Bool → (Automaton → Circuit → Type 0) → Type 0
IsPair Parts by_place P = (a : Automaton) × (given : Circuit) × (tied : Circuit) × ArePaired Parts by_place a given tied × P a tied

-- The vertex with this identifier in the game of their product is the least at which a map of this game and a map of its dual, both of this
-- kind, are both top.
pub record IsUndecidedOn (Kind : MapKind) (a : Automaton) (circuit : Circuit) (id : ℕ) : Type 0 where
  pub product : Automaton
  pub product_of : IsProductOf a circuit product
  pub game : List GameVertex
  pub game_of : IsGameOfAutomaton product game
  pub limits : IsWithinLimits game
  pub undecided : IsUndecidedIn Kind game id

-- Why an input has no such output: there aren't two texts; the first spells no automaton, or the second no circuit; the circuit doesn't
-- have the automaton's propositions, or contradicts itself; it is too large together with the automaton; or both maps are top at some
-- vertex of their game.
abbrev pub RefusesVerify : MapKind → Parting → Bool → CliFault → Type 0
RefusesVerify Kind Parts by_place NoSeparator = (first second : List ℕ) → ¬ Parts first second
RefusesVerify Kind Parts by_place (Hoa fault) = FailsFirstText Parts (λ first. IsNoAutomaton first fault)
RefusesVerify Kind Parts by_place (cli.Circuit fault) = FailsSecondText Parts (λ a second. SpellsNone second × Refuses second fault)
RefusesVerify Kind Parts by_place (Tie fault) = FailsSecondText Parts (IsUntied by_place fault)
RefusesVerify Kind Parts by_place (Netlist fault) = IsPair Parts by_place (λ a tied. IsFaultOf tied fault)
RefusesVerify Kind Parts by_place (Verify verify.TooLarge) = IsPair Parts by_place (λ a tied. IsAcyclic tied × HasTooManyStates a tied)
RefusesVerify Kind Parts by_place (Synth synth.TooLarge) = IsPair Parts by_place (λ a tied. IsAcyclic tied × HasLargeGame a tied)
RefusesVerify Kind Parts by_place (Undecided id) = IsPair Parts by_place (λ a tied. IsAcyclic tied × IsUndecidedOn Kind a tied id)
RefusesVerify Kind Parts by_place _ = ⊥
