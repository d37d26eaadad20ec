-- Why a circuit isn't looked at, and how many inputs and outputs it has.
use Rattle.pg_cli_command.proofs.Common.{◌≡◌, ◌∙◌, ℕ, suc, ◌+◌, List, [], ◌∷◌, length, map, get_or, inl, inr, ap, refl, arith, Automaton, Circuit, MapKind, CliFault}
use Rattle.pg_cli_command.proofs.Common.{OutOfMemory, Fails, GameVertex, IsUnsolved}
use Rattle.std.specs.Prelude.{Bool, true, false, not}
use Rattle.std.specs.List.{items_where_true}
use Rattle.std.proofs.lemmas.List.{length-map}
use Rattle.pg_synth.specs.Letters.{inputs, outputs}
use Rattle.pg_synth.specs.Answers as answers
use Rattle.pg_synth.specs.declared.fault.SynthFault.{SynthFault}
use Rattle.pg_synth.specs.declared.fault.SynthFault.TheVariants as synth
use Rattle.pg_aiger.specs.CircuitText.{Kind, Symbol}
use Rattle.pg_aiger_netlist.specs.Netlists.{IsAcyclic, IsFaultOf}
use Rattle.pg_aiger_netlist.specs.declared.fault.NetlistFault.{NetlistFault}
use Rattle.pg_aiger_netlist.specs.declared.fault.NetlistFault.TheVariants as netlist
use Rattle.pg_aiger_reader.specs.Faults.{Refuses}
use Rattle.pg_aiger_reader.specs.Texts.{SpellsNone}
use Rattle.pg_aiger_reader.specs.Ties.{AreTied, IsTieFault}
use Rattle.pg_aiger_reader.specs.declared.fault.ReaderFault.{ReaderFault}
use Rattle.pg_aiger_reader.specs.declared.fault.ReaderFault.TheVariants as reader
use Rattle.pg_aiger_reader.specs.declared.fault.TieFault.{TieFault}
use Rattle.pg_aiger_reader.specs.declared.fault.TieFault.TheVariants as tie
use Rattle.pg_verify.specs.Products.{IsProductOf}
use Rattle.pg_verify.specs.Reached.{HasNoProduct}
use Rattle.pg_verify.specs.declared.fault.VerifyFault.{VerifyFault}
use Rattle.pg_verify.specs.declared.fault.VerifyFault.TheVariants as verify
use Rattle.pg_cli_command.specs.Faults.{circuit_fault, tie_fault, netlist_fault, synth_fault, verify_fault}
use Rattle.pg_cli_command.specs.Parts.{Parting}
use Rattle.pg_hoa.specs.AutomatonText.{Spelt}
use Rattle.pg_verify_environment.specs.Counterparts.{IsRefused}
use Rattle.pg_cli_command.specs.Verifying.{ArePaired, RefusesVerify}
use Rattle.pg_cli_command.specs.Refuting.{AreOpposed, RefusesRefute}
use Rattle.pg_cli_command.specs.Mirrors.Looking.{IsUnlooked}
use Rattle.pg_cli_command.specs.declared.fault.CliFault.TheVariants as cli

-- what is so where memory runs out, and of each fault that says why a text spells no circuit, is so of each fault of its reader
pub circuit_refused : (P : CliFault → Type 0) (bytes : List ℕ) (fault : ReaderFault) → P OutOfMemory
    → ((said : ReaderFault) → SpellsNone bytes × Refuses bytes said → P (cli.Circuit said)) → Refuses bytes fault → P (circuit_fault fault)
circuit_refused P bytes reader.OutOfMemory memory told why = memory
circuit_refused P bytes (reader.Syntax n) memory told why = told (reader.Syntax n) (why.0, why)
circuit_refused P bytes (reader.NumberTooLarge n) memory told why = told (reader.NumberTooLarge n) (why.0, why)
circuit_refused P bytes reader.TooLarge memory told why = told reader.TooLarge (why.0, why)
circuit_refused P bytes reader.TooFewVariables memory told why = told reader.TooFewVariables (why.0, why)
circuit_refused P bytes reader.OtherVariables memory told why = told reader.OtherVariables (why.0, why)
circuit_refused P bytes (reader.LeftOut s) memory told why = told (reader.LeftOut s) (why.0, why)
circuit_refused P bytes (reader.Reset n) memory told why = told (reader.Reset n) (why.0, why)

-- and so it is of the ties
pub tie_refused : (P : CliFault → Type 0) (by_place : Bool) (a : Automaton) (circuit : Circuit) (symbols : List Symbol) (fault : TieFault)
    → P OutOfMemory → (IsTieFault by_place a circuit symbols fault → P (cli.Tie fault)) → IsTieFault by_place a circuit symbols fault
    → P (tie_fault fault)
tie_refused P by_place a circuit symbols tie.OutOfMemory memory told why = memory
tie_refused P by_place a circuit symbols fault memory told why = told why

-- and of the look at the lines
pub netlist_refused : (P : CliFault → Type 0) (circuit : Circuit) (fault : NetlistFault) → P OutOfMemory
    → (IsFaultOf circuit fault → P (cli.Netlist fault)) → IsFaultOf circuit fault → P (netlist_fault fault)
netlist_refused P circuit netlist.OutOfMemory memory told why = memory
netlist_refused P circuit fault memory told why = told why

-- and of the product
pub product_refused : (Kind : MapKind) (a : Automaton) (circuit : Circuit) (fault : VerifyFault) → HasNoProduct a circuit fault
    → IsUnlooked Kind a circuit (verify_fault fault)
product_refused Kind a circuit verify.OutOfMemory why = tt
product_refused Kind a circuit verify.TooLarge why = why

-- and of the product's game
pub game_unlooked : (Kind : MapKind) (a product : Automaton) (circuit : Circuit) (fault : SynthFault) → IsProductOf a circuit product
    → answers.Refuses product fault → IsUnlooked Kind a circuit (synth_fault fault)
game_unlooked Kind a product circuit synth.OutOfMemory is why = tt
game_unlooked Kind a product circuit synth.TooLarge is why = (product, why.0, is, why.1, why.2)

-- and of its solution
pub game_unsolved : (Kind : MapKind) (a product : Automaton) (circuit : Circuit) (game : List GameVertex) (initial : ℕ) (fault : CliFault)
    → IsProductOf a circuit product → answers.IsSynthGame product game initial → IsUnsolved Kind game fault → IsUnlooked Kind a circuit fault
game_unsolved Kind a product circuit game initial cli.OutOfMemory is made why = tt
game_unsolved Kind a product circuit game initial (cli.Undecided id) is made why =
    record { product = product; product_of = is; game = game; game_of = made.is_game_of; limits = made.limits; undecided = why }
game_unsolved Kind a product circuit game initial _ is made why = absurd why

-- and of the look at the circuit
pub unlooked : (Kind : MapKind) (Parts : Parting) (by_place : Bool) (a : Automaton) (given tied : Circuit) → ArePaired Parts by_place a given tied
    → IsAcyclic tied → (fault : CliFault) → IsUnlooked Kind a tied fault → Fails (RefusesVerify Kind Parts by_place) fault
unlooked Kind Parts by_place a given tied paired acyclic cli.OutOfMemory why = tt
unlooked Kind Parts by_place a given tied paired acyclic (cli.Verify verify.TooLarge) why = (a, given, tied, paired, (acyclic, why))
unlooked Kind Parts by_place a given tied paired acyclic (cli.Synth synth.TooLarge) why = (a, given, tied, paired, (acyclic, why))
unlooked Kind Parts by_place a given tied paired acyclic (cli.Undecided id) why = (a, given, tied, paired, (acyclic, why))
unlooked Kind Parts by_place a given tied paired acyclic _ why = absurd why

-- and of the look at a circuit that plays the environment
pub unrefuted : (Kind : MapKind) (Parts : Parting) (by_place : Bool) (a : Automaton) (given tied : Circuit)
    (opposed : AreOpposed Parts by_place a given tied) → IsAcyclic tied → (fault : CliFault) → IsUnlooked Kind opposed.twin tied fault
    → Fails (RefusesRefute Kind Parts by_place) fault
unrefuted Kind Parts by_place a given tied opposed acyclic cli.OutOfMemory why = tt
unrefuted Kind Parts by_place a given tied opposed acyclic (cli.Verify verify.TooLarge) why = inr (a, given, tied, opposed, (acyclic, why))
unrefuted Kind Parts by_place a given tied opposed acyclic (cli.Synth synth.TooLarge) why = (a, given, tied, opposed, (acyclic, why))
unrefuted Kind Parts by_place a given tied opposed acyclic (cli.Undecided id) why = (a, given, tied, opposed, (acyclic, why))
unrefuted Kind Parts by_place a given tied opposed acyclic _ why = absurd why

-- and of the counterpart
pub untwinned : (Kind : MapKind) (Parts : Parting) (by_place : Bool) (first second : List ℕ) (a : Automaton) (fault : VerifyFault)
    → Parts first second → Spelt first a → IsRefused a fault → Fails (RefusesRefute Kind Parts by_place) (verify_fault fault)
untwinned Kind Parts by_place first second a verify.OutOfMemory parted spelt why = tt
untwinned Kind Parts by_place first second a verify.TooLarge parted spelt why = inl (first, second, parted, (a, spelt, why))

-- each name has a literal
pub tied_length : (by_place : Bool) (kind : Kind) (symbols : List Symbol) (names : List (List ℕ)) (literals tied : List ℕ)
    → AreTied by_place kind symbols names literals tied → length tied ≡ length names
tied_length true kind symbols names literals tied t = ap (λ (l : List ℕ). length l) t.1 ∙ t.0
tied_length false kind symbols names literals tied t =
    ap (λ (l : List ℕ). length l) t.2 ∙ length-map t.0 (λ place. get_or literals place 0) ∙ t.1.all

pub inputs_named : (marks : List Bool) (names : List (List ℕ)) → length marks ≡ length names
    → length (items_where_true (map not marks) names) ≡ inputs marks
inputs_named [] names same = refl
inputs_named (mark ∷ marks) [] same = absurd (omega arith)
inputs_named (true ∷ marks) (name ∷ names) same = inputs_named marks names (omega arith)
inputs_named (false ∷ marks) (name ∷ names) same = let r = inputs_named marks names (omega arith) in omega (arith, r)

pub outputs_named : (marks : List Bool) (names : List (List ℕ)) → length marks ≡ length names
    → length (items_where_true marks names) ≡ outputs marks
outputs_named [] names same = refl
outputs_named (mark ∷ marks) [] same = absurd (omega arith)
outputs_named (true ∷ marks) (name ∷ names) same = let r = outputs_named marks names (omega arith) in omega (arith, r)
outputs_named (false ∷ marks) (name ∷ names) same = outputs_named marks names (omega arith)
