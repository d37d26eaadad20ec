-- Why an automaton, or its game, is refused.
use Rattle.pg_cli_command.proofs.Common.{ℕ, List, Automaton, Spelt, IsRefused, HoaFault, SynthFault, IsTooLarge, IsNoAutomaton, hoa_fault}
use Rattle.pg_cli_command.proofs.Common.{synth_fault, CliFault, OutOfMemory, Hoa, Synth}
use Rattle.pg_hoa.specs.declared.fault.HoaFault.TheVariants as hoa
use Rattle.pg_synth.specs.Answers as synth_answers
use Rattle.pg_synth.specs.declared.fault.SynthFault.TheVariants as synth

-- what is so of want of memory, and of whatever a text that spells no automaton says, is so of each fault of its reader
pub text_refused : (P : CliFault → Type 0) (input : List ℕ) (fault : HoaFault) → P OutOfMemory
    → ((said : HoaFault) → IsNoAutomaton input said → P (Hoa said)) → IsRefused input fault → P (hoa_fault fault)
text_refused P input hoa.OutOfMemory memory told why = memory
text_refused P input fault memory told why = told fault why

-- and so it is of the maker of games
pub game_refused : (P : CliFault → Type 0) (input : List ℕ) (a : Automaton) → Spelt input a → (fault : SynthFault) → P OutOfMemory
    → (IsTooLarge input → P (Synth synth.TooLarge)) → synth_answers.Refuses a fault → P (synth_fault fault)
game_refused P input a spelt synth.OutOfMemory memory told why = memory
game_refused P input a spelt synth.TooLarge memory told why =
    told (record {
      game = why.0;
      made = record { automaton = a; spelt = spelt; game_of = why.1 };
      over = why.2;
    })
