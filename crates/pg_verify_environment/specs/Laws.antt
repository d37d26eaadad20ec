-- The laws, as statements.
use Rattle.std.specs.Prelude.{◌≡◌, ℕ}
use Rattle.pg_hoa_automaton.specs.Automata.{Automaton, IsAutomaton}
use Rattle.pg_hoa_automaton.specs.Formulas.{Formula}
use Rattle.pg_hoa_automaton.specs.Shapes.{FitsShape}
use Rattle.pg_hoa_automaton.specs.Words.{IsWord, IsAccepted}
use Rattle.pg_verify_environment.specs.Counterparts.{IsCounterpart}

-- no word is accepted by both an automaton and its counterpart, and the automaton accepts each word that its counterpart doesn't
abbrev pub CounterpartDecides : Type 0
CounterpartDecides =
    (a c : Automaton) (condition other : Formula) (word : ℕ → ℕ) → IsAutomaton a → IsCounterpart a c → FitsShape condition a.sets a.shape
    → FitsShape other c.sets c.shape → IsWord a word
    → (IsAccepted c other word → ¬ IsAccepted a condition word) × (¬ IsAccepted c other word → IsAccepted a condition word)
