-- The lines of a circuit text, kind by kind.
use Rattle.std.specs.Prelude.{ℕ, Bool, true, false, not, List, [], ◌∷◌, length, map, take, if◌then◌else◌}
use Rattle.std.specs.List.{items_where_true}
use Rattle.pg_hoa_automaton.specs.Automata.{Automaton}
use Rattle.pg_aiger.specs.declared.gate.Gate.{Gate}
use Rattle.pg_aiger.specs.Circuits.{Latch}
use Rattle.pg_aiger.specs.CircuitText.{Kind, input, output, Symbol, Row, numbers, symbol}
use Rattle.pg_aiger.specs.CircuitLayout.{symbols_from}

abbrev pub literal_row : ℕ → Row
literal_row literal = numbers (literal ∷ [])

abbrev pub latch_row : Latch → Row
latch_row latch = numbers (latch.literal ∷ latch.next ∷ [])

abbrev pub gate_row : Gate → Row
gate_row gate = numbers (gate.lhs ∷ gate.rhs0 ∷ gate.rhs1 ∷ [])

abbrev pub kind_of : Bool → Kind
kind_of controlled = if controlled then output else input

abbrev pub named : Kind → ℕ → List ℕ → Symbol
named kind position name = record { kind = kind; position = position; name = name }

-- of the first `count` propositions, the names of those that the controller sets, or of the others
abbrev pub names_until : Bool → Automaton → ℕ → List (List ℕ)
names_until true a count = items_where_true (take count a.controllable) (take count a.propositions)
names_until false a count = items_where_true (map not (take count a.controllable)) (take count a.propositions)

-- the symbols of the propositions that the controller sets, or of the others
abbrev pub symbol_rows : Bool → Automaton → List Row
symbol_rows controlled a = map symbol (symbols_from (kind_of controlled) 0 (names_until controlled a (length a.propositions)))
