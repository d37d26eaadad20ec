-- The layout in which a circuit is printed.
use Rattle.std.specs.Prelude.{ℕ, suc, not, List, [], ◌∷◌, ◌++◌, map, codes, decimal}
use Rattle.std.specs.List.{flat_map, items_where_true}
use Rattle.pg_hoa_automaton.specs.Automata.{Automaton}
use Rattle.pg_aiger.specs.Circuits.{Circuit}
use Rattle.pg_aiger.specs.CircuitText.{Kind, input, output, Symbol, Row, header, numbers, symbol, kind_text, rows_of}

-- the names of the propositions that the environment sets, in their order, and of the propositions that the controller sets
abbrev pub input_names : Automaton → List (List ℕ)
input_names a = items_where_true (map not a.controllable) a.propositions

abbrev pub output_names : Automaton → List (List ℕ)
output_names a = items_where_true a.controllable a.propositions

-- symbols of one kind, with these names at consecutive positions
abbrev pub symbols_from : Kind → ℕ → List (List ℕ) → List Symbol
symbols_from kind position [] = []
symbols_from kind position (name ∷ names) =
    record { kind = kind; position = position; name = name } ∷ symbols_from kind (suc position) names

-- the inputs have the names of the environment's propositions, the outputs the names of the controller's; latches have none
abbrev pub symbols_of : Automaton → List Symbol
symbols_of a = symbols_from input 0 (input_names a) ++ symbols_from output 0 (output_names a)

abbrev pub spaced_number : ℕ → List ℕ
spaced_number n = codes " " ++ decimal n

-- numbers with single spaces between them
abbrev pub spaced : List ℕ → List ℕ
spaced [] = []
spaced (n ∷ ns) = decimal n ++ flat_map spaced_number ns

abbrev pub row_line : Row → List ℕ
row_line (header ns) = codes "aag " ++ spaced ns
row_line (numbers ns) = spaced ns
row_line (symbol s) = kind_text s.kind ++ (decimal s.position ++ (codes " " ++ s.name))

abbrev pub row_text : Row → List ℕ
row_text row = row_line row ++ codes "\n"

-- the lines one after another
abbrev pub circuit_text : Circuit → Automaton → List ℕ
circuit_text circuit a = flat_map row_text (rows_of circuit (symbols_of a))
