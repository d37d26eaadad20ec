-- The texts of faults.
use Rattle.std.specs.Prelude.{ℕ, nat_lt, List, [], ◌∷◌, ◌++◌, length, map, take, codes, if◌then◌else◌}
use Rattle.std.specs.List.{flat_map}
use Rattle.pg_aiger_reader.specs.FaultTexts.{name_text}
use Rattle.pg_aiger_reader.specs.declared.name.Name.{Name}
use Rattle.pg_satisfies_texts.specs.declared.fault.NameFault.{NameFault}
use Rattle.pg_satisfies_texts.specs.declared.fault.NameFault.TheVariants.{Missing, Ambiguous}

abbrev pub name_bytes : Name → List ℕ
name_bytes name = name.bytes.items

abbrev pub after_comma : List ℕ → List ℕ
after_comma name = codes ", " ++ name_text name

-- names after the first; of more than 63 it shows the first 63, and `..`
abbrev pub others_text : List (List ℕ) → List ℕ
others_text names =
    if nat_lt (length names) 64 then flat_map after_comma names else flat_map after_comma (take 63 names) ++ codes ", .."

-- the names that a circuit has
abbrev pub known_text : List (List ℕ) → List ℕ
known_text [] = codes ", since its inputs, outputs and latches have no names"
known_text (first ∷ others) = codes "; it has " ++ (name_text first ++ others_text others)

abbrev pub name_fault_text : NameFault → List ℕ
name_fault_text (Missing name known) =
    codes "the circuit has no input, output or latch named " ++ (name_text (name_bytes name) ++ known_text (map name_bytes known.items))
name_fault_text (Ambiguous name) = codes "two signals of the circuit are named " ++ name_text (name_bytes name)
