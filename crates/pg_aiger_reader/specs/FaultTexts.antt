-- The texts of faults.
use Rattle.std.specs.Prelude.{ℕ, Bool, false, not, ◌/◌, ◌%◌, ◌==◌, ◌&&◌, ◌||◌, nat_lt, List, [], ◌∷◌, ◌++◌, codes, decimal, if◌then◌else◌}
use Rattle.std.specs.List.{flat_map, list_any}
use Rattle.std.specs.Str.{chars, is_utf8}
use Rattle.std.specs.Fmt.{digit_glyph}
use Rattle.pg_aiger_reader.specs.declared.fault.Section.{Section}
use Rattle.pg_aiger_reader.specs.declared.fault.Section.TheVariants.{BadStates, Constraints, Justice, Fairness}
use Rattle.pg_aiger_reader.specs.declared.fault.ReaderFault.{ReaderFault}
use Rattle.pg_aiger_reader.specs.declared.fault.ReaderFault.TheVariants.{OutOfMemory, Syntax, NumberTooLarge, TooLarge, TooFewVariables, OtherVariables, LeftOut, Reset}
use Rattle.pg_aiger_reader.specs.declared.fault.SideFault.{SideFault}
use Rattle.pg_aiger_reader.specs.declared.fault.SideFault.TheVariants.{Missing, Twice, Shared, Nameless, Extra, Short, Long}
use Rattle.pg_aiger_reader.specs.declared.fault.TieFault.{TieFault}
use Rattle.pg_aiger_reader.specs.declared.fault.TieFault.TheVariants as ties

abbrev pub section_text : Section → List ℕ
section_text BadStates = codes "bad-state properties"
section_text Constraints = codes "invariant constraints"
section_text Justice = codes "justice properties"
section_text Fairness = codes "fairness constraints"

abbrev pub reader_fault_text : ReaderFault → List ℕ
reader_fault_text OutOfMemory = codes "out of memory"
reader_fault_text (Syntax offset) = codes "syntax error at byte " ++ decimal offset
reader_fault_text (NumberTooLarge offset) = codes "number too large at byte " ++ decimal offset
reader_fault_text TooLarge = codes "circuit too large"
reader_fault_text TooFewVariables = codes "the header's M is less than I + L + A"
reader_fault_text OtherVariables = codes "the header's M is not I + L + A"
reader_fault_text (LeftOut section) = codes "the circuit has " ++ (section_text section ++ codes ", which are not read")
reader_fault_text (Reset position) = codes "latch " ++ (decimal position ++ codes " does not start at 0")

-- a control character, or a mark that turns the direction of writing
abbrev pub is_hidden : ℕ → Bool
is_hidden character =
    nat_lt character 32 || (nat_lt 126 character && nat_lt character 160) || (nat_lt 8205 character && nat_lt character 8208)
    || (nat_lt 8233 character && nat_lt character 8239) || (nat_lt 8293 character && nat_lt character 8298)

-- a byte as it is shown: a backslash twice, another byte that prints as it is, and any other as a backslash, `x` and its two digits in
-- base 16
abbrev pub escaped : ℕ → List ℕ
escaped byte =
    if byte == 92 then codes "\\\\"
    else (if nat_lt byte 32 || nat_lt 126 byte then codes "\\x" ++ (digit_glyph false (byte / 16) ∷ digit_glyph false (byte % 16) ∷ [])
    else byte ∷ [])

-- the name as it is, if it is UTF-8 without hidden characters; else with escapes
abbrev pub name_text : List ℕ → List ℕ
name_text name = if is_utf8 name && not (list_any is_hidden (chars name)) then name else flat_map escaped name

-- the word is `input` or `output`
abbrev pub side_fault_text : List ℕ → SideFault → List ℕ
side_fault_text word (Missing name) = codes "the circuit has no " ++ (word ++ (codes " named " ++ name_text name.bytes.items))
side_fault_text word (Twice name) = codes "two " ++ (word ++ (codes "s are named " ++ name_text name.bytes.items))
side_fault_text word (Shared place one other) =
    word ++ (codes " " ++ (decimal place ++ (codes " is named " ++ (name_text one.bytes.items ++ (codes " and " ++ name_text other.bytes.items)))))
side_fault_text word (Nameless place) = word ++ (codes " " ++ (decimal place ++ codes " has no symbol"))
side_fault_text word (Extra place name) =
    word ++ (codes " " ++ (decimal place ++ (codes " is named " ++ (name_text name.bytes.items ++ (codes ", but the automaton has no such " ++ word)))))
side_fault_text word (Short name) = codes "the circuit has no " ++ (word ++ (codes " for " ++ name_text name.bytes.items))
side_fault_text word (Long place) = codes "the circuit has an " ++ (word ++ (codes " more: " ++ (word ++ (codes " " ++ decimal place))))

abbrev pub tie_fault_text : TieFault → List ℕ
tie_fault_text ties.OutOfMemory = codes "out of memory"
tie_fault_text ties.NoSymbols = codes "the inputs and outputs have no names; --by-place takes them in order"
tie_fault_text (ties.Inputs fault) = side_fault_text (codes "input") fault
tie_fault_text (ties.Outputs fault) = side_fault_text (codes "output") fault
