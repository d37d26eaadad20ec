-- The circuit of a machine, gate by gate.
use Rattle.std.specs.Prelude.{ℕ, ◌+◌, ◌-◌, ◌*◌, ◌%◌, ◌^◌, min, max, ◌||◌, nat_eq, List, [], ◌∷◌, ◌++◌, length, map, fold, flat_map, if◌then◌else◌}
use Rattle.std.specs.List.{range_with_len, items_where_true}
use Rattle.pg_synth.specs.Machines.{Machine}
use Rattle.pg_synth.specs.declared.mealy.Reply.{Reply}
use Rattle.pg_aiger.specs.declared.gate.Gate.{Gate}
use Rattle.pg_aiger.specs.Circuits.{Circuit, circuit_in_order}
use Rattle.pg_aiger.specs.Runs.{bit}

-- gates while they are being made: the variable of the first one, and the gates so far
pub record Drafted : Type 0 where
  pub base : ℕ
  pub gates : List Gate

-- the result of joining literals: the gates after that, and the literal
abbrev pub Made : Type 0
Made = Drafted × ℕ

-- a new gate: a literal of its own, and the two whose conjunction it is, the greater one first
abbrev pub new_gate : Drafted → ℕ → ℕ → Made
new_gate draft x y =
    let own = 2 * (draft.base + length draft.gates) in
    (record { base = draft.base; gates = draft.gates ++ record { lhs = own; rhs0 = max x y; rhs1 = min x y } ∷ [] }, own)

-- The conjunction of two literals: 0 if one of them is 0, the other one if one of them is 1, else a new gate.
unfoldable pub conjunction : Drafted → ℕ → ℕ → Made
conjunction draft x y =
    if nat_eq x 0 || nat_eq y 0 then (draft, 0)
    else if nat_eq x 1 then (draft, y)
    else if nat_eq y 1 then (draft, x)
    else new_gate draft x y

abbrev pub negation : ℕ → ℕ
negation literal = if nat_eq (literal % 2) 1 then literal - 1 else literal + 1

-- The disjunction of two literals: the negated conjunction of the negated literals.
unfoldable pub disjunction : Drafted → ℕ → ℕ → Made
disjunction draft x y = let made = conjunction draft (negation x) (negation y) in (made.0, negation made.1)

-- the conjunction of a list of literals, from the left; 1 for the empty list
abbrev pub conjunction_of : Drafted → List ℕ → Made
conjunction_of draft literals = fold (λ (so_far : Made) literal. conjunction so_far.0 so_far.1 literal) (draft, 1) literals

-- the disjunction of a list of literals, from the left; 0 for the empty list
abbrev pub disjunction_of : Drafted → List ℕ → Made
disjunction_of draft literals = fold (λ (so_far : Made) literal. disjunction so_far.0 so_far.1 literal) (draft, 0) literals

-- joins one list of literals after another: the gates after that, and a literal for each list
abbrev pub each_made : (Drafted → List ℕ → Made) → Drafted → List (List ℕ) → Drafted × List ℕ
each_made join draft [] = (draft, [])
each_made join draft (literals ∷ rest) =
    let made = join draft literals in let others = each_made join made.0 rest in (others.0, made.1 ∷ others.1)

-- the `count` variables from `first` on, negated where the number has a 0, the low bit first
abbrev pub spelling : ℕ → ℕ → ℕ → List ℕ
spelling first count number = map (λ j. 2 * (first + j) + (if bit number j then 0 else 1)) (range_with_len 0 count)

-- the literals whose conjunction is the minterm of a state and an input letter: the latches by the state, then the inputs by the letter
abbrev pub minterm_literals : ℕ → ℕ → ℕ → ℕ → List ℕ
minterm_literals inputs latches state letter = spelling (1 + inputs) latches state ++ spelling 1 inputs letter

-- the literals of all minterms: by rising states, and for each state by rising input letters
abbrev pub all_minterms : Machine → ℕ → List (List ℕ)
all_minterms machine latches =
    flat_map (λ state. map (minterm_literals machine.inputs latches state) (range_with_len 0 (2 ^ machine.inputs)))
    (range_with_len 0 machine.states)

-- the minterms at which the number has the bit, in their order
abbrev pub having : ℕ → List ℕ → List ℕ → List ℕ
having j numbers minterms = items_where_true (map (λ number. bit number j) numbers) minterms

-- for each bit, the low one first, the minterms at which the number has it
abbrev pub bit_columns : ℕ → List ℕ → List ℕ → List (List ℕ)
bit_columns width numbers minterms = map (λ j. having j numbers minterms) (range_with_len 0 width)

-- The circuit of a machine, with the given number of latches. The minterms are made first, then the next literals of the latches, and
-- then the outputs. Each of these literals is the disjunction of the minterms at which its bit is set.
unfoldable pub made_circuit : Machine → ℕ → Circuit
made_circuit machine latches =
    let minterms = each_made conjunction_of (record { base = 1 + machine.inputs + latches; gates = [] }) (all_minterms machine latches) in
    let nexts = each_made disjunction_of minterms.0 (bit_columns latches (map Reply.next machine.replies) minterms.1) in
    let outputs = each_made disjunction_of nexts.0 (bit_columns machine.outputs (map Reply.output machine.replies) minterms.1) in
    circuit_in_order machine.inputs nexts.1 outputs.1 outputs.0.gates
