-- What a list of operations says: each takes its operands from a stack of truths, and leaves its own truth there.
use Rattle.std.specs.Prelude.{ℕ, Bool, true, false, ◌&&◌, ◌||◌, List, [], ◌∷◌, if◌then◌else◌}
use Rattle.pg_hoa_syntax.specs.declared.formula.Op.{Op}
use Rattle.pg_hoa_syntax.specs.declared.formula.Op.TheVariants.{Yes, No, Proposition, Inf, Fin, Not, Both, Either}

-- a missing operand counts as false
abbrev pub top : List Bool → Bool
top [] = false
top (v ∷ stack) = v

abbrev pub under : List Bool → List Bool
under [] = []
under (v ∷ stack) = stack

-- the stack after one operation, where these propositions hold or these sets recur
abbrev pub perform : Op → (ℕ → Bool) → List Bool → List Bool
perform Yes on stack = true ∷ stack
perform No on stack = false ∷ stack
perform (Proposition a) on stack = on a ∷ stack
perform (Inf s) on stack = on s ∷ stack
perform (Fin s) on stack = (if on s then false else true) ∷ stack
perform Not on stack = (if top stack then false else true) ∷ under stack
perform Both on stack = (top (under stack) && top stack) ∷ under (under stack)
perform Either on stack = (top (under stack) || top stack) ∷ under (under stack)

abbrev pub run : List Op → (ℕ → Bool) → List Bool → List Bool
run [] on stack = stack
run (op ∷ ops) on stack = run ops on (perform op on stack)

abbrev pub says : List Op → (ℕ → Bool) → Bool
says ops on = top (run ops on [])
