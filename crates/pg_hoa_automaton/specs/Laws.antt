-- The laws, as statements.
use Rattle.std.specs.Prelude.{◌↔◌, ℕ, Bool, IsTrue}
use Rattle.pg_hoa_automaton.specs.declared.shape.Shape.{Shape}
use Rattle.pg_hoa_automaton.specs.Automata.{Automaton}
use Rattle.pg_hoa_automaton.specs.Formulas.{Formula, holds}
use Rattle.pg_hoa_automaton.specs.Shapes.{FitsShape, Accepts}
use Rattle.pg_hoa_automaton.specs.Words.{HoldsRecurring}

-- a condition of a shape is true of a collection of its sets exactly if the shape accepts the collection
abbrev pub ShapeTells : Type 0
ShapeTells =
    (condition : Formula) (sets : ℕ) (shape : Shape) (recurs : ℕ → Bool) → FitsShape condition sets shape
    → IsTrue (holds condition recurs) ↔ Accepts shape sets recurs

-- it can't be that no collection holds exactly the sets that recur on a word, so no word is accepted because there is
-- no such collection
abbrev pub RecurringCollected : Type 0
RecurringCollected = (a : Automaton) (word : ℕ → ℕ) → ¬ ¬ ((recurs : ℕ → Bool) × HoldsRecurring a word recurs)
