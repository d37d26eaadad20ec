-- The laws, as statements.
use Rattle.std.specs.Prelude.{◌≡◌, ℕ, List}
use Rattle.pg_hoa_automaton.specs.Automata.{Automaton}
use Rattle.pg_hoa.specs.AutomatonText.{Spelt, IsUndetermined}

-- a text spells at most one automaton, or is first undetermined at one state and letter, but not both
pub record HasOneReading (bytes : List ℕ) : Type 0 where
  pub automaton : (a b : Automaton) → Spelt bytes a → Spelt bytes b → a ≡ b
  pub conflict : (state letter q l : ℕ) → IsUndetermined bytes state letter → IsUndetermined bytes q l → (state ≡ q) × (letter ≡ l)
  pub not_both : (a : Automaton) (state letter : ℕ) → Spelt bytes a → IsUndetermined bytes state letter → ⊥

abbrev pub OneReading : Type 0
OneReading = (bytes : List ℕ) → HasOneReading bytes
