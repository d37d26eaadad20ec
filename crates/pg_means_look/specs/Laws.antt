-- The laws, as statements.
use Rattle.std.specs.Prelude.{◌≡◌, ◌↔◌, ℕ, ◌%◌, true, false}
use Rattle.pg_ltl.specs.Formulas.{Formula, Satisfies}
use Rattle.pg_ltl.specs.NormalForms.{NormalForm, Holds, dual, normal}
use Rattle.pg_means_look.specs.Automata.{Automaton, IsBounded, IsWord, IsAccepted, IsGreatestRecurring, met}
use Rattle.pg_means_look.specs.Certificates.{Certificate, IsEmptyBy}

-- no word whose greatest recurring priority has the parity satisfies the formula
abbrev pub Emptiness : Type 0
Emptiness =
    (a : Automaton) (f : NormalForm) (parity : ℕ) (cert : Certificate) (word : ℕ → ℕ) (p : ℕ) → IsEmptyBy a f parity cert
    → IsWord a word → IsGreatestRecurring (met a word) p → p % 2 ≡ parity → ¬ Holds (λ t. a.on (word t)) f 0

-- the automaton accepts exactly the words that satisfy the formula
abbrev pub Sameness : Type 0
Sameness =
    (a : Automaton) (f : NormalForm) (first second : Certificate) (word : ℕ → ℕ) → IsBounded a → IsEmptyBy a (dual f) 0 first
    → IsEmptyBy a f 1 second → IsWord a word → IsAccepted a word ↔ Holds (λ t. a.on (word t)) f 0

-- the automaton accepts exactly the words that satisfy the formula as written
abbrev pub Meaning : Type 0
Meaning =
    (a : Automaton) (f : Formula) (first second : Certificate) (word : ℕ → ℕ) → IsBounded a
    → IsEmptyBy a (normal false f) 0 first → IsEmptyBy a (normal true f) 1 second → IsWord a word
    → IsAccepted a word ↔ Satisfies (λ t. a.on (word t)) f 0
