-- The verdict on an automaton and a formula.
use Rattle.std.specs.Prelude.{◌≡◌, ◌↔◌, ℕ, ◌%◌, ◌^◌, ◌<◌, ◌==◌, Bool, true, false, List, length, slice_index_or, nat_lt, if◌then◌else◌}
use Rattle.std.specs.Int.{bit_at}
use Rattle.pg_hoa_automaton.specs.Automata.{Automaton, letters}
use Rattle.pg_hoa_automaton.specs.Formulas as conditions
use Rattle.pg_hoa_automaton.specs.Words.{IsAccepted}
use Rattle.pg_ltl.specs.Formulas.{Formula, Satisfies}
use Rattle.pg_means_look.specs.Lassos.{lasso}
use Rattle.pg_means.specs.declared.verdict.FormulaVerdict.{FormulaVerdict}
use Rattle.pg_means.specs.declared.verdict.FormulaVerdict.TheVariants.{Same, Differs}

-- a word over the given number of propositions: bit p of each letter says whether the proposition p holds
abbrev pub IsWordOver : ℕ → (ℕ → ℕ) → Type 0
IsWordOver propositions word = (t : ℕ) → word t < 2 ^ propositions

-- what the automaton, whose propositions come first, sees of a word over more propositions: the same letters without the others
abbrev pub own_word : Automaton → (ℕ → ℕ) → ℕ → ℕ
own_word a word t = word t % letters a

-- whether the formula's proposition p holds at a letter; `places` has for each of them its place among all propositions
abbrev pub holds_at : List ℕ → ℕ → ℕ → Bool
holds_at places letter p = if nat_lt p (length places) then bit_at letter (slice_index_or places p 0) == 1 else false

abbrev pub IsSatisfied : List ℕ → Formula → (ℕ → ℕ) → Type 0
IsSatisfied places f word = Satisfies (λ t. holds_at places (word t)) f 0

-- of the words over the given number of propositions, exactly those that satisfy the formula are accepted
abbrev pub AreSame : Automaton → conditions.Formula → ℕ → List ℕ → Formula → Type 0
AreSame a condition propositions places f =
    (word : ℕ → ℕ) → IsWordOver propositions word → IsAccepted a condition (own_word a word) ↔ IsSatisfied places f word

-- they differ on the lasso: the automaton accepts it and it doesn't satisfy the formula, or the other way round
pub record AreApart (a : Automaton) (condition : conditions.Formula) (propositions : ℕ) (places : List ℕ) (f : Formula) (accepted : Bool)
    (list : List ℕ) (back : ℕ) : Type 0 where
  pub comes_round : back < length list
  pub within : IsWordOver propositions (lasso list back)
  pub accepts : (accepted ≡ true) ↔ IsAccepted a condition (own_word a (lasso list back))
  pub satisfies : (accepted ≡ false) ↔ IsSatisfied places f (lasso list back)

-- what the verdict says, under a condition of the automaton's shape
abbrev pub Says : Automaton → conditions.Formula → ℕ → List ℕ → Formula → FormulaVerdict → Type 0
Says a condition propositions places f Same = AreSame a condition propositions places f
Says a condition propositions places f (Differs accepted list back) = AreApart a condition propositions places f accepted list.items back
