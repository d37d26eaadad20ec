-- The verdict on the automaton that a text spells and the formula that another text spells.
use Rattle.std.specs.Prelude.{◌≡◌, ℕ, ◌<◌, ◌≤◌, List, length}
use Rattle.pg_hoa_automaton.specs.Automata.{Automaton}
use Rattle.pg_hoa.specs.AutomatonText as hoa
use Rattle.pg_ltl.specs.Formulas.{Formula}
use Rattle.pg_ltl.specs.Texts as ltl
use Rattle.pg_means.specs.Verdicts.{Says}
use Rattle.pg_means.specs.declared.verdict.FormulaVerdict.{FormulaVerdict}
use Rattle.pg_means.specs.declared.fault.MeansFault.TheVariants.{OutOfMemory}
use Rattle.pg_means_texts.specs.Names.{all_names, places_of}
use Rattle.pg_means_texts.specs.declared.fault.CompareFault.{CompareFault}
use Rattle.pg_means_texts.specs.declared.fault.CompareFault.TheVariants.{Hoa, TooManyPropositions, Means}
use Rattle.pg_means_texts.specs.declared.fault.CompareFault.TheVariants as faults

-- the first text spells the automaton, and the second the formula, whose propositions have these names
pub record ArePaired (first second : List ℕ) (a : Automaton) (own : List (List ℕ)) (f : Formula) : Type 0 where
  pub spelt : hoa.Spelt first a
  pub read : ltl.Spelt second own f

-- The texts spell an automaton and a formula, and these are the names of all their propositions, at most 16. Over words of these
-- propositions the verdict is true: the automaton and the formula are the same, or they differ on the lasso that it gives.
pub record IsCompared (first second : List ℕ) (names : List (List ℕ)) (verdict : FormulaVerdict) : Type 0 where
  pub automaton : Automaton
  pub own : List (List ℕ)
  pub formula : Formula
  pub paired : ArePaired first second automaton own formula
  pub all : names ≡ all_names automaton.propositions own
  pub few : length names ≤ 16
  pub says : Says automaton paired.spelt.says.condition (length names) (places_of names own) formula verdict

-- ---- what is refused

-- the texts spell an automaton and a formula, and the names of all their propositions have the property P
abbrev pub HaveNames : List ℕ → List ℕ → (List (List ℕ) → Type 0) → Type 0
HaveNames first second P =
    (a : Automaton) × (own : List (List ℕ)) × (f : Formula) × ArePaired first second a own f × P (all_names a.propositions own)

-- Why two texts have no verdict: the first spells no automaton; it spells one, but the second spells no formula; they have too many
-- propositions together; or they don't, but no verdict was found. Memory may run out on any text.
abbrev pub Refuses : List ℕ → List ℕ → CompareFault → Type 0
Refuses first second (Hoa fault) = hoa.IsRefused first fault
Refuses first second (faults.Formula fault) = ((a : Automaton) × hoa.Spelt first a) × ltl.IsRefused second fault
Refuses first second TooManyPropositions = HaveNames first second (λ names. 16 < length names)
Refuses first second (Means OutOfMemory) = Unit {0}
Refuses first second (Means fault) = HaveNames first second (λ names. length names ≤ 16)
