-- The places of formulas and of their negations, while a normal form is built.
use Rattle.std.specs.Prelude.{◌≡◌, ℕ, ◌<◌, Bool, true, false, List, ◌++◌, length, get_or}
use Rattle.pg_ltl.specs.declared.normal.NormalNode.{NormalNode}
use Rattle.pg_ltl.specs.declared.pair.NegationPair.{NegationPair}
use Rattle.pg_ltl.specs.Formulas.{Formula, constant}
use Rattle.pg_ltl.specs.NormalForms.{NormalForm, normal}
use Rattle.pg_ltl.specs.Mirrors.Nodes.{normal_in, AreNormalNodes}

-- the new list is the old one with more parts appended
abbrev pub Extends : List NormalNode → List NormalNode → Type 0
Extends old new = (more : List NormalNode) × (new ≡ old ++ more)

pub record IsWithin (nodes : List NormalNode) (pair : NegationPair) : Type 0 where
  pub yes : pair.yes < length nodes
  pub no : pair.no < length nodes

-- the new list extends the old one, and the part at the place is this formula
pub record AddsNode (old new : List NormalNode) (place : ℕ) (form : NormalForm) : Type 0 where
  pub grown : Extends old new
  pub ordered : AreNormalNodes new
  pub below : place < length new
  pub is : normal_in new place ≡ form

-- the new list extends the old one, and the parts at the two places are these
pub record AddsPair (old new : List NormalNode) (pair : NegationPair) (yes no : NormalForm) : Type 0 where
  pub grown : Extends old new
  pub ordered : AreNormalNodes new
  pub within : IsWithin new pair
  pub is_yes : normal_in new pair.yes ≡ yes
  pub is_no : normal_in new pair.no ≡ no

-- the places of the normal forms of a formula and its negation
pub record StandsFor (nodes : List NormalNode) (pair : NegationPair) (f : Formula) : Type 0 where
  pub within : IsWithin nodes pair
  pub is_yes : normal_in nodes pair.yes ≡ normal true f
  pub is_no : normal_in nodes pair.no ≡ normal false f

-- the places of the negation, swapped
abbrev pub negated : NegationPair → NegationPair
negated pair = record { yes = pair.no; no = pair.yes }

-- the place of the formula, or of its negation
abbrev pub side : NegationPair → Bool → ℕ
side pair true = pair.yes
side pair false = pair.no

-- the new list extends the old one, and the pair stands for the normal forms of the formula and its negation
abbrev pub AddsFormula : List NormalNode → List NormalNode → NegationPair → Formula → Type 0
AddsFormula old new pair f = AddsPair old new pair (normal true f) (normal false f)

abbrev pub pair_in : List NegationPair → ℕ → NegationPair
pair_in pairs i = get_or pairs i (record { yes = 0; no = 0 })

abbrev pub AreWithin : List NormalNode → List NegationPair → Type 0
AreWithin nodes pairs = (i : ℕ) → i < length pairs → IsWithin nodes (pair_in pairs i)

-- each pair stands for the formula with the same index
abbrev pub PairsStand : List NormalNode → List NegationPair → List Formula → Type 0
PairsStand nodes pairs fs = (i : ℕ) → i < length pairs → StandsFor nodes (pair_in pairs i) (get_or fs i (constant false))
