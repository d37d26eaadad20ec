-- Lists of nodes that grow.
use Rattle.std.specs.Prelude.{◌≡◌, ℕ, Bool, ◌<◌, All, List, [], ◌∷◌, ◌++◌, length}
use Rattle.pg_ltl.specs.declared.normal.NormalNode.{NormalNode}
use Rattle.pg_ltl.specs.NormalForms.{NormalForm, Holds}
use Rattle.pg_ltl.specs.Mirrors.Nodes.{normal_node_in, AreNormalNodes}
use Rattle.pg_ltl.specs.Mirrors.Pairs.{Extends}
use Rattle.pg_means_look.specs.Mirrors.Choices.{part, AreForms}
use Rattle.pg_satisfies_promises.specs.Mirrors.Promises.{AllHold}

abbrev pub AreWithin : List NormalNode → List ℕ → Type 0
AreWithin nodes places = All (λ place. place < length nodes) places

-- the new list extends the old one, and has this node at this place
pub record AddsNode (old new : List NormalNode) (node : NormalNode) (place : ℕ) : Type 0 where
  pub grown : Extends old new
  pub ordered : AreNormalNodes new
  pub below : place < length new
  pub is : normal_node_in new place ≡ node

-- the new list extends the old one, and where all these forms hold, so does the one at the place
pub record AddsConjunction (old new : List NormalNode) (conjuncts : List ℕ) (place : ℕ) : Type 0 where
  pub grown : Extends old new
  pub ordered : AreNormalNodes new
  pub below : place < length new
  pub holds : (forms : List NormalForm) → AreForms new forms → (word : ℕ → ℕ → Bool) (t : ℕ) → AllHold word forms t conjuncts
      → Holds word (part forms place) t

-- wherever the form at the place holds, all these do
pub record Gives (nodes : List NormalNode) (place : ℕ) (list : List ℕ) : Type 0 where
  pub within : AreWithin nodes list
  pub holds : (forms : List NormalForm) → AreForms nodes forms → (word : ℕ → ℕ → Bool) (t : ℕ) → Holds word (part forms place) t
      → AllHold word forms t list

-- a place is taken apart: it moves from what waits to what was found, or its conjuncts wait in its stead
pub record TakesApart (nodes : List NormalNode) (place : ℕ) (old_waiting new_waiting old_found new_found : List ℕ) : Type 0 where
  pub waiting : AreWithin nodes new_waiting
  pub found : AreWithin nodes new_found
  pub holds : (forms : List NormalForm) → AreForms nodes forms → (word : ℕ → ℕ → Bool) (t : ℕ) → Holds word (part forms place) t
      → AllHold word forms t old_waiting → AllHold word forms t old_found
      → AllHold word forms t new_waiting × AllHold word forms t new_found

-- the new list extends the old one, and where the forms of `few` hold, so do the new tries
pub record AddsTries (old new : List NormalNode) (few old_tries new_tries : List ℕ) : Type 0 where
  pub grown : Extends old new
  pub ordered : AreNormalNodes new
  pub within : AreWithin new new_tries
  pub holds : (forms : List NormalForm) → AreForms new forms → (word : ℕ → ℕ → Bool) (t : ℕ) → AllHold word forms t few
      → AllHold word forms t old_tries → AllHold word forms t new_tries

-- the new list extends the old one, and wherever the form at the place holds, all these do, the last of which is at the place
pub record AddsGiven (old new : List NormalNode) (place : ℕ) (list : List ℕ) : Type 0 where
  pub grown : Extends old new
  pub ordered : AreNormalNodes new
  pub gives : Gives new place list
  pub others : List ℕ
  pub last : list ≡ others ++ place ∷ []
