-- Normal forms that say the same, while a simpler one is built.
use Rattle.std.specs.Prelude.{◌≡◌, ℕ, ◌<◌, Bool, List, length, get_or}
use Rattle.pg_ltl.specs.declared.normal.NormalNode.{NormalNode}
use Rattle.pg_ltl.specs.NormalForms.{NormalForm, top, Holds}
use Rattle.pg_ltl.specs.Mirrors.Nodes.{normal_in, AreNormalNodes}
use Rattle.pg_ltl.specs.Mirrors.Pairs.{Extends}
use Rattle.pg_means.specs.declared.simplified.Operand.{Operand}

-- both hold on the same words from the same steps on
pub record SayTheSame (f g : NormalForm) : Type 0 where
  pub to : (word : ℕ → ℕ → Bool) (t : ℕ) → Holds word f t → Holds word g t
  pub from : (word : ℕ → ℕ → Bool) (t : ℕ) → Holds word g t → Holds word f t

-- the new list extends the old one, and the part at the place says the same as this formula
pub record AddsSame (old new : List NormalNode) (place : ℕ) (f : NormalForm) : Type 0 where
  pub grown : Extends old new
  pub ordered : AreNormalNodes new
  pub below : place < length new
  pub same : SayTheSame (normal_in new place) f

-- the part has this operator, with the constant as its first operand
pub record HasOperand (op : NormalForm → NormalForm → NormalForm) (constant : NormalForm) (nodes : List NormalNode) (place : ℕ) (found : Operand)
    : Type 0 where
  pub is : normal_in nodes place ≡ op constant (normal_in nodes found.operand)
  pub constant_is : normal_in nodes found.constant ≡ constant
  pub constant_below : found.constant < place
  pub operand_below : found.operand < place

abbrev pub AreBelow : ℕ → List ℕ → Type 0
AreBelow bound places = (i : ℕ) → i < length places → get_or places i 0 < bound

-- the part at each place says the same as the formula with the same index
pub record PlacesStand (nodes : List NormalNode) (places : List ℕ) (fs : List NormalForm) : Type 0 where
  pub same : (i : ℕ) → i < length places → SayTheSame (normal_in nodes (get_or places i 0)) (get_or fs i top)
