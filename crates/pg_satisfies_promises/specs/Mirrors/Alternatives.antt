-- The alternatives of a form.
use Rattle.std.specs.Prelude.{ℕ, suc, Bool, ◌<◌, All, List, length}
use Rattle.std.specs.declared.vec.Vec.{Vec}
use Rattle.std.specs.declared.alloc.Global.{Global}
use Rattle.pg_ltl.specs.declared.normal.NormalNode.{NormalNode}
use Rattle.pg_ltl.specs.declared.normal.NormalNode.TheVariants as nodes
use Rattle.pg_ltl.specs.NormalForms.{NormalForm, both, next, until, Holds}
use Rattle.pg_ltl.specs.Mirrors.Nodes.{AreNormalNodes}
use Rattle.pg_ltl.specs.Mirrors.Pairs.{Extends}
use Rattle.pg_means_look.specs.Mirrors.Choices.{part, AreForms}
use Rattle.pg_means_look.specs.Mirrors.Tables.{row_at}
use Rattle.pg_satisfies_promises.specs.Mirrors.Promises.{IsStronger}
use Rattle.pg_satisfies_promises.specs.declared.frame.OperandFrame.{OperandFrame}
use Rattle.pg_satisfies_promises.specs.declared.frame.OperandFrame.TheVariants as frames
use Rattle.pg_satisfies_promises.specs.Mirrors.Growing.{AreWithin}

-- no form at these places holds from step t on
abbrev pub NoneHolds : (ℕ → ℕ → Bool) → List NormalForm → ℕ → List ℕ → Type 0
NoneHolds word forms t places = All (λ place. ¬ Holds word (part forms place) t) places

-- wherever a form at one of these places holds, this form does
abbrev pub AreStronger : List NormalForm → NormalForm → List ℕ → Type 0
AreStronger forms weak places = All (λ place. IsStronger (part forms place) weak) places

-- wherever the form at the place holds, one of the alternatives does, and the other way around
pub record IsSplit (forms : List NormalForm) (place : ℕ) (alternatives : List ℕ) : Type 0 where
  pub holds : (word : ℕ → ℕ → Bool) (t : ℕ) → Holds word (part forms place) t → ¬ NoneHolds word forms t alternatives
  pub stronger : AreStronger forms (part forms place) alternatives

-- each form has the alternatives in the row with the same number
abbrev pub AreSplit : List NormalForm → List (Vec ℕ Global) → Type 0
AreSplit forms rows = (place : ℕ) → place < length rows → IsSplit forms place (row_at rows place)

abbrev pub AreRowsWithin : List NormalNode → List (Vec ℕ Global) → Type 0
AreRowsWithin list rows = All (λ (row : Vec ℕ Global). AreWithin list row.items) rows

-- the node that the frame makes of an operand
abbrev pub framed_node : OperandFrame → ℕ → NormalNode
framed_node (frames.Both left) operand = nodes.Both left operand
framed_node frames.Next operand = nodes.Next operand
framed_node (frames.Until left) operand = nodes.Until left operand

-- the form that the frame makes of an operand
abbrev pub framed : List NormalForm → OperandFrame → NormalForm → NormalForm
framed forms (frames.Both left) f = both (part forms left) f
framed forms frames.Next f = next f
framed forms (frames.Until left) f = until (part forms left) f

-- the place after the left operand
abbrev pub left_reach : OperandFrame → ℕ
left_reach (frames.Both left) = suc left
left_reach frames.Next = 0
left_reach (frames.Until left) = suc left

-- the frame around any of the operands doesn't hold from step t on
abbrev pub NoFrameHolds : (ℕ → ℕ → Bool) → List NormalForm → ℕ → OperandFrame → List ℕ → Type 0
NoFrameHolds word forms t frame operands = All (λ operand. ¬ Holds word (framed forms frame (part forms operand)) t) operands

-- wherever the frame around one of the operands holds, this form does
abbrev pub AreFramesStronger : List NormalForm → NormalForm → OperandFrame → List ℕ → Type 0
AreFramesStronger forms weak frame operands = All (λ operand. IsStronger (framed forms frame (part forms operand)) weak) operands

-- no form of the first places holds together with one of the second places
abbrev pub NoPairHolds : (ℕ → ℕ → Bool) → List NormalForm → ℕ → List ℕ → List ℕ → Type 0
NoPairHolds word forms t firsts seconds = All (λ first. NoFrameHolds word forms t (frames.Both first) seconds) firsts

-- wherever a form of the first places holds together with one of the second places, this form does
abbrev pub ArePairsStronger : List NormalForm → NormalForm → List ℕ → List ℕ → Type 0
ArePairsStronger forms weak firsts seconds = All (λ first. AreFramesStronger forms weak (frames.Both first) seconds) firsts

-- the new list extends the old one, and has the frame around each of the operands at places that were put into the list of places
pub record AddsFrames (old new : List NormalNode) (old_places new_places : List ℕ) (frame : OperandFrame) (operands : List ℕ) : Type 0 where
  pub grown : Extends old new
  pub ordered : AreNormalNodes new
  pub within : AreWithin new new_places
  pub none : (forms : List NormalForm) → AreForms new forms → (word : ℕ → ℕ → Bool) (t : ℕ) → NoneHolds word forms t new_places
      → NoneHolds word forms t old_places × NoFrameHolds word forms t frame operands
  pub stronger : (forms : List NormalForm) → AreForms new forms → (weak : NormalForm) → AreStronger forms weak old_places
      → AreFramesStronger forms weak frame operands → AreStronger forms weak new_places

-- the new list extends the old one, and has each conjunction of one of the first and one of the second at one of the places
pub record AddsProducts (old new : List NormalNode) (places firsts seconds : List ℕ) : Type 0 where
  pub grown : Extends old new
  pub ordered : AreNormalNodes new
  pub within : AreWithin new places
  pub none : (forms : List NormalForm) → AreForms new forms → (word : ℕ → ℕ → Bool) (t : ℕ) → NoneHolds word forms t places
      → NoPairHolds word forms t firsts seconds
  pub stronger : (forms : List NormalForm) → AreForms new forms → (weak : NormalForm) → ArePairsStronger forms weak firsts seconds
      → AreStronger forms weak places

-- the new list extends the old one, and has the alternatives of the form at the place, if the rows have those of the forms before it
pub record AddsAlternatives (old new : List NormalNode) (rows : List (Vec ℕ Global)) (place : ℕ) (list : List ℕ) : Type 0 where
  pub grown : Extends old new
  pub ordered : AreNormalNodes new
  pub within : AreWithin new list
  pub split : (forms : List NormalForm) → AreForms new forms → AreSplit forms rows → IsSplit forms place list

-- the new list extends the old one, and has all alternatives of the form at the place
pub record AddsAllAlternatives (old new : List NormalNode) (place : ℕ) (list : List ℕ) : Type 0 where
  pub grown : Extends old new
  pub ordered : AreNormalNodes new
  pub within : AreWithin new list
  pub split : (forms : List NormalForm) → AreForms new forms → IsSplit forms place list
