-- The choices of a tableau, by the places of the formulas that they ask for.
use Rattle.std.specs.Prelude.{◌≡◌, ℕ, ◌<◌, List, map, length, slice_index_or}
use Rattle.pg_ltl.specs.declared.normal.NormalNode.{NormalNode}
use Rattle.pg_ltl.specs.declared.normal.NormalNode.TheVariants as nodes
use Rattle.pg_ltl.specs.NormalForms.{NormalForm, top}
use Rattle.pg_ltl.specs.Tableaux.{Choice, Each, IsAmong, IsLeftOut}
use Rattle.pg_ltl.specs.Mirrors.Nodes.{normal_at}
use Rattle.pg_means_look.specs.declared.choice.Choice as kept

-- the formula at a place of a list of formulas
abbrev pub part : List NormalForm → ℕ → NormalForm
part forms place = slice_index_or forms place top

abbrev pub parts : List NormalForm → List ℕ → List NormalForm
parts forms places = map (part forms) places

-- each formula is what its node makes of the formulas before it
abbrev pub AreForms : List NormalNode → List NormalForm → Type 0
AreForms list forms = (place : ℕ) → place < length list → part forms place ≡ normal_at forms (slice_index_or list place nodes.Top)

abbrev pub choice_of : List NormalForm → kept.Choice → Choice
choice_of forms c = record { asks = parts forms c.asks.items; puts = parts forms c.puts.items }

abbrev pub choices_in : List NormalForm → List kept.Choice → List Choice
choices_in forms cs = map (choice_of forms) cs

-- d asks for no more than c, and puts off no more
abbrev pub IsNoMore : Choice → Choice → Type 0
IsNoMore d c = Each (IsAmong c.asks) d.asks × Each (IsAmong c.puts) d.puts

-- for each of these, a kept one asks for no more and puts off no more
abbrev pub AreCovered : List Choice → List Choice → Type 0
AreCovered kept all = Each (λ c. IsLeftOut c kept) all

-- what was covered before is covered now
abbrev pub Keeps : List Choice → List Choice → Type 0
Keeps old new = (c : Choice) → IsLeftOut c old → IsLeftOut c new
