-- Formulas as lists of their parts, each after its operands.
use Rattle.std.specs.Prelude.{ℕ, suc, ◌<◌, ◌≤◌, max, false, List, [], ◌∷◌, ◌++◌, length, get_or}
use Rattle.std.specs.List.{fold}
use Rattle.pg_ltl.specs.declared.formula.FormulaNode.{FormulaNode}
use Rattle.pg_ltl.specs.declared.formula.FormulaNode.TheVariants as parts
use Rattle.pg_ltl.specs.declared.normal.NormalNode.{NormalNode}
use Rattle.pg_ltl.specs.declared.normal.NormalNode.TheVariants as forms
use Rattle.pg_ltl.specs.Formulas.{Formula, constant, proposition, bracket, one, two}
use Rattle.pg_ltl.specs.NormalForms.{NormalForm, top, bottom, literal, both, either, next, until, release}

-- the meaning of each part, from the meanings of the parts before it
abbrev pub meanings : {A B : Type 0} → (List B → A → B) → List A → List B
meanings at nodes = fold (λ before node. before ++ (at before node ∷ [])) [] nodes

abbrev pub formula_at : List Formula → FormulaNode → Formula
formula_at before (parts.Constant value) = constant value
formula_at before (parts.Proposition p) = proposition p
formula_at before (parts.Bracket a) = bracket (get_or before a (constant false))
formula_at before (parts.One op a) = one op (get_or before a (constant false))
formula_at before (parts.Two op a b) = two op (get_or before a (constant false)) (get_or before b (constant false))

abbrev pub formulas_of : List FormulaNode → List Formula
formulas_of nodes = meanings formula_at nodes

abbrev pub formula_in : List FormulaNode → ℕ → Formula
formula_in nodes place = get_or (formulas_of nodes) place (constant false)

abbrev pub node_in : List FormulaNode → ℕ → FormulaNode
node_in nodes place = get_or nodes place (parts.Constant false)

-- the place after the operands of a part
abbrev pub reach : FormulaNode → ℕ
reach (parts.Constant value) = 0
reach (parts.Proposition p) = 0
reach (parts.Bracket a) = suc a
reach (parts.One op a) = suc a
reach (parts.Two op a b) = max (suc a) (suc b)

-- each part comes after its operands
abbrev pub AreFormulaNodes : List FormulaNode → Type 0
AreFormulaNodes nodes = (place : ℕ) → place < length nodes → reach (node_in nodes place) ≤ place

abbrev pub normal_at : List NormalForm → NormalNode → NormalForm
normal_at before forms.Top = top
normal_at before forms.Bottom = bottom
normal_at before (forms.Literal p value) = literal p value
normal_at before (forms.Both a b) = both (get_or before a top) (get_or before b top)
normal_at before (forms.Either a b) = either (get_or before a top) (get_or before b top)
normal_at before (forms.Next a) = next (get_or before a top)
normal_at before (forms.Until a b) = until (get_or before a top) (get_or before b top)
normal_at before (forms.Release a b) = release (get_or before a top) (get_or before b top)

abbrev pub normals_of : List NormalNode → List NormalForm
normals_of nodes = meanings normal_at nodes

abbrev pub normal_in : List NormalNode → ℕ → NormalForm
normal_in nodes place = get_or (normals_of nodes) place top

abbrev pub normal_node_in : List NormalNode → ℕ → NormalNode
normal_node_in nodes place = get_or nodes place forms.Top

abbrev pub normal_reach : NormalNode → ℕ
normal_reach forms.Top = 0
normal_reach forms.Bottom = 0
normal_reach (forms.Literal p value) = 0
normal_reach (forms.Both a b) = max (suc a) (suc b)
normal_reach (forms.Either a b) = max (suc a) (suc b)
normal_reach (forms.Next a) = suc a
normal_reach (forms.Until a b) = max (suc a) (suc b)
normal_reach (forms.Release a b) = max (suc a) (suc b)

-- each part comes after its operands
abbrev pub AreNormalNodes : List NormalNode → Type 0
AreNormalNodes nodes = (place : ℕ) → place < length nodes → normal_reach (normal_node_in nodes place) ≤ place
