-- Which formulas the code's data stand for.
use Rattle.pg_ltl.specs.declared.formula.Formula as kept
use Rattle.pg_ltl.specs.declared.normal.NormalForm as forms
use Rattle.pg_ltl.specs.Formulas.{Formula}
use Rattle.pg_ltl.specs.NormalForms.{NormalForm}
use Rattle.pg_ltl.specs.Mirrors.Nodes.{formula_in, normal_in}

-- the formula as it is written
abbrev pub written : kept.Formula → Formula
written f = formula_in f.nodes.items f.root

abbrev pub form : forms.NormalForm → NormalForm
form f = normal_in f.nodes.items f.root
