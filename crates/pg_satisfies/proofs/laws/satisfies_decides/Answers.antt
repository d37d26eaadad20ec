use Rattle.std.proofs.Common.{ℕ, List}
use Rattle.pg_aiger.specs.Circuits.{Circuit}
use Rattle.pg_aiger_netlist.specs.Laws.{OneRun}
use Rattle.pg_aiger_netlist.specs.Netlists.{IsAcyclic}
use Rattle.pg_ltl.specs.Formulas.{Formula}
use Rattle.pg_satisfies_check.specs.Satisfaction.{IsSatisfied}
use Rattle.pg_means_look.specs.Lassos.{lasso}
use Rattle.pg_satisfies.specs.Verdicts.{SaysOf, IsYes, letters_of}
use Rattle.pg_satisfies.specs.declared.verdict.SatisfactionVerdict.{SatisfactionVerdict}
use Rattle.pg_satisfies.specs.declared.verdict.SatisfactionVerdict.TheVariants.{Satisfied, Violated}
use Rattle.pg_satisfies.proofs.Endless.{has_endless}
use Rattle.pg_satisfies.proofs.laws.satisfies_decides.Goals as goal

then_satisfied : (circuit : Circuit) (literals : List ℕ) (f : Formula) (verdict : SatisfactionVerdict) → SaysOf circuit literals f verdict
    → IsYes verdict → IsSatisfied circuit literals f
then_satisfied circuit literals f Satisfied says is_yes = says
then_satisfied circuit literals f (Violated letters back) says is_yes = absurd is_yes

then_yes : OneRun → (circuit : Circuit) (literals : List ℕ) (f : Formula) (verdict : SatisfactionVerdict) → IsAcyclic circuit
    → SaysOf circuit literals f verdict → IsSatisfied circuit literals f → IsYes verdict
then_yes one_run circuit literals f Satisfied acyclic says is = tt
then_yes one_run circuit literals f (Violated letters back) acyclic says is =
    let input : ℕ → ℕ = lasso (letters_of letters.items) back in
    let run = has_endless one_run circuit input acyclic in
    says.fails run.0 run.1 (is input run.0 run.1)

pub returns : goal.returns
returns c = λ circuit literals f verdict acyclic says.
    (then_satisfied circuit literals f verdict says, then_yes c.one_run.ensures circuit literals f verdict acyclic says)
