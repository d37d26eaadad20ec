-- What the outputs of `verify --ltl` say.
use Rattle.pg_cli_command.proofs.Common.{◌≡◌, ◌∙◌, ℕ, List, get_or, ap, sym, subst, refl, arith}
use Rattle.std.specs.Prelude.{Bool, true, false, not, ◌↔◌}
use Rattle.pg_ltl.specs.Laws as formulas
use Rattle.pg_aiger.specs.Circuits.{Circuit}
use Rattle.pg_aiger.specs.CircuitText.{Symbol}
use Rattle.pg_aiger_reader.specs.Laws as circuits
use Rattle.pg_aiger_netlist.specs.Laws.{OneRun}
use Rattle.pg_ltl.specs.Formulas.{Formula}
use Rattle.pg_satisfies.specs.Laws as judge
use Rattle.pg_satisfies.specs.Verdicts.{asked, IsYes}
use Rattle.pg_satisfies.specs.declared.verdict.SatisfactionVerdict.{SatisfactionVerdict}
use Rattle.pg_satisfies.specs.declared.verdict.SatisfactionVerdict.TheVariants.{Satisfied, Violated}
use Rattle.pg_satisfies_texts.specs.Judging.{IsJudged}
use Rattle.pg_satisfies_texts.specs.Printing.{satisfied_line, verdict_text}
use Rattle.pg_cli_command.specs.Satisfying.{TellsRuns, SatisfiesDecides}

-- the two lines begin with other letters
then_yes : (environment : Bool) (verdict : SatisfactionVerdict) → verdict_text environment verdict ≡ satisfied_line environment → IsYes verdict
then_yes environment Satisfied e = tt
then_yes true (Violated letters back) e =
    let first : ◌≡◌ {A = ℕ} 70 82 = ap (λ (l : List ℕ). get_or l 0 0) e in absurd (omega arith)
then_yes false (Violated letters back) e =
    let first : ◌≡◌ {A = ℕ} 82 65 = ap (λ (l : List ℕ). get_or l 0 0) e in absurd (omega arith)

then_line : (environment : Bool) (verdict : SatisfactionVerdict) → IsYes verdict → verdict_text environment verdict ≡ satisfied_line environment
then_line environment Satisfied is_yes = refl
then_line environment (Violated letters back) is_yes = absurd is_yes

module _ (one_formula : formulas.OneReading) (one_circuit : circuits.OneReading) (one_run : OneRun) (decides : judge.SatisfiesDecides) where
  tells : (environment : Bool) (first second output : List ℕ) (verdict : SatisfactionVerdict) → IsJudged first second environment verdict
      → output ≡ verdict_text environment verdict → TellsRuns environment first second output
  tells environment first second output verdict j printed =
      let passes = decides j.circuit j.literals (asked (not environment) j.formula) verdict j.acyclic j.says in
      record {
        names = j.names;
        formula = j.formula;
        circuit = j.circuit;
        symbols = j.symbols;
        literals = j.literals;
        paired = j.paired;
        meant = j.meant;
        one_formula = λ ns f c ss p. one_formula first ns j.names f j.formula p.spelt j.paired.spelt;
        one_circuit = λ ns f c ss p. one_circuit second c j.circuit ss j.symbols p.read j.paired.read;
        one_run = λ input. one_run j.circuit input j.acyclic;
        passes = (
          λ e. passes.0 (then_yes environment verdict (sym printed ∙ e)),
          λ is. printed ∙ then_line environment verdict (passes.1 is),
        );
      }

  pub satisfies_decides : SatisfiesDecides
  satisfies_decides = record {
    joined = λ environment input output j.
        (j.first, j.second, j.parted, tells environment j.first j.second output j.verdict j.judged j.printed);
    apart = λ environment first second output j.
        subst (λ (t : List ℕ). TellsRuns environment t second output) j.parted.0
        (subst (λ (t : List ℕ). TellsRuns environment j.first t output) j.parted.1
        (tells environment j.first j.second output j.verdict j.judged j.printed));
  }
