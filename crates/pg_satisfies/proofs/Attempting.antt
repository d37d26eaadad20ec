-- What attempts at promises show.
use Rattle.std.proofs.Common.{◌≡◌, ℕ, suc, ◌+◌, ◌<◌, Bool, true, List, [], length, get_or, subst, sym, ap, arith}
use Rattle.std.proofs.lemmas.List.{length-map}
use Rattle.std.specs.Bool.{OnTrue}
use Rattle.pg_aiger_netlist.specs.Steps.{spelt}
use Rattle.std.specs.declared.vec.Vec.{Vec}
use Rattle.std.specs.declared.alloc.Global.{Global}
use Rattle.pg_aiger.specs.Circuits.{Circuit}
use Rattle.pg_aiger.specs.Runs.{Valuation}
use Rattle.pg_ltl.specs.declared.normal.NormalNode.{NormalNode}
use Rattle.pg_ltl.specs.NormalForms.{NormalForm, Holds}
use Rattle.pg_ltl.specs.Mirrors.Nodes.{normal_in}
use Rattle.pg_means_look.specs.Lassos.{lasso}
use Rattle.pg_satisfies_check.specs.Satisfaction.{IsEndlessRun, IsPartOf, IsUnsatisfied, run_word}
use Rattle.pg_satisfies_check.specs.Mirrors.Lassos.{letters_of}
use Rattle.pg_satisfies.specs.Mirrors.Attempts.{HoldsOn, Shows, ShowsAll}
use Rattle.pg_satisfies.specs.declared.refuting.AttemptOutcome.{AttemptOutcome}
use Rattle.pg_satisfies.specs.declared.refuting.AttemptOutcome.TheVariants.{Refuted, Violated, GivenUp, Unshown}

on_true : {P : Type 0} (b : Bool) → b ≡ true → OnTrue b P → P
on_true {P} b e h = subst (λ x. OnTrue x P) e h

pub holds_on : (circuit part : Circuit) (own literals inputs : List ℕ) (f : NormalForm) (letters given : List (Vec Bool Global)) (back : ℕ) (yes' : Bool)
    → IsPartOf part circuit → own ≡ literals → inputs ≡ circuit.inputs → given ≡ letters → back < length letters → yes' ≡ true
    → OnTrue yes' ((whole : Circuit) (run : ℕ → Valuation) → IsPartOf part whole → whole.inputs ≡ inputs
    → IsEndlessRun whole (lasso (letters_of given) back) run → Holds (run_word own run) f 0)
    → HoldsOn circuit literals f (letters_of letters) back
holds_on circuit part own literals inputs f letters given back yes' is same tied passed round shown shows = record {
  comes_round = let l = length-map letters (λ (row : Vec Bool Global). spelt row.items) in omega (arith, l);
  holds = λ run endless.
      subst (λ (ls : List ℕ). Holds (run_word ls run) f 0) same
      (on_true yes' shown shows circuit run is (sym tied)
      (subst (λ (rows : List (Vec Bool Global)). IsEndlessRun circuit (lasso (letters_of rows) back) run) (sym passed) endless));
}

pub refuted : (circuit part : Circuit) (own literals : List ℕ) (f : NormalForm) (yes' : Bool) → IsPartOf part circuit → own ≡ literals → yes' ≡ true
    → OnTrue yes' ((whole : Circuit) → IsPartOf part whole → IsUnsatisfied whole own f) → IsUnsatisfied circuit literals f
refuted circuit part own literals f yes' is same shown shows =
    subst (λ (ls : List ℕ). IsUnsatisfied circuit ls f) same (on_true yes' shown shows circuit is)

-- what the last try shows, the promise shows
pub shows_last : (circuit : Circuit) (literals : List ℕ) (nodes : List NormalNode) (tries : List ℕ) (k place : ℕ) (o : AttemptOutcome)
    → place ≡ get_or tries k 0 → k + 1 ≡ length tries → Shows circuit literals nodes place o → ShowsAll circuit literals nodes tries o
shows_last circuit literals nodes tries k place Refuted e last shows =
    (k, omega arith, subst (λ p. IsUnsatisfied circuit literals (normal_in nodes p)) e shows)
shows_last circuit literals nodes tries k place (Violated letters back) e last shows =
    (k, last, subst (λ p. HoldsOn circuit literals (normal_in nodes p) (letters_of letters.items) back) e shows)
shows_last circuit literals nodes tries k place GivenUp e last shows = tt
shows_last circuit literals nodes tries k place Unshown e last shows = tt
