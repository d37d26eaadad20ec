-- What promises that are refuted, or one that isn't, say of the formula.
use Rattle.std.proofs.Common.{◌≡◌, ℕ, ◌+◌, ◌<◌, Bool, true, false, List, [], ◌∷◌, ◌++◌, length, get_or, refl, sym, ap, subst, ◌∙◌, arith, map, take}
use Rattle.std.specs.Prelude.{not, All}
use Rattle.std.specs.declared.vec.Vec.{Vec}
use Rattle.std.specs.declared.alloc.Global.{Global}
use Rattle.std.proofs.lemmas.List.{get_or-map, take_more}
use Rattle.std.proofs.lemmas.List.Elements.{All-push}
use Rattle.pg_aiger.specs.Circuits.{Circuit}
use Rattle.pg_aiger.specs.Runs.{Valuation}
use Rattle.pg_ltl.specs.declared.normal.NormalNode.{NormalNode}
use Rattle.pg_ltl.specs.Formulas.{Formula}
use Rattle.pg_ltl.specs.NormalForms.{NormalForm, Holds, normal}
use Rattle.pg_ltl.specs.Mirrors.Nodes.{normal_in, normals_of}
use Rattle.pg_ltl.proofs.Normality.{normality}
use Rattle.pg_means_look.specs.Mirrors.Tables.{row_at}
use Rattle.pg_satisfies_check.specs.Satisfaction.{IsEndlessRun, IsUnsatisfied, run_word}
use Rattle.pg_satisfies_promises.specs.Mirrors.Promises.{AllHold, AreRefuted, Splits, IsImplied}
use Rattle.pg_satisfies.specs.Verdicts.{asked, IsViolated, letters_of}
use Rattle.pg_satisfies.specs.Mirrors.Attempts.{HoldsOn, ShowsAll}
use Rattle.pg_satisfies.specs.declared.refuting.AttemptOutcome.TheVariants.{Refuted, Violated}

-- the normal form of what is to be refuted
pub asked_normal : (positive : Bool) (f : Formula) → normal (not positive) f ≡ normal false (asked positive f)
asked_normal true f = refl
asked_normal false f = refl

module _ (circuit : Circuit) (literals : List ℕ) (nodes : List NormalNode) where
  -- on each endless run some try of each of these promises fails
  abbrev pub AllRefuted : List (Vec ℕ Global) → Type 0
  AllRefuted promises =
      (input : ℕ → ℕ) (run : ℕ → Valuation) → IsEndlessRun circuit input run → AreRefuted (run_word literals run) (normals_of nodes) 0 promises

  pub unsatisfied : (root : ℕ) (promises : List (Vec ℕ Global)) (f : NormalForm) → normal_in nodes root ≡ f → Splits nodes root promises
      → AllRefuted promises → IsUnsatisfied circuit literals f
  unsatisfied root promises f e splits refuted = λ input run endless holds.
      splits (run_word literals run) 0 (subst (λ g. Holds (run_word literals run) g 0) (sym e) holds) (refuted input run endless)

  pub refuted_more : (promises : List (Vec ℕ Global)) (i : ℕ) (v : Vec ℕ Global) (tries : List ℕ) → i < length promises
      → v ≡ get_or promises i v → tries ≡ v.items → ShowsAll circuit literals nodes tries Refuted → AllRefuted (take i promises)
      → AllRefuted (take (i + 1) promises)
  refuted_more promises i v tries lt is same (k, within, none) before = λ input run endless.
      let P : Vec ℕ Global → Type 0 = λ t. ¬ AllHold (run_word literals run) (normals_of nodes) 0 t.items in
      let here : P v = λ all.
      none input run endless (subst (λ ts. All (λ place. Holds (run_word literals run) (normal_in nodes place) 0) ts) (sym same) all k 0 within) in
      subst (All P) (sym (take_more promises i v lt)) (All-push P (take i promises) (get_or promises i v) (before input run endless)
      (subst P is here))

  pub violated : (root : ℕ) (promises : List (Vec ℕ Global)) (f : Formula) (i : ℕ) (v : Vec ℕ Global) (tries : List ℕ)
      (letters : Vec (Vec Bool Global) Global) (back : ℕ) → normal_in nodes root ≡ normal false f → IsImplied nodes root promises
      → i < length promises → v ≡ get_or promises i v → tries ≡ v.items
      → ShowsAll circuit literals nodes tries (Violated letters back) → IsViolated circuit literals f (letters_of letters.items) back
  violated root promises f i v tries letters back e implied lt is same (k, last, shows) =
      let row : row_at promises i ≡ tries = row_is promises i v lt is ∙ sym same in
      record {
        comes_round = shows.comes_round;
        fails = λ run endless sat.
            let word = run_word literals run in
            let whole : Holds word (normal_in nodes root) 0 =
            (implied i lt).last k (subst (λ (ts : List ℕ). k + 1 ≡ length ts) (sym row) last) word 0
            (subst (λ (ts : List ℕ). Holds word (normal_in nodes (get_or ts k 0)) 0) (sym row) (shows.holds run endless)) in
            (normality word f 0).no.1 (subst (λ g. Holds word g 0) e whole) sat;
      }
    where
      row_is : (promises : List (Vec ℕ Global)) (i : ℕ) (v : Vec ℕ Global) → i < length promises → v ≡ get_or promises i v
          → row_at promises i ≡ v.items
      row_is promises i v lt is =
          get_or-map (λ (x : Vec ℕ Global). x.items) promises i v [] lt ∙ ap (λ (x : Vec ℕ Global). x.items) (sym is)
