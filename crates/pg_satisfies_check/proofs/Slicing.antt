-- A run of a circuit is one of each part.
use Rattle.std.proofs.Common.{◌≡◌, ℕ, suc, ◌<◌, false, List, [], ◌∷◌, length, get_or, ap, subst, ◌∙◌, arith}
use Rattle.std.specs.Prelude.{Contains}
use Rattle.std.proofs.lemmas.List.{get_or_default}
use Rattle.pg_ltl.specs.NormalForms.{NormalForm}
use Rattle.pg_aiger.specs.declared.gate.Gate.{Gate}
use Rattle.pg_aiger.specs.declared.gate.Latch.{Latch}
use Rattle.pg_aiger.specs.Circuits.{Circuit, latch_at, no_latch}
use Rattle.pg_aiger.specs.Runs.{Valuation, value, Satisfies, IsRun}
use Rattle.pg_satisfies_check.specs.Mirrors.Known.{Meets}
use Rattle.pg_satisfies_check.specs.Satisfaction.{IsUnsatisfied}
use Rattle.pg_satisfies_check.specs.Satisfaction.{IsPartOf}
use Rattle.pg_satisfies_check.proofs.Knowing.{met_at}

met_from : (v : Valuation) (gates : List Gate) → ((k : ℕ) (d : Gate) → k < length gates → Meets v (get_or gates k d)) → Satisfies v gates
met_from v [] h = tt
met_from v (g ∷ gs) h = (h 0 g (omega arith), met_from v gs (λ k d lt. h (suc k) d (omega arith)))

module _ (part whole : Circuit) (is : IsPartOf part whole) (bare : part.inputs ≡ []) where
  met_part : (v : Valuation) → Satisfies v whole.gates → Satisfies v part.gates
  met_part v met = met_from v part.gates (λ k d lt. go (get_or part.gates k d) (is.gates k d lt))
    where
      go : (g : Gate) → Contains whole.gates g → Meets v g
      go g (j, lt, e) = subst (Meets v) e (met_at v whole.gates j g met lt)

  latch_of : (j : ℕ) → j < length part.latches → (k : ℕ) × (k < length whole.latches) × (latch_at whole k ≡ latch_at part j)
  latch_of j lt = go (latch_at part j) (is.latches j no_latch lt)
    where
      go : (x : Latch) → Contains whole.latches x → (k : ℕ) × (k < length whole.latches) × (latch_at whole k ≡ x)
      go x (k, lt, e) = (k, lt, get_or_default whole.latches k no_latch x lt ∙ e)

  pub run_part : (input : ℕ → ℕ) (count : ℕ) (run : ℕ → Valuation) → IsRun whole input count run → IsRun part input count run
  run_part input count run r = record {
    constant = r.constant;
    inputs = λ t lt j l. let none : length part.inputs ≡ 0 = ap length bare in absurd (omega arith);
    first = λ j some l. let h = latch_of j l in
        subst (λ (x : Latch). value (run 0) x.literal ≡ false) h.2 (r.first h.0 some h.1);
    later = λ t j lt l. let h = latch_of j l in
        subst (λ (x : Latch). value (run (suc t)) x.literal ≡ value (run t) x.next) h.2 (r.later t h.0 lt h.1);
    gates = λ t lt. met_part (run t) (r.gates t lt);
  }

pub inheritance : (part whole : Circuit) (literals : List ℕ) (f : NormalForm) → IsPartOf part whole → part.inputs ≡ []
    → IsUnsatisfied part literals f → IsUnsatisfied whole literals f
inheritance part whole literals f is bare none input run endless =
    none input run (λ count. run_part part whole is bare input count run (endless count))
