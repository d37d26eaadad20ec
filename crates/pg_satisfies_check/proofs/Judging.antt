-- What a certificate shows of the runs of a circuit.
use Rattle.std.proofs.Common.{ℕ, suc, ◌<◌, Bool, true, false, List, arith}
use Rattle.pg_ltl.specs.NormalForms.{NormalForm, Holds}
use Rattle.pg_ltl.specs.Formulas.{Formula}
use Rattle.pg_ltl.specs.NormalForms.{normal}
use Rattle.pg_ltl.specs.Tableaux.{Each, Choice, choices_of}
use Rattle.pg_ltl.proofs.Choosing.{each_map}
use Rattle.pg_ltl.proofs.Holding.{stable}
use Rattle.pg_ltl.proofs.Normality.{normality}
use Rattle.pg_aiger.specs.Circuits.{Circuit}
use Rattle.pg_aiger.specs.Runs.{Valuation}
use Rattle.pg_satisfies_check.specs.Satisfaction.{IsEndlessRun, IsSatisfied, IsUnsatisfied, holds_in, run_word}
use Rattle.pg_satisfies_check.specs.Certificates as c
use Rattle.pg_satisfies_check.specs.Certificates.{AreBits}
use Rattle.pg_satisfies_check.proofs.Ranking.{GoesTo}
use Rattle.pg_satisfies_check.proofs.Ranking as ranking

module _ (circuit : Circuit) (literals : List ℕ) (f : NormalForm) (cert : c.EmptinessCertificate) (empty : c.IsEmptyBy circuit literals f cert) where
  record Stands (v : ℕ) (u : Valuation) : Type 0 where
    pub below : v < cert.count
    pub step : c.IsStep circuit u
    pub cube : AreBits circuit.latches u (cert.node v).cube

  record Follows (u w : Valuation) : Type 0 where
    pub step : c.IsStep circuit w
    pub follows : c.Follows circuit u w

  abbrev asks : ℕ → List NormalForm
  asks v = (cert.node v).asks

  abbrev Going : ℕ → Valuation → Choice → Type 0
  Going v u x = GoesTo Valuation (holds_in literals) Stands Follows asks cert.rank cert.witness v u x

  goes : (v : ℕ) (u : Valuation) → Stands v u → ¬ ¬ Each (Going v u) (choices_of (holds_in literals u) (asks v))
  goes v u s none = empty.goes v u s.below s.step s.cube (λ each.
      none (each_map (c.Goes circuit cert v u) (Going v u) (choices_of (holds_in literals u) (asks v))
      (λ x g. record {
        to = g.to;
        stands = λ w fs. record { below = g.below; step = fs.step; cube = g.stands w fs.step fs.follows };
        fewer = g.fewer;
        fine = g.fine;
      })
      each))

  module _ (input : ℕ → ℕ) (run : ℕ → Valuation) (is : IsEndlessRun circuit input run) where
    step : (t : ℕ) → c.IsStep circuit (run t)
    step t = record { constant = (is (suc t)).constant t (omega arith); gates = (is (suc t)).gates t (omega arith) }

    follows : (t : ℕ) → Follows (run t) (run (suc t))
    follows t = record { step = step (suc t); follows = λ j l. (is (suc (suc t))).later t j (omega arith) l }

    none_holds : ¬ Holds (λ t. holds_in literals (run t)) f 0
    none_holds = ranking.none_holds Valuation (holds_in literals) Stands Follows asks cert.rank cert.witness goes run follows f empty.start
        (record {
          below = empty.below;
          step = step 0;
          cube = empty.stands (run 0) (step 0) (λ j l. (is 1).first j (omega arith) l);
        })
        empty.fewer

pub emptiness : (circuit : Circuit) (literals : List ℕ) (f : NormalForm) (cert : c.EmptinessCertificate) → c.IsEmptyBy circuit literals f cert
    → IsUnsatisfied circuit literals f
emptiness circuit literals f cert empty input run is = none_holds circuit literals f cert empty input run is

pub satisfaction : (circuit : Circuit) (literals : List ℕ) (f : Formula) → IsUnsatisfied circuit literals (normal false f)
    → IsSatisfied circuit literals f
satisfaction circuit literals f none input run is =
    let n = normality (run_word literals run) f 0 in
    n.yes.1 (stable (run_word literals run) (normal true f) 0 (λ fails. none input run is (n.no.0 (λ s. fails (n.yes.0 s)))))
