-- A circuit without a cycle has an endless run on each input.
use Rattle.std.proofs.Common.{◌≡◌, ℕ, suc, ◌+◌, ◌<◌, ◌≤◌, ◌%◌, List, ◌++◌, length, ap, sym, ◌∙◌, arith}
use Rattle.std.specs.Prelude.{Contains, not, nat_eq, if◌then◌else◌, Bool, map}
use Rattle.std.proofs.lemmas.List.{get_or_default}
use Rattle.std.proofs.lemmas.List.Elements.{Contains-append_left, Contains-append_right}
use Rattle.pg_list_lemmas.proofs.Contained.{contains_mapped}
use Rattle.pg_aiger.specs.declared.gate.Gate.{Gate}
use Rattle.pg_aiger.specs.declared.gate.Latch.{Latch}
use Rattle.pg_aiger.specs.Circuits.{Circuit, latch_at, no_latch}
use Rattle.pg_aiger.specs.Runs.{Valuation, value, IsRun}
use Rattle.pg_aiger_netlist.specs.Laws.{OneRun}
use Rattle.pg_aiger_netlist.specs.Netlists.{IsAcyclic, HasOneRun, known_by, definitions, uses, variable}
use Rattle.pg_aiger_netlist.proofs.Runs.{used_literal}
use Rattle.pg_satisfies_check.specs.Satisfaction.{IsEndlessRun}

module _ (one_run : OneRun) (circuit : Circuit) (acyclic : IsAcyclic circuit) (input : ℕ → ℕ) where
  abbrev has : HasOneRun circuit input
  has = one_run circuit input acyclic

  abbrev run_of : (count : ℕ) → ℕ → Valuation
  run_of count = (has.some count).0

  abbrev is_run : (count : ℕ) → IsRun circuit input count (run_of count)
  is_run count = (has.some count).1

  -- at each step the values of the run that ends with it
  abbrev endless : ℕ → Valuation
  endless t = run_of (suc t) t

  among : (j : ℕ) → j < length circuit.latches → Contains circuit.latches (latch_at circuit j)
  among j lt = (j, lt, sym (get_or_default circuit.latches j no_latch (latch_at circuit j) lt))

  used : (l : Latch) → Contains circuit.latches l → Contains (known_by (definitions circuit)) (variable l.next)
  used l is =
      used_literal circuit l.next acyclic
      (Contains-append_right (map Gate.rhs0 circuit.gates) (map Gate.rhs1 circuit.gates ++ (map Latch.next circuit.latches ++ circuit.outputs)) l.next
      (Contains-append_right (map Gate.rhs1 circuit.gates) (map Latch.next circuit.latches ++ circuit.outputs) l.next
      (Contains-append_left (map Latch.next circuit.latches) circuit.outputs l.next (contains_mapped Latch.next circuit.latches l is))))

  same_next : (t j : ℕ) → j < length circuit.latches
      → value (run_of (suc t) t) (latch_at circuit j).next ≡ value (run_of (suc (suc t)) t) (latch_at circuit j).next
  same_next t j lt =
      ap (λ (b : Bool). if nat_eq ((latch_at circuit j).next % 2) 1 then not b else b)
      (has.one (suc t) (suc (suc t)) (run_of (suc t)) (run_of (suc (suc t))) (omega arith) (is_run (suc t)) (is_run (suc (suc t))) t
      (variable (latch_at circuit j).next) (omega arith) (used (latch_at circuit j) (among j lt)))

  is_endless : IsEndlessRun circuit input endless
  is_endless count = record {
    constant = λ t lt. (is_run (suc t)).constant t (omega arith);
    inputs = λ t lt. (is_run (suc t)).inputs t (omega arith);
    first = λ j some l. (is_run 1).first j (omega arith) l;
    later = λ t j lt l. (is_run (suc (suc t))).later t j (omega arith) l ∙ sym (same_next t j l);
    gates = λ t lt. (is_run (suc t)).gates t (omega arith);
  }

pub has_endless : OneRun → (circuit : Circuit) (input : ℕ → ℕ) → IsAcyclic circuit → (run : ℕ → Valuation) × IsEndlessRun circuit input run
has_endless one_run circuit input acyclic = (endless one_run circuit acyclic input, is_endless one_run circuit acyclic input)
