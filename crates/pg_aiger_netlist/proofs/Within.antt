-- All variables of a circuit without a cycle have a place in a row.
use Rattle.std.proofs.Common.{◌≡◌, ℕ, ◌+◌, ◌<◌, ◌≤◌, ◌/◌, ◌%◌, inl, inr, Bool, cond, eqb, List, ◌∷◌, ◌++◌, length, get_or}
use Rattle.std.proofs.Common.{arith, refl, sym, subst, ap, ◌∙◌}
use Rattle.std.specs.Prelude.{map, not, All}
use Rattle.std.specs.List.{Contains}
use Rattle.std.proofs.lemmas.List.{get_or-map, length-map}
use Rattle.std.proofs.lemmas.List.Elements.{Contains-get_or, Contains-append_left, Contains-append_right, All-contains}
use Rattle.pg_aiger.specs.declared.gate.Gate.{Gate}
use Rattle.pg_aiger.specs.declared.gate.Latch.{Latch}
use Rattle.pg_aiger.specs.Circuits.{Circuit, latch_at, no_latch}
use Rattle.pg_aiger.specs.Runs.{Valuation, value, IsStepAt, bit}
use Rattle.pg_aiger_netlist.specs.Netlists.{variable, known_by, sources, definitions, uses, IsPlain, IsAcyclic}
use Rattle.pg_aiger_netlist.specs.Steps.{AreValues}
use Rattle.pg_aiger_netlist.specs.Mirrors.Lanes.{lane_value, AreWords}
use Rattle.pg_aiger_netlist.specs.Mirrors.Marks.{variable_of, IsWithin}
use Rattle.pg_aiger_netlist.specs.Mirrors.Views.{IsOrder}
use Rattle.pg_aiger_netlist.proofs.Lists.{member_cases, member_mapped, member_unmapped}
use Rattle.pg_aiger_netlist.proofs.Gates.{defined_cases, same_literal}
use Rattle.pg_aiger_netlist.proofs.Runs.{plain_source, plain_gate, used_literal, used_next, used_output}

defined_within : (circuit : Circuit) (x : ℕ) → IsAcyclic circuit → Contains (known_by (definitions circuit)) x → x ≤ circuit.greatest
defined_within circuit x ac c = elim (member_cases 0 (map variable (definitions circuit)) x c) [
  | inl e ↦ omega (arith, e)
  | inr there ↦
      let h = member_unmapped variable (definitions circuit) x there in
      let w = (All-contains (IsPlain circuit.greatest) (definitions circuit) h.0 ac.plain h.1).within in
      let e = h.2 in omega (arith, w, e)
]

pub inputs_within : (circuit : Circuit) (n : ℕ) → IsAcyclic circuit → n ≡ circuit.greatest + 1 → All (λ literal. literal / 2 < n) circuit.inputs
inputs_within circuit n ac e j d l =
    let w = (plain_source circuit (get_or circuit.inputs j d) ac
    (Contains-append_left circuit.inputs (map Latch.literal circuit.latches) (get_or circuit.inputs j d) (Contains-get_or circuit.inputs j d l))).within in
    omega (arith, w, e)

pub latches_within : (circuit : Circuit) (n : ℕ) → IsAcyclic circuit → n ≡ circuit.greatest + 1 → All (λ latch. latch.literal / 2 < n) circuit.latches
latches_within circuit n ac e j d l =
    let w = (plain_source circuit (get_or circuit.latches j d).literal ac
    (Contains-append_right circuit.inputs (map Latch.literal circuit.latches) (get_or circuit.latches j d).literal
    (member_mapped Latch.literal circuit.latches (get_or circuit.latches j d) (Contains-get_or circuit.latches j d l)))).within in
    omega (arith, w, e)

of_use : (circuit : Circuit) (l n : ℕ) → IsAcyclic circuit → n ≡ circuit.greatest + 1 → Contains (uses circuit) l → l / 2 < n
of_use circuit l n ac e c = let w = defined_within circuit (variable l) ac (used_literal circuit l ac c) in omega (arith, w, e)

pub nexts_within : (circuit : Circuit) (n : ℕ) → IsAcyclic circuit → n ≡ circuit.greatest + 1 → All (λ latch. latch.next / 2 < n) circuit.latches
nexts_within circuit n ac e j d l =
    of_use circuit (get_or circuit.latches j d).next n ac e
    (Contains-append_right (map Gate.rhs0 circuit.gates) (map Gate.rhs1 circuit.gates ++ (map Latch.next circuit.latches ++ circuit.outputs)) here
    (Contains-append_right (map Gate.rhs1 circuit.gates) (map Latch.next circuit.latches ++ circuit.outputs) here
    (Contains-append_left (map Latch.next circuit.latches) circuit.outputs here
    (member_mapped Latch.next circuit.latches (get_or circuit.latches j d) (Contains-get_or circuit.latches j d l)))))
  where
    here : ℕ
    here = (get_or circuit.latches j d).next

pub outputs_within : (circuit : Circuit) (n : ℕ) → IsAcyclic circuit → n ≡ circuit.greatest + 1 → All (λ literal. literal / 2 < n) circuit.outputs
outputs_within circuit n ac e j d l =
    let w = defined_within circuit (variable (get_or circuit.outputs j d)) ac
    (used_output circuit (get_or circuit.outputs j d) ac (Contains-get_or circuit.outputs j d l)) in omega (arith, w, e)

pub gates_within : (circuit : Circuit) (ordered : List Gate) (n : ℕ) → IsAcyclic circuit → IsOrder circuit ordered → n ≡ circuit.greatest + 1
    → All (IsWithin n) ordered
gates_within circuit ordered n ac order e j d l = record {
  lhs = (let w = (plain_gate circuit g ac there).within in omega (arith, w, e));
  rhs0 = of_use circuit g.rhs0 n ac e
      (Contains-append_left (map Gate.rhs0 circuit.gates) (map Gate.rhs1 circuit.gates ++ (map Latch.next circuit.latches ++ circuit.outputs))
      g.rhs0 (member_mapped Gate.rhs0 circuit.gates g there));
  rhs1 = of_use circuit g.rhs1 n ac e
      (Contains-append_right (map Gate.rhs0 circuit.gates) (map Gate.rhs1 circuit.gates ++ (map Latch.next circuit.latches ++ circuit.outputs))
      g.rhs1 (Contains-append_left (map Gate.rhs1 circuit.gates) (map Latch.next circuit.latches ++ circuit.outputs) g.rhs1
      (member_mapped Gate.rhs1 circuit.gates g there)));
}
  where
    g : Gate
    g = get_or ordered j d

    there : Contains circuit.gates g
    there = (order.same g).0 (Contains-get_or ordered j d l)

-- in order all that is defined is known
pub all_known : (circuit : Circuit) (ordered : List Gate) (x : ℕ) → IsOrder circuit ordered → Contains (known_by (definitions circuit)) x
    → Contains (known_by (sources circuit) ++ map variable_of ordered) x
all_known circuit ordered x order c = elim (defined_cases circuit x c) [
  | inl s ↦ Contains-append_left (known_by (sources circuit)) (map variable_of ordered) x s
  | inr h ↦ Contains-append_right (known_by (sources circuit)) (map variable_of ordered) x
      (subst (Contains (map variable_of ordered)) h.2 (member_mapped variable_of ordered h.0 ((order.same h.0).1 h.1)))
]

-- the words of all that is known are the values of the steps
pub step_done : (circuit : Circuit) (ordered : List Gate) (state first : ℕ) (words : List ℕ) → IsOrder circuit ordered
    → AreWords circuit state first (known_by (sources circuit) ++ map variable_of ordered) words
    → (lane : ℕ) → lane < 64 → AreValues circuit state (first + lane) lane words
step_done circuit ordered state first words order are lane l v is x c = are x (all_known circuit ordered x order c) lane v l is

-- a literal that is used has its value in the lane
pub lane_right : (circuit : Circuit) (state letter lane : ℕ) (words : List ℕ) (v : Valuation) (l : ℕ) → AreValues circuit state letter lane words
    → IsStepAt circuit state letter v → Contains (known_by (definitions circuit)) (variable l) → lane_value words lane l ≡ value v l
lane_right circuit state letter lane words v l are is c =
    ap (λ b. cond (eqb (l % 2) 1) (not b) b) (are v is (variable l) c)

pub outputs_right : (circuit : Circuit) (state letter lane : ℕ) (words : List ℕ) (v : Valuation) → IsAcyclic circuit
    → AreValues circuit state letter lane words → IsStepAt circuit state letter v → (j : ℕ) → j < length circuit.outputs
    → lane_value words lane (get_or circuit.outputs j 0) ≡ value v (get_or circuit.outputs j 0)
outputs_right circuit state letter lane words v ac are is j l =
    lane_right circuit state letter lane words v (get_or circuit.outputs j 0) are is
    (used_output circuit (get_or circuit.outputs j 0) ac (Contains-get_or circuit.outputs j 0 l))

pub nexts_right : (circuit : Circuit) (state letter lane : ℕ) (words : List ℕ) (v : Valuation) → IsAcyclic circuit
    → AreValues circuit state letter lane words → IsStepAt circuit state letter v → (j : ℕ) → j < length circuit.latches
    → lane_value words lane (get_or (map Latch.next circuit.latches) j 0) ≡ value v (get_or (map Latch.next circuit.latches) j 0)
nexts_right circuit state letter lane words v ac are is j l =
    lane_right circuit state letter lane words v (get_or (map Latch.next circuit.latches) j 0) are is
    (subst (λ m. Contains (known_by (definitions circuit)) (variable m)) (sym (get_or-map Latch.next circuit.latches j no_latch 0 l))
    (used_next circuit j ac l))
