-- Variables that hear the inputs, and those that are deaf to them.
use Rattle.std.proofs.Common.{◌≡◌, ℕ, ◌+◌, ◌/◌, ◌<◌, inl, inr, Bool, true, false, cond, List, [], ◌∷◌, ◌++◌, length, get_or, set, take}
use Rattle.std.proofs.Common.{arith, refl, sym, subst, ap, ◌∙◌}
use Rattle.std.specs.Prelude.{map, ◌||◌, ◌&&◌, Option, Some, None, IfSome}
use Rattle.std.specs.List.{Contains}
use Rattle.std.proofs.lemmas.Bool.{cases_eq}
use Rattle.std.proofs.lemmas.List.{get_or-set_same, get_or-set_other, get_or_default, map-append, take_more}
use Rattle.std.proofs.lemmas.List.Elements.{Contains-get_or, Contains-append_cases, Contains-push_cases}
use Rattle.pg_aiger.specs.declared.gate.Gate.{Gate}
use Rattle.pg_aiger.specs.declared.gate.Latch.{Latch}
use Rattle.pg_aiger.specs.Circuits.{Circuit, latch_at, no_latch, output_at}
use Rattle.pg_aiger.specs.Runs.{value}
use Rattle.pg_aiger.proofs.Numbers.{number_same}
use Rattle.pg_aiger_netlist.specs.Netlists.{variable, known_by, sources, IsAcyclic, IsUsedBy}
use Rattle.pg_aiger_netlist.specs.Hearing.{Hears, input, gate, IsMoore}
use Rattle.pg_aiger_netlist.specs.Mirrors.Hearing.{AreHeard, AreInputs, IsDeaf}
use Rattle.pg_aiger_netlist.specs.Mirrors.Marks.{marked, AreMarked, variable_of}
use Rattle.pg_aiger_netlist.specs.Mirrors.Views.{IsOrder}
use Rattle.pg_aiger_netlist.proofs.Marking.{mark_more}
use Rattle.pg_aiger_netlist.proofs.Lists.{member_cases, member_mapped, member_unmapped}
use Rattle.pg_aiger_netlist.proofs.Gates.{plain_value, same_literal, satisfied_at, ordered_at}
use Rattle.pg_aiger_netlist.proofs.Runs.{plain_latch, plain_gate, used_output}
use Rattle.pg_aiger_netlist.proofs.Filling.{known_next, used_known}
use Rattle.pg_aiger_netlist.proofs.Within.{all_known}

differ : (b : Bool) → b ≡ true → b ≡ false → ⊥
differ b on off = let e : true ≡ false = sym on ∙ off in cc e

deaf_latch : (circuit : Circuit) (k : ℕ) → IsAcyclic circuit → k < length circuit.latches → IsDeaf circuit (variable (latch_at circuit k).literal)
deaf_latch circuit k ac l state first second u v a b =
    let even = (plain_latch circuit k ac l).even in
    sym (plain_value u (latch_at circuit k).literal even) ∙ a.latches k l ∙ sym (b.latches k l) ∙ plain_value v (latch_at circuit k).literal even

pub none_yet : (row : List Bool) → ((x : ℕ) → marked row x ≡ false) → AreInputs [] row
none_yet row none x = ((λ on. absurd (differ (marked row x) on (none x))), (λ c. absurd (let l = c.1 in omega (arith, l))))

-- an input more
pub input_marked : (inputs : List ℕ) (k d : ℕ) (row : List Bool) → k < length inputs → variable (get_or inputs k d) < length row
    → AreInputs (take k inputs) row → AreInputs (take (k + 1) inputs) (set row (variable (get_or inputs k d)) true)
input_marked inputs k d row l lt are =
    subst (λ xs. AreMarked (set row (variable (get_or inputs k d)) true) xs)
    (sym (ap (map variable) (take_more inputs k d l) ∙ map-append variable (take k inputs) (get_or inputs k d ∷ [])))
    (mark_more row (map variable (take k inputs)) (variable (get_or inputs k d)) lt are)

-- before the gates
pub sources_heard : (circuit : Circuit) (row : List Bool) → IsAcyclic circuit → AreInputs circuit.inputs row
    → AreHeard circuit (known_by (sources circuit)) row
sources_heard circuit row ac ins = record {
  hear = λ x c on. input x ((ins x).0 on);
  deaf = λ x c off. elim (member_cases 0 (map variable (sources circuit)) x c) [
    | inl e ↦ subst (IsDeaf circuit) e (λ state first second u v a b. a.constant ∙ sym b.constant)
    | inr there ↦ of_source x off (member_unmapped variable (sources circuit) x there)
  ];
}
  where
    of_latch : (x l : ℕ) → variable l ≡ x → (latch : Latch) × Contains circuit.latches latch × (latch.literal ≡ l) → IsDeaf circuit x
    of_latch x l e (latch, (k, lt, at), f) =
        subst (IsDeaf circuit) (ap (λ (it : Latch). variable it.literal) (get_or_default circuit.latches k no_latch latch lt ∙ at) ∙ ap variable f ∙ e)
        (deaf_latch circuit k ac lt)

    of_source : (x : ℕ) → marked row x ≡ false → (l : ℕ) × Contains (sources circuit) l × (variable l ≡ x) → IsDeaf circuit x
    of_source x off (l, m, e) = elim (Contains-append_cases circuit.inputs (map Latch.literal circuit.latches) l m) [
      | inl i ↦ absurd (differ (marked row x) ((ins x).1 (subst (Contains (map variable circuit.inputs)) e (member_mapped variable circuit.inputs l i))) off)
      | inr h ↦ of_latch x l e (member_unmapped Latch.literal circuit.latches l h)
    ]

-- a gate more
module _ (circuit : Circuit) (known : List ℕ) (row : List Bool) (g : Gate) (ac : IsAcyclic circuit) (there : Contains circuit.gates g)
    (left : Contains known (variable g.rhs0)) (right : Contains known (variable g.rhs1)) (are : AreHeard circuit known row) where
  gate_hears : (marked row (variable g.rhs0) || marked row (variable g.rhs1)) ≡ true → Hears circuit (variable_of g)
  gate_hears e = go (marked row (variable g.rhs0)) refl e
    where
      go : (b : Bool) → marked row (variable g.rhs0) ≡ b → (b || marked row (variable g.rhs1)) ≡ true → Hears circuit (variable_of g)
      go true f h = gate g (variable g.rhs0) there (inl refl) (are.hear (variable g.rhs0) left f)
      go false f h = gate g (variable g.rhs1) there (inr refl) (are.hear (variable g.rhs1) right h)

  gate_deaf : (marked row (variable g.rhs0) || marked row (variable g.rhs1)) ≡ false → IsDeaf circuit (variable_of g)
  gate_deaf e state first second u v a b =
      let even = (plain_gate circuit g ac there).even in
      let p = same_literal u v g.rhs0 (are.deaf (variable g.rhs0) left (both e).0 state first second u v a b) in
      let q = same_literal u v g.rhs1 (are.deaf (variable g.rhs1) right (both e).1 state first second u v a b) in
      sym (plain_value u g.lhs even) ∙ satisfied_at u circuit.gates g a.gates there ∙ ap (λ x. x && value u g.rhs1) p
      ∙ ap (λ x. value v g.rhs0 && x) q ∙ sym (satisfied_at v circuit.gates g b.gates there) ∙ plain_value v g.lhs even
    where
      both : (marked row (variable g.rhs0) || marked row (variable g.rhs1)) ≡ false
          → (marked row (variable g.rhs0) ≡ false) × (marked row (variable g.rhs1) ≡ false)
      both e = split (marked row (variable g.rhs0)) e
        where
          split : (b : Bool) → (b || marked row (variable g.rhs1)) ≡ false → (b ≡ false) × (marked row (variable g.rhs1) ≡ false)
          split true e = absurd (cc e)
          split false e = (refl, e)

  pub heard_more : (hears : Bool) → hears ≡ (marked row (variable g.rhs0) || marked row (variable g.rhs1)) → variable_of g < length row
      → AreHeard circuit (known ++ variable_of g ∷ []) (set row (variable_of g) hears)
  heard_more hears is lt = record {
    hear = λ y c on. elim (cases_eq y (variable_of g)) [
      | inl same ↦ subst (Hears circuit) (sym same)
          (gate_hears (sym is ∙ sym (get_or-set_same row (variable_of g) hears false lt) ∙ ap (marked (set row (variable_of g) hears)) (sym same) ∙ on))
      | inr other ↦ are.hear y (old y c other) (sym (get_or-set_other row (variable_of g) y hears false other) ∙ on)
    ];
    deaf = λ y c off. elim (cases_eq y (variable_of g)) [
      | inl same ↦ subst (IsDeaf circuit) (sym same)
          (gate_deaf (sym is ∙ sym (get_or-set_same row (variable_of g) hears false lt) ∙ ap (marked (set row (variable_of g) hears)) (sym same) ∙ off))
      | inr other ↦ are.deaf y (old y c other) (sym (get_or-set_other row (variable_of g) y hears false other) ∙ off)
    ];
  }
    where
      old : (y : ℕ) → Contains (known ++ variable_of g ∷ []) y → (y ≡ variable_of g → ⊥) → Contains known y
      old y c other = elim (Contains-push_cases known (variable_of g) y c) [ inl there ↦ there | inr e ↦ absurd (other (sym e)) ]

pub gate_heard : (circuit : Circuit) (ordered : List Gate) (k : ℕ) (d : Gate) (row : List Bool) (hears : Bool) → IsAcyclic circuit
    → IsOrder circuit ordered → k < length ordered → variable_of (get_or ordered k d) < length row
    → hears ≡ (marked row (variable (get_or ordered k d).rhs0) || marked row (variable (get_or ordered k d).rhs1))
    → AreHeard circuit (known_by (sources circuit) ++ map variable_of (take k ordered)) row
    → AreHeard circuit (known_by (sources circuit) ++ map variable_of (take (k + 1) ordered)) (set row (variable_of (get_or ordered k d)) hears)
gate_heard circuit ordered k d row hears ac order l lt is are =
    subst (λ known. AreHeard circuit known (set row (variable_of g) hears)) (sym (known_next circuit ordered k d l))
    (heard_more circuit known row g ac ((order.same g).0 (Contains-get_or ordered k d l)) (there (variable g.rhs0) (inl refl))
    (there (variable g.rhs1) (inr refl)) are hears is lt)
  where
    g : Gate
    g = get_or ordered k d

    known : List ℕ
    known = known_by (sources circuit) ++ map variable_of (take k ordered)

    there : (x : ℕ) → IsUsedBy g x → Contains known x
    there = used_known circuit ordered k d order l

moore : (circuit : Circuit) (ordered : List Gate) (row : List Bool) → IsAcyclic circuit → IsOrder circuit ordered
    → AreHeard circuit (known_by (sources circuit) ++ map variable_of ordered) row
    → ((k : ℕ) → k < length circuit.outputs → marked row (variable (get_or circuit.outputs k 0)) ≡ false) → IsMoore circuit
moore circuit ordered row ac order are none state first second u v a b =
    number_same u v circuit.outputs circuit.outputs refl (λ k l. same_literal u v (get_or circuit.outputs k 0)
    (are.deaf (variable (get_or circuit.outputs k 0)) (known k l) (none k l) state first second u v a b))
  where
    known : (k : ℕ) → k < length circuit.outputs → Contains (known_by (sources circuit) ++ map variable_of ordered) (variable (get_or circuit.outputs k 0))
    known k l = all_known circuit ordered (variable (get_or circuit.outputs k 0)) order
        (used_output circuit (get_or circuit.outputs k 0) ac (Contains-get_or circuit.outputs k 0 l))

output_hears : (circuit : Circuit) (ordered : List Gate) (row : List Bool) (k : ℕ) → IsAcyclic circuit → IsOrder circuit ordered
    → AreHeard circuit (known_by (sources circuit) ++ map variable_of ordered) row → k < length circuit.outputs
    → marked row (variable (get_or circuit.outputs k 0)) ≡ true → Hears circuit (variable (get_or circuit.outputs k 0))
output_hears circuit ordered row k ac order are l on =
    are.hear (variable (get_or circuit.outputs k 0))
    (all_known circuit ordered (variable (get_or circuit.outputs k 0)) order
    (used_output circuit (get_or circuit.outputs k 0) ac (Contains-get_or circuit.outputs k 0 l))) on

-- ---- what is found of the outputs

pub some_hears : (circuit same : Circuit) (ordered : List Gate) (row here : List Bool) (outputs : List ℕ) (found : Option ℕ) → circuit ≡ same
    → IsAcyclic circuit → IsOrder circuit ordered → AreHeard circuit (known_by (sources circuit) ++ map variable_of ordered) row → here ≡ row
    → outputs ≡ circuit.outputs
    → IfSome found (λ k. (k < length outputs) × (marked here (variable (get_or outputs k 0)) ≡ true))
    → IfSome found (λ k. (k < length same.outputs) × Hears same (variable (output_at same k)))
some_hears circuit same ordered row here outputs None e ac order are f g h = tt
some_hears circuit same ordered row here outputs (Some k) e ac order are f g h =
    let l : k < length circuit.outputs = subst (λ ls. k < length ls) g h.0 in
    let on : marked row (variable (get_or circuit.outputs k 0)) ≡ true =
    subst (λ ls. marked row (variable (get_or ls k 0)) ≡ true) g (subst (λ r. marked r (variable (get_or outputs k 0)) ≡ true) f h.1) in
    subst (λ (x : Circuit). (k < length x.outputs) × Hears x (variable (output_at x k))) e (l, output_hears circuit ordered row k ac order are l on)

pub none_hears : (circuit same : Circuit) (ordered : List Gate) (row here : List Bool) (outputs : List ℕ) → circuit ≡ same
    → IsAcyclic circuit → IsOrder circuit ordered → AreHeard circuit (known_by (sources circuit) ++ map variable_of ordered) row → here ≡ row
    → outputs ≡ circuit.outputs → ((k : ℕ) → k < length outputs → marked here (variable (get_or outputs k 0)) ≡ false) → IsMoore same
none_hears circuit same ordered row here outputs e ac order are f g h =
    subst IsMoore e (moore circuit ordered row ac order are (λ k l.
    subst (λ ls. marked row (variable (get_or ls k 0)) ≡ false) g
    (subst (λ r. marked r (variable (get_or outputs k 0)) ≡ false) f (h k (subst (λ ls. k < length ls) (sym g) l)))))
