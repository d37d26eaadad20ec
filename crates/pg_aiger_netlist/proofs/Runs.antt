-- A circuit without a cycle has one run.
use Rattle.std.proofs.Common.{◌≡◌, ◌≢◌, ℕ, zero, suc, ◌+◌, ◌-◌, ◌<◌, ◌≤◌, ◌%◌, ◌/◌, ◌⊎◌, inl, inr, Bool, true, false, cond, ltb, List, [], ◌∷◌, ◌++◌, length, get_or}
use Rattle.std.proofs.Common.{arith, refl, sym, subst, ap, ◌∙◌}
use Rattle.std.specs.Prelude.{map, All}
use Rattle.std.specs.List.{Contains, AllPairs}
use Rattle.std.proofs.lemmas.Bool.{lt-ltb, le-ltb}
use Rattle.std.proofs.lemmas.List.{get_or-map, get_or_default, length-map, length-append, get_or_append_left, get_or-append-add, map-append}
use Rattle.std.proofs.lemmas.List.Elements.{Contains-get_or, Contains-append_left, Contains-append_right, Contains-append_cases, All-contains}
use Rattle.pg_aiger.specs.declared.gate.Gate.{Gate}
use Rattle.pg_aiger.specs.Circuits.{Circuit, input_at, latch_at, no_latch}
use Rattle.pg_aiger.specs.declared.gate.Latch.{Latch}
use Rattle.pg_aiger.specs.Runs.{Valuation, value, bit, Satisfies, IsRun, IsStepAt}
use Rattle.pg_aiger_netlist.specs.Netlists.{variable, known_by, sources, definitions, uses, IsPlain, IsAcyclic, HasOneRun}
use Rattle.pg_aiger_netlist.specs.Mirrors.Marks.{variable_of}
use Rattle.pg_aiger_netlist.proofs.Lists.{member_first, member_rest, member_cases, member_mapped, member_unmapped, pairs_before}
use Rattle.pg_aiger_netlist.proofs.Gates.{Holds, AreEven, same_literal, plain_value, satisfied_at, satisfies_from, gates_agree, with_gates, with_known}
use Rattle.pg_aiger_netlist.proofs.Gates.{with_holds, put, put_zero, put_at, defined_cases}

pub plain_source : (circuit : Circuit) (l : ℕ) → IsAcyclic circuit → Contains (sources circuit) l → IsPlain circuit.greatest l
plain_source circuit l ac c =
    All-contains (IsPlain circuit.greatest) (definitions circuit) l ac.plain (Contains-append_left (sources circuit) (map Gate.lhs circuit.gates) l c)

pub plain_gate : (circuit : Circuit) (g : Gate) → IsAcyclic circuit → Contains circuit.gates g → IsPlain circuit.greatest g.lhs
plain_gate circuit g ac c =
    All-contains (IsPlain circuit.greatest) (definitions circuit) g.lhs ac.plain
    (Contains-append_right (sources circuit) (map Gate.lhs circuit.gates) g.lhs (member_mapped Gate.lhs circuit.gates g c))

pub plain_input : (circuit : Circuit) (j : ℕ) → IsAcyclic circuit → j < length circuit.inputs → IsPlain circuit.greatest (input_at circuit j)
plain_input circuit j ac l =
    plain_source circuit (input_at circuit j) ac
    (Contains-append_left circuit.inputs (map Latch.literal circuit.latches) (input_at circuit j) (Contains-get_or circuit.inputs j 0 l))

pub plain_latch : (circuit : Circuit) (j : ℕ) → IsAcyclic circuit → j < length circuit.latches → IsPlain circuit.greatest (latch_at circuit j).literal
plain_latch circuit j ac l =
    plain_source circuit (latch_at circuit j).literal ac
    (Contains-append_right circuit.inputs (map Latch.literal circuit.latches) (latch_at circuit j).literal
    (member_mapped Latch.literal circuit.latches (latch_at circuit j) (Contains-get_or circuit.latches j no_latch l)))

even_ordered : (circuit : Circuit) (ac : IsAcyclic circuit) → AreEven ac.ordered
even_ordered circuit ac g c = (plain_gate circuit g ac ((ac.same g).0 c)).even

-- valuations with the same values of inputs and latches have the same values of all that is defined
pub same_step : (circuit : Circuit) (u v : Valuation) → IsAcyclic circuit → u 0 ≡ false → v 0 ≡ false
    → ((j : ℕ) → j < length circuit.inputs → value u (input_at circuit j) ≡ value v (input_at circuit j))
    → ((j : ℕ) → j < length circuit.latches → value u (latch_at circuit j).literal ≡ value v (latch_at circuit j).literal)
    → Satisfies u circuit.gates → Satisfies v circuit.gates → (x : ℕ) → Contains (known_by (definitions circuit)) x → u x ≡ v x
same_step circuit u v ac a b inputs latches f g x c =
    gates_agree ac.ordered (known_by (sources circuit)) u v ac.in_order (even_ordered circuit ac) at_first
    (λ h m. satisfied_at u circuit.gates h f ((ac.same h).0 m)) (λ h m. satisfied_at v circuit.gates h g ((ac.same h).0 m)) x
    (elim (defined_cases circuit x c) [
      | inl s ↦ inl s
      | inr h ↦ inr (subst (Contains (map variable_of ac.ordered)) h.2
          (member_mapped variable_of ac.ordered h.0 ((ac.same h.0).1 h.1)))
    ])
  where
    by_literal : (l : ℕ) → Contains (sources circuit) l → value u l ≡ value v l → u (variable l) ≡ v (variable l)
    by_literal l s e =
        let even = (plain_source circuit l ac s).even in sym (plain_value u l even) ∙ e ∙ plain_value v l even

    of_input : (l : ℕ) → Contains circuit.inputs l → value u l ≡ value v l
    of_input l (j, lt, e) = subst (λ m. value u m ≡ value v m) (get_or_default circuit.inputs j 0 l lt ∙ e) (inputs j lt)

    of_latch : (l : ℕ) → Contains (map Latch.literal circuit.latches) l → value u l ≡ value v l
    of_latch l m = go (member_unmapped Latch.literal circuit.latches l m)
      where
        go : (latch : Latch) × Contains circuit.latches latch × (latch.literal ≡ l) → value u l ≡ value v l
        go (latch, (j, lt, e), same) =
            subst (λ m. value u m ≡ value v m) (ap Latch.literal (get_or_default circuit.latches j no_latch latch lt ∙ e) ∙ same) (latches j lt)

    at_first : (y : ℕ) → Contains (known_by (sources circuit)) y → u y ≡ v y
    at_first y m = elim (member_cases 0 (map variable (sources circuit)) y m) [
      | inl e ↦ subst (λ z. u z ≡ v z) e (a ∙ sym b)
      | inr s ↦ source y (member_unmapped variable (sources circuit) y s)
    ]
      where
        source : (y : ℕ) → (l : ℕ) × Contains (sources circuit) l × (variable l ≡ y) → u y ≡ v y
        source y h = subst (λ z. u z ≡ v z) h.2
            (by_literal h.0 h.1 (elim (Contains-append_cases circuit.inputs (map Latch.literal circuit.latches) h.0 h.1) [
              | inl i ↦ of_input h.0 i
              | inr l ↦ of_latch h.0 l
            ]))

-- ---- one step

pub source_bits : Circuit → ℕ → (ℕ → Bool) → ℕ → Bool
source_bits circuit letter state j = cond (ltb j (length circuit.inputs)) (bit letter j) (state (j - length circuit.inputs))

bits_input : (circuit : Circuit) (letter : ℕ) (state : ℕ → Bool) (j : ℕ) → j < length circuit.inputs → source_bits circuit letter state j ≡ bit letter j
unfolding source_bits
bits_input circuit letter state j l = let e : ltb j (length circuit.inputs) ≡ true = lt-ltb j (length circuit.inputs) l in rw e refl

bits_latch : (circuit : Circuit) (letter : ℕ) (state : ℕ → Bool) (j : ℕ) → source_bits circuit letter state (length circuit.inputs + j) ≡ state j
unfolding source_bits
bits_latch circuit letter state j =
    let e : ltb (length circuit.inputs + j) (length circuit.inputs) ≡ false = le-ltb (length circuit.inputs + j) (length circuit.inputs) (omega arith) in
    let f : (length circuit.inputs + j) - length circuit.inputs ≡ j = omega arith in rw (e, f) refl

seed : Circuit → ℕ → (ℕ → Bool) → Valuation
seed circuit letter state = put (sources circuit) (source_bits circuit letter state)

-- the gates over an input letter and the latches' values
pub stepped : (circuit : Circuit) → IsAcyclic circuit → ℕ → (ℕ → Bool) → Valuation
stepped circuit ac letter state = with_gates ac.ordered (seed circuit letter state)

stepped_known : (circuit : Circuit) (ac : IsAcyclic circuit) (letter : ℕ) (state : ℕ → Bool) (x : ℕ) → Contains (known_by (sources circuit)) x
    → stepped circuit ac letter state x ≡ seed circuit letter state x
unfolding stepped
stepped_known circuit ac letter state x c = with_known ac.ordered (known_by (sources circuit)) (seed circuit letter state) ac.in_order x c

stepped_zero : (circuit : Circuit) (ac : IsAcyclic circuit) (letter : ℕ) (state : ℕ → Bool) → stepped circuit ac letter state 0 ≡ false
unfolding seed
stepped_zero circuit ac letter state =
    stepped_known circuit ac letter state 0 (member_first 0 (map variable (sources circuit)))
    ∙ put_zero (sources circuit) (source_bits circuit letter state) (λ l c. let p = plain_source circuit l ac c in positive l p.even p.some)
  where
    positive : (l : ℕ) → l % 2 ≡ 0 → 0 < l → 0 < l / 2
    positive l e s = omega arith

distinct_sources : (circuit : Circuit) → IsAcyclic circuit → AllPairs (λ x y. x ≢ y) (map variable (sources circuit))
distinct_sources circuit ac =
    pairs_before (map variable (sources circuit)) (map variable (map Gate.lhs circuit.gates))
    (subst (AllPairs (λ x y. x ≢ y)) (map-append variable (sources circuit) (map Gate.lhs circuit.gates)) ac.distinct)

stepped_source : (circuit : Circuit) (ac : IsAcyclic circuit) (letter : ℕ) (state : ℕ → Bool) (j l : ℕ) → j < length (sources circuit)
    → get_or (sources circuit) j 0 ≡ l → value (stepped circuit ac letter state) l ≡ source_bits circuit letter state j
unfolding seed
stepped_source circuit ac letter state j l lt e =
    plain_value (stepped circuit ac letter state) l (plain_source circuit l ac there).even
    ∙ stepped_known circuit ac letter state (variable l)
    (member_rest 0 (map variable (sources circuit)) (variable l) (member_mapped variable (sources circuit) l there))
    ∙ ap (λ m. put (sources circuit) (source_bits circuit letter state) (variable m)) (sym e)
    ∙ put_at (sources circuit) (source_bits circuit letter state) j (distinct_sources circuit ac) lt
  where
    there : Contains (sources circuit) l
    there = subst (Contains (sources circuit)) e (Contains-get_or (sources circuit) j 0 lt)

length_sources : (circuit : Circuit) → length (sources circuit) ≡ length circuit.inputs + length circuit.latches
length_sources circuit =
    length-append circuit.inputs (map Latch.literal circuit.latches) ∙ ap (λ n. length circuit.inputs + n) (length-map circuit.latches Latch.literal)

stepped_input : (circuit : Circuit) (ac : IsAcyclic circuit) (letter : ℕ) (state : ℕ → Bool) (j : ℕ) → j < length circuit.inputs
    → value (stepped circuit ac letter state) (input_at circuit j) ≡ bit letter j
stepped_input circuit ac letter state j l =
    stepped_source circuit ac letter state j (input_at circuit j) (let n = length_sources circuit in omega (arith, n, l))
    (get_or_append_left circuit.inputs (map Latch.literal circuit.latches) 0 j l)
    ∙ bits_input circuit letter state j l

stepped_latch : (circuit : Circuit) (ac : IsAcyclic circuit) (letter : ℕ) (state : ℕ → Bool) (j : ℕ) → j < length circuit.latches
    → value (stepped circuit ac letter state) (latch_at circuit j).literal ≡ state j
stepped_latch circuit ac letter state j l =
    stepped_source circuit ac letter state (length circuit.inputs + j) (latch_at circuit j).literal
    (let n = length_sources circuit in omega (arith, n, l))
    (get_or-append-add circuit.inputs (map Latch.literal circuit.latches) j 0 ∙ get_or-map Latch.literal circuit.latches j no_latch 0 l)
    ∙ bits_latch circuit letter state j

stepped_gates : (circuit : Circuit) (ac : IsAcyclic circuit) (letter : ℕ) (state : ℕ → Bool) → Satisfies (stepped circuit ac letter state) circuit.gates
unfolding stepped
stepped_gates circuit ac letter state = satisfies_from (stepped circuit ac letter state) circuit.gates (λ g c.
    with_holds ac.ordered (known_by (sources circuit)) (seed circuit letter state) ac.in_order (even_ordered circuit ac) g ((ac.same g).1 c))

pub the_step : (circuit : Circuit) (ac : IsAcyclic circuit) (state letter : ℕ) → IsStepAt circuit state letter (stepped circuit ac letter (bit state))
the_step circuit ac state letter = record {
  constant = stepped_zero circuit ac letter (bit state);
  inputs = λ j l. stepped_input circuit ac letter (bit state) j l;
  latches = λ j l. stepped_latch circuit ac letter (bit state) j l;
  gates = stepped_gates circuit ac letter (bit state);
}

-- ---- the run

pub the_run : (circuit : Circuit) → IsAcyclic circuit → (ℕ → ℕ) → ℕ → Valuation
the_run circuit ac input zero = stepped circuit ac (input 0) (λ j. false)
the_run circuit ac input (suc t) = stepped circuit ac (input (suc t)) (λ j. value (the_run circuit ac input t) (latch_at circuit j).next)

latched : (circuit : Circuit) → IsAcyclic circuit → (ℕ → ℕ) → ℕ → ℕ → Bool
latched circuit ac input zero j = false
latched circuit ac input (suc t) j = value (the_run circuit ac input t) (latch_at circuit j).next

run_steps : (circuit : Circuit) (ac : IsAcyclic circuit) (input : ℕ → ℕ) (t : ℕ)
    → the_run circuit ac input t ≡ stepped circuit ac (input t) (latched circuit ac input t)
unfolding the_run latched
run_steps circuit ac input zero = refl
run_steps circuit ac input (suc t) = refl

pub is_run : (circuit : Circuit) (ac : IsAcyclic circuit) (input : ℕ → ℕ) (count : ℕ) → IsRun circuit input count (the_run circuit ac input)
unfolding latched
is_run circuit ac input count = record {
  constant = λ t h. ap (λ v. v 0) (run_steps circuit ac input t) ∙ stepped_zero circuit ac (input t) (latched circuit ac input t);
  inputs = λ t h j l. ap (λ v. value v (input_at circuit j)) (run_steps circuit ac input t)
      ∙ stepped_input circuit ac (input t) (latched circuit ac input t) j l;
  first = λ j h l. ap (λ v. value v (latch_at circuit j).literal) (run_steps circuit ac input 0)
      ∙ stepped_latch circuit ac (input 0) (latched circuit ac input 0) j l;
  later = λ t j h l. ap (λ v. value v (latch_at circuit j).literal) (run_steps circuit ac input (suc t))
      ∙ stepped_latch circuit ac (input (suc t)) (latched circuit ac input (suc t)) j l;
  gates = λ t h. subst (λ v. Satisfies v circuit.gates) (sym (run_steps circuit ac input t))
      (stepped_gates circuit ac (input t) (latched circuit ac input t));
}

pub used_literal : (circuit : Circuit) (l : ℕ) → IsAcyclic circuit → Contains (uses circuit) l → Contains (known_by (definitions circuit)) (variable l)
used_literal circuit l ac c = All-contains (λ m. Contains (known_by (definitions circuit)) (variable m)) (uses circuit) l ac.used c

pub used_next : (circuit : Circuit) (j : ℕ) → IsAcyclic circuit → j < length circuit.latches
    → Contains (known_by (definitions circuit)) (variable (latch_at circuit j).next)
used_next circuit j ac l =
    used_literal circuit (latch_at circuit j).next ac
    (Contains-append_right (map Gate.rhs0 circuit.gates) (map Gate.rhs1 circuit.gates ++ (map Latch.next circuit.latches ++ circuit.outputs)) here
    (Contains-append_right (map Gate.rhs1 circuit.gates) (map Latch.next circuit.latches ++ circuit.outputs) here
    (Contains-append_left (map Latch.next circuit.latches) circuit.outputs here
    (member_mapped Latch.next circuit.latches (latch_at circuit j) (Contains-get_or circuit.latches j no_latch l)))))
  where
    here : ℕ
    here = (latch_at circuit j).next

pub defined_input : (circuit : Circuit) (l : ℕ) → Contains circuit.inputs l → Contains (known_by (definitions circuit)) (variable l)
defined_input circuit l c =
    member_rest 0 (map variable (definitions circuit)) (variable l)
    (member_mapped variable (definitions circuit) l
    (Contains-append_left (sources circuit) (map Gate.lhs circuit.gates) l
    (Contains-append_left circuit.inputs (map Latch.literal circuit.latches) l c)))

pub used_output : (circuit : Circuit) (l : ℕ) → IsAcyclic circuit → Contains circuit.outputs l → Contains (known_by (definitions circuit)) (variable l)
used_output circuit l ac c =
    used_literal circuit l ac
    (Contains-append_right (map Gate.rhs0 circuit.gates) (map Gate.rhs1 circuit.gates ++ (map Latch.next circuit.latches ++ circuit.outputs)) l
    (Contains-append_right (map Gate.rhs1 circuit.gates) (map Latch.next circuit.latches ++ circuit.outputs) l
    (Contains-append_right (map Latch.next circuit.latches) circuit.outputs l c)))

pub runs_agree : (circuit : Circuit) (input : ℕ → ℕ) → IsAcyclic circuit → (shorter longer : ℕ) (first second : ℕ → Valuation) → shorter ≤ longer
    → IsRun circuit input shorter first → IsRun circuit input longer second → (t : ℕ) → t < shorter
    → (x : ℕ) → Contains (known_by (definitions circuit)) x → first t x ≡ second t x
runs_agree circuit input ac shorter longer first second le a b t h = agree t h (latches t h)
  where
    agree : (t : ℕ) → t < shorter
        → ((j : ℕ) → j < length circuit.latches → value (first t) (latch_at circuit j).literal ≡ value (second t) (latch_at circuit j).literal)
        → (x : ℕ) → Contains (known_by (definitions circuit)) x → first t x ≡ second t x
    agree t h same =
        let h' : t < longer = omega arith in
        same_step circuit (first t) (second t) ac (a.constant t h) (b.constant t h') (λ j l. a.inputs t h j l ∙ sym (b.inputs t h' j l)) same
        (a.gates t h) (b.gates t h')

    latches : (t : ℕ) → t < shorter → (j : ℕ) → j < length circuit.latches
        → value (first t) (latch_at circuit j).literal ≡ value (second t) (latch_at circuit j).literal
    latches zero h j l = a.first j h l ∙ sym (b.first j (omega arith) l)
    latches (suc t) h j l =
        a.later t j h l
        ∙ same_literal (first t) (second t) (latch_at circuit j).next
        (agree t (omega arith) (latches t (omega arith)) (variable (latch_at circuit j).next) (used_next circuit j ac l))
        ∙ sym (b.later t j (omega arith) l)

pub has_one : (circuit : Circuit) (input : ℕ → ℕ) → IsAcyclic circuit → HasOneRun circuit input
has_one circuit input ac = record {
  some = λ count. (the_run circuit ac input, is_run circuit ac input count);
  one = λ shorter longer first second le a b t x h c. runs_agree circuit input ac shorter longer first second le a b t h x c;
}
