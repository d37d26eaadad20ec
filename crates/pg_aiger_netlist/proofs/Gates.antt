-- Gates in an order have one value each.
use Rattle.std.proofs.Common.{◌≡◌, ◌≢◌, ℕ, zero, suc, ◌+◌, ◌<◌, ◌%◌, ◌/◌, ◌⊎◌, inl, inr, Bool, true, false, cond, eqb, List, [], ◌∷◌, ◌++◌, length, get_or, take}
use Rattle.std.proofs.Common.{arith, refl, sym, subst, ap, ◌∙◌}
use Rattle.std.specs.Prelude.{map, not, ◌&&◌, All}
use Rattle.std.specs.List.{Contains, AllPairs}
use Rattle.std.proofs.lemmas.Bool.{eq-eqb, ne_eqb}
use Rattle.std.proofs.lemmas.List.{get_or-map, length-map}
use Rattle.std.proofs.lemmas.List.Elements.{Contains-append_cases}
use Rattle.pg_aiger.specs.declared.gate.Gate.{Gate}
use Rattle.pg_aiger.specs.Circuits.{Circuit}
use Rattle.pg_aiger.specs.Runs.{Valuation, value, Satisfies}
use Rattle.pg_aiger_netlist.specs.Netlists.{variable, known_by, sources, definitions, IsUsedBy, AreOrdered, IsPlain}
use Rattle.pg_aiger_netlist.specs.Mirrors.Marks.{variable_of}
use Rattle.pg_aiger_netlist.proofs.Lists.{member_first, member_rest, member_cases, member_mapped, member_unmapped, pairs_behind}

pub same_literal : (u v : Valuation) (l : ℕ) → u (l / 2) ≡ v (l / 2) → value u l ≡ value v l
same_literal u v l e = ap (λ b. cond (eqb (l % 2) 1) (not b) b) e

pub plain_value : (v : Valuation) (l : ℕ) → l % 2 ≡ 0 → value v l ≡ v (l / 2)
plain_value v l even = rw even refl

-- the gate is the conjunction of its literals
abbrev pub Holds : Valuation → Gate → Type 0
Holds v gate = value v gate.lhs ≡ (value v gate.rhs0 && value v gate.rhs1)

nobody : {X : Type 0} (x : X) → Contains [] x → ⊥
nobody x (k, l, e) = absurd (omega arith)

pub satisfied_at : (v : Valuation) (gates : List Gate) (g : Gate) → Satisfies v gates → Contains gates g → Holds v g
satisfied_at v [] g sat c = absurd (nobody g c)
satisfied_at v (h ∷ rest) g sat c = elim (member_cases h rest g c) [
  | inl e ↦ subst (Holds v) e sat.0
  | inr there ↦ satisfied_at v rest g sat.1 there
]

pub satisfies_from : (v : Valuation) (gates : List Gate) → ((g : Gate) → Contains gates g → Holds v g) → Satisfies v gates
satisfies_from v [] each = tt
satisfies_from v (h ∷ rest) each = (each h (member_first h rest), satisfies_from v rest (λ g c. each g (member_rest h rest g c)))

-- gates define plain literals
abbrev pub AreEven : List Gate → Type 0
AreEven gates = (g : Gate) → Contains gates g → g.lhs % 2 ≡ 0

pub gates_agree : (gates : List Gate) (known : List ℕ) (u v : Valuation) → AreOrdered known gates → AreEven gates
    → ((x : ℕ) → Contains known x → u x ≡ v x) → ((g : Gate) → Contains gates g → Holds u g) → ((g : Gate) → Contains gates g → Holds v g)
    → (x : ℕ) → Contains known x ⊎ Contains (map variable_of gates) x → u x ≡ v x
gates_agree [] known u v are even agree a b x c = elim c [ inl there ↦ agree x there | inr none ↦ absurd (nobody x none) ]
gates_agree (g ∷ gs) known u v are even agree a b x c =
    gates_agree gs (variable_of g ∷ known) u v are.2 (λ h m. even h (member_rest g gs h m))
    (λ y m. elim (member_cases (variable_of g) known y m) [
      | inl e ↦ subst (λ z. u z ≡ v z) e here
      | inr old ↦ agree y old
    ])
    (λ h m. a h (member_rest g gs h m)) (λ h m. b h (member_rest g gs h m)) x
    (elim c [
      | inl there ↦ inl (member_rest (variable_of g) known x there)
      | inr there ↦ elim (member_cases (variable_of g) (map variable_of gs) x there) [
        | inl e ↦ inl (subst (Contains (variable_of g ∷ known)) e (member_first (variable_of g) known))
        | inr later ↦ inr later
      ]
    ])
  where
    one : g.lhs % 2 ≡ 0
    one = even g (member_first g gs)

    left : value u g.rhs0 ≡ value v g.rhs0
    left = same_literal u v g.rhs0 (agree (variable g.rhs0) (are.1 (variable g.rhs0) (inl refl)))

    right : value u g.rhs1 ≡ value v g.rhs1
    right = same_literal u v g.rhs1 (agree (variable g.rhs1) (are.1 (variable g.rhs1) (inr refl)))

    here : u (variable_of g) ≡ v (variable_of g)
    here = sym (plain_value u g.lhs one) ∙ a g (member_first g gs) ∙ ap (λ p. p && value u g.rhs1) left
        ∙ ap (λ q. value v g.rhs0 && q) right ∙ sym (b g (member_first g gs)) ∙ plain_value v g.lhs one

-- the gates' values one after another
pub next_value : Gate → Valuation → Valuation
next_value g v x = cond (eqb x (variable_of g)) (value v g.rhs0 && value v g.rhs1) (v x)

pub with_gates : List Gate → Valuation → Valuation
with_gates [] v = v
with_gates (g ∷ gs) v = with_gates gs (next_value g v)

next_old : (g : Gate) (known : List ℕ) (v : Valuation) (x : ℕ) → (Contains known (variable_of g) → ⊥) → Contains known x → next_value g v x ≡ v x
unfolding next_value
next_old g known v x fresh c =
    let ne : eqb x (variable_of g) ≡ false = ne_eqb x (variable_of g) (λ e. fresh (subst (Contains known) e c)) in rw ne refl

next_new : (g : Gate) (v : Valuation) → next_value g v (variable_of g) ≡ (value v g.rhs0 && value v g.rhs1)
unfolding next_value
next_new g v = let e : eqb (variable_of g) (variable_of g) ≡ true = eq-eqb (variable_of g) (variable_of g) refl in rw e refl

pub with_known : (gates : List Gate) (known : List ℕ) (v : Valuation) → AreOrdered known gates → (x : ℕ) → Contains known x → with_gates gates v x ≡ v x
unfolding with_gates
with_known [] known v are x c = refl
with_known (g ∷ gs) known v are x c =
    with_known gs (variable_of g ∷ known) (next_value g v) are.2 x (member_rest (variable_of g) known x c) ∙ next_old g known v x are.0 c

pub with_holds : (gates : List Gate) (known : List ℕ) (v : Valuation) → AreOrdered known gates → AreEven gates
    → (g : Gate) → Contains gates g → Holds (with_gates gates v) g
unfolding with_gates
with_holds [] known v are even g c = absurd (nobody g c)
with_holds (g ∷ gs) known v are even h c = elim (member_cases g gs h c) [
  | inl e ↦ subst (Holds done) e here
  | inr later ↦ with_holds gs (variable_of g ∷ known) (next_value g v) are.2 (λ k m. even k (member_rest g gs k m)) h later
]
  where
    done : Valuation
    done = with_gates gs (next_value g v)

    kept : (x : ℕ) → Contains known x → v x ≡ done x
    kept x m =
        sym (with_known gs (variable_of g ∷ known) (next_value g v) are.2 x (member_rest (variable_of g) known x m) ∙ next_old g known v x are.0 m)

    at : done (variable_of g) ≡ (value v g.rhs0 && value v g.rhs1)
    at = with_known gs (variable_of g ∷ known) (next_value g v) are.2 (variable_of g) (member_first (variable_of g) known) ∙ next_new g v

    here : Holds done g
    here = plain_value done g.lhs (even g (member_first g gs)) ∙ at
        ∙ ap (λ p. p && value v g.rhs1) (same_literal v done g.rhs0 (kept (variable g.rhs0) (are.1 (variable g.rhs0) (inl refl))))
        ∙ ap (λ q. value done g.rhs0 && q) (same_literal v done g.rhs1 (kept (variable g.rhs1) (are.1 (variable g.rhs1) (inr refl))))

-- a gate in order uses what is known at first, or what a gate before it defines
pub ordered_at : (gates : List Gate) (known : List ℕ) (k : ℕ) (d : Gate) (x : ℕ) → AreOrdered known gates → k < length gates
    → IsUsedBy (get_or gates k d) x → Contains known x ⊎ Contains (map variable_of (take k gates)) x
ordered_at [] known k d x are l u = absurd (omega arith)
ordered_at (g ∷ gs) known zero d x are l u = inl (are.1 x u)
ordered_at (g ∷ gs) known (suc k) d x are l u = elim (ordered_at gs (variable_of g ∷ known) k d x are.2 (omega arith) u) [
  | inl c ↦ elim (member_cases (variable_of g) known x c) [
    | inl e ↦ inr (subst (Contains (variable_of g ∷ map variable_of (take k gs))) e (member_first (variable_of g) (map variable_of (take k gs))))
    | inr old ↦ inl old
  ]
  | inr c ↦ inr (member_rest (variable_of g) (map variable_of (take k gs)) x c)
]

-- values of variables that literals define

pub put : List ℕ → (ℕ → Bool) → Valuation
put [] bits x = false
put (l ∷ ls) bits x = cond (eqb x (variable l)) (bits 0) (put ls (λ j. bits (suc j)) x)

pub put_zero : (ls : List ℕ) (bits : ℕ → Bool) → ((l : ℕ) → Contains ls l → 0 < variable l) → put ls bits 0 ≡ false
unfolding put
put_zero [] bits some = refl
put_zero (l ∷ ls) bits some =
    let h = some l (member_first l ls) in
    let ne : eqb 0 (variable l) ≡ false = ne_eqb 0 (variable l) (λ e. omega (arith, e, h)) in
    rw ne (put_zero ls (λ j. bits (suc j)) (λ m c. some m (member_rest l ls m c)))

pub put_at : (ls : List ℕ) (bits : ℕ → Bool) (j : ℕ) → AllPairs (λ x y. x ≢ y) (map variable ls) → j < length ls
    → put ls bits (variable (get_or ls j 0)) ≡ bits j
unfolding put
put_at [] bits j pairs h = absurd (omega arith)
put_at (l ∷ ls) bits zero pairs h = let e : eqb (variable l) (variable l) ≡ true = eq-eqb (variable l) (variable l) refl in rw e refl
put_at (l ∷ ls) bits (suc j) pairs h =
    let ne : eqb (variable (get_or ls j 0)) (variable l) ≡ false = ne_eqb (variable (get_or ls j 0)) (variable l) other in
    rw ne (put_at ls (λ k. bits (suc k)) j (pairs_behind (variable l ∷ []) (map variable ls) pairs) in_rest)
  where
    in_rest : j < length ls
    in_rest = omega arith

    other : variable (get_or ls j 0) ≡ variable l → ⊥
    other e = pairs 0 (suc j) 0 (omega arith) (omega (arith, in_rest, length-map ls variable)) (sym e ∙ sym (get_or-map variable ls j 0 0 in_rest))

-- what is defined is a source, or the variable of a gate
pub defined_cases : (circuit : Circuit) (x : ℕ) → Contains (known_by (definitions circuit)) x
    → Contains (known_by (sources circuit)) x ⊎ ((g : Gate) × Contains circuit.gates g × (variable_of g ≡ x))
defined_cases circuit x c = elim (member_cases 0 (map variable (definitions circuit)) x c) [
  | inl e ↦ inl (subst (Contains (known_by (sources circuit))) e (member_first 0 (map variable (sources circuit))))
  | inr there ↦ of_literal (member_unmapped variable (definitions circuit) x there)
]
  where
    of_literal : (l : ℕ) × Contains (definitions circuit) l × (variable l ≡ x)
        → Contains (known_by (sources circuit)) x ⊎ ((g : Gate) × Contains circuit.gates g × (variable_of g ≡ x))
    of_literal (l, m, e) = elim (Contains-append_cases (sources circuit) (map Gate.lhs circuit.gates) l m) [
      | inl s ↦ inl (member_rest 0 (map variable (sources circuit)) x
          (subst (Contains (map variable (sources circuit))) e (member_mapped variable (sources circuit) l s)))
      | inr g ↦ let h = member_unmapped Gate.lhs circuit.gates l g in inr (h.0, h.1, ap variable h.2 ∙ e)
    ]
