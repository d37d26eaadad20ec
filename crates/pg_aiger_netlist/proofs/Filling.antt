-- Words put into a row, one after another.
use Rattle.std.proofs.Common.{◌≡◌, ◌≢◌, ℕ, ◌+◌, ◌*◌, ◌/◌, ◌%◌, ◌^◌, ◌<◌, ◌≤◌, inl, inr, Bool, true, false, eqb, List, [], ◌∷◌, ◌++◌, length, get_or, set, take}
use Rattle.std.proofs.Common.{arith, refl, sym, subst, ap, ◌∙◌, append_assoc}
use Rattle.std.specs.Prelude.{map, ◌&&◌}
use Rattle.std.specs.List.{Contains}
use Rattle.std.specs.Int.{bit_at, w64}
use Rattle.std.specs.Int.RustNames.{bit_or}
use Rattle.std.proofs.lemmas.Bool.{cases_lt, cases_eq}
use Rattle.std.proofs.lemmas.List.{map-append, take_more}
use Rattle.std.proofs.lemmas.List.Elements.{Contains-append_left, Contains-append_right, Contains-get_or}
use Rattle.std.proofs.lemmas.Nat.Bits.{bit_at_set_same, bit_at_set_other}
use Rattle.pg_aiger.specs.declared.gate.Gate.{Gate}
use Rattle.pg_aiger.specs.declared.gate.Latch.{Latch}
use Rattle.pg_aiger.specs.Circuits.{Circuit, input_at, latch_at, no_latch}
use Rattle.pg_aiger.specs.Runs.{bit}
use Rattle.pg_aiger_netlist.specs.Netlists.{variable, IsAcyclic, IsUsedBy, known_by, sources}
use Rattle.pg_aiger_netlist.specs.Steps.{spelt}
use Rattle.pg_aiger_netlist.specs.Mirrors.Lanes.{lane_value, AreWords}
use Rattle.pg_aiger_netlist.specs.Mirrors.Marks.{variable_of}
use Rattle.pg_aiger_netlist.specs.Mirrors.Views.{IsOrder}
use Rattle.pg_aiger_netlist.proofs.Marking.{known_more}
use Rattle.pg_aiger_netlist.proofs.Gates.{ordered_at}
use Rattle.pg_aiger_netlist.proofs.Words.{word_set, input_right, latch_right, gate_right}

pub input_step : (circuit : Circuit) (state first : ℕ) (inputs : List ℕ) (k w : ℕ) (row : List ℕ) → IsAcyclic circuit → circuit.inputs ≡ inputs
    → k < length inputs → get_or inputs k 0 / 2 < length row → ((lane : ℕ) → lane < 64 → bit w lane ≡ bit (first + lane) k)
    → AreWords circuit state first (known_by (take k inputs)) row
    → AreWords circuit state first (known_by (take (k + 1) inputs)) (set row (get_or inputs k 0 / 2) w)
input_step circuit state first inputs k w row ac e l lt same are =
    subst (λ known. AreWords circuit state first known (set row (get_or inputs k 0 / 2) w))
    (sym (ap known_by (take_more inputs k 0 l) ∙ known_more (take k inputs) (get_or inputs k 0)))
    (word_set circuit state first (known_by (take k inputs)) row (get_or inputs k 0 / 2) w are lt
    (λ lane v h is. input_right circuit state first k w ac (subst (λ ls. k < length ls) (sym e) l) same lane v h is
    ∙ ap (λ ls. v (get_or ls k 0 / 2)) e))

pub latch_step : (circuit : Circuit) (bits : List Bool) (first : ℕ) (lines : List Latch) (k w : ℕ) (row now : List ℕ) → IsAcyclic circuit
    → circuit.latches ≡ lines → k < length lines → length bits ≡ length lines
    → (get_or lines k (record { literal = 0; next = 0 })).literal / 2 < length row
    → ((lane : ℕ) → lane < 64 → bit w lane ≡ get_or bits k false) → now ≡ set row ((get_or lines k (record { literal = 0; next = 0 })).literal / 2) w
    → AreWords circuit (spelt bits) first (known_by (circuit.inputs ++ map Latch.literal (take k lines))) row
    → AreWords circuit (spelt bits) first (known_by (circuit.inputs ++ map Latch.literal (take (k + 1) lines))) now
latch_step circuit bits first lines k w row now ac e l many lt same is_now are =
    subst (AreWords circuit (spelt bits) first (known_by (circuit.inputs ++ map Latch.literal (take (k + 1) lines)))) (sym is_now)
    (subst (λ known. AreWords circuit (spelt bits) first known (set row (here.literal / 2) w)) (sym more)
    (word_set circuit (spelt bits) first (known_by (circuit.inputs ++ map Latch.literal (take k lines))) row (here.literal / 2) w are lt
    (λ lane v h is. latch_right circuit bits first k w ac (subst (λ ls. k < length ls) (sym e) l) (omega (arith, l, many)) same lane v h is
    ∙ ap (λ (ls : List Latch). v ((get_or ls k (record { literal = 0; next = 0 })).literal / 2)) e)))
  where
    here : Latch
    here = get_or lines k (record { literal = 0; next = 0 })

    more : known_by (circuit.inputs ++ map Latch.literal (take (k + 1) lines))
        ≡ known_by (circuit.inputs ++ map Latch.literal (take k lines)) ++ variable here.literal ∷ []
    more = ap (λ ls. known_by (circuit.inputs ++ map Latch.literal ls)) (take_more lines k (record { literal = 0; next = 0 }) l)
        ∙ ap (λ ls. known_by (circuit.inputs ++ ls)) (map-append Latch.literal (take k lines) (here ∷ []))
        ∙ ap known_by (sym (append_assoc circuit.inputs (map Latch.literal (take k lines)) (here.literal ∷ [])))
        ∙ known_more (circuit.inputs ++ map Latch.literal (take k lines)) here.literal

-- what is known behind a gate more
pub known_next : (circuit : Circuit) (ordered : List Gate) (k : ℕ) (d : Gate) → k < length ordered
    → known_by (sources circuit) ++ map variable_of (take (k + 1) ordered)
    ≡ (known_by (sources circuit) ++ map variable_of (take k ordered)) ++ variable_of (get_or ordered k d) ∷ []
known_next circuit ordered k d l =
    ap (λ gs. known_by (sources circuit) ++ map variable_of gs) (take_more ordered k d l)
    ∙ ap (λ xs. known_by (sources circuit) ++ xs) (map-append variable_of (take k ordered) (get_or ordered k d ∷ []))
    ∙ sym (append_assoc (known_by (sources circuit)) (map variable_of (take k ordered)) (variable_of (get_or ordered k d) ∷ []))

pub used_known : (circuit : Circuit) (ordered : List Gate) (k : ℕ) (d : Gate) → IsOrder circuit ordered → k < length ordered
    → (x : ℕ) → IsUsedBy (get_or ordered k d) x → Contains (known_by (sources circuit) ++ map variable_of (take k ordered)) x
used_known circuit ordered k d order l x u = elim (ordered_at ordered (known_by (sources circuit)) k d x order.in_order l u) [
  | inl c ↦ Contains-append_left (known_by (sources circuit)) (map variable_of (take k ordered)) x c
  | inr c ↦ Contains-append_right (known_by (sources circuit)) (map variable_of (take k ordered)) x c
]

pub gate_step : (circuit : Circuit) (state first : ℕ) (ordered : List Gate) (k w : ℕ) (row : List ℕ) → IsAcyclic circuit → IsOrder circuit ordered
    → k < length ordered → variable_of (get_or ordered k (record { lhs = 0; rhs0 = 0; rhs1 = 0 })) < length row
    → ((lane : ℕ) → lane < 64 → bit w lane ≡ (lane_value row lane (get_or ordered k (record { lhs = 0; rhs0 = 0; rhs1 = 0 })).rhs0
    && lane_value row lane (get_or ordered k (record { lhs = 0; rhs0 = 0; rhs1 = 0 })).rhs1))
    → AreWords circuit state first (known_by (sources circuit) ++ map variable_of (take k ordered)) row
    → AreWords circuit state first (known_by (sources circuit) ++ map variable_of (take (k + 1) ordered))
    (set row (variable_of (get_or ordered k (record { lhs = 0; rhs0 = 0; rhs1 = 0 }))) w)
gate_step circuit state first ordered k w row ac order l lt same are =
    subst (λ known. AreWords circuit state first known (set row (variable_of g) w)) (sym (known_next circuit ordered k no_gate l))
    (word_set circuit state first known row (variable_of g) w are lt
    (gate_right circuit state first known row g w ac ((order.same g).0 (Contains-get_or ordered k no_gate l)) are
    (there (variable g.rhs0) (inl refl)) (there (variable g.rhs1) (inr refl)) same))
  where
    no_gate : Gate
    no_gate = record { lhs = 0; rhs0 = 0; rhs1 = 0 }

    g : Gate
    g = get_or ordered k no_gate

    known : List ℕ
    known = known_by (sources circuit) ++ map variable_of (take k ordered)

    there : (x : ℕ) → IsUsedBy g x → Contains known x
    there = used_known circuit ordered k no_gate order l

-- a lane of an input's word
pub lane_set : (word lane : ℕ) → lane < 64 → bit (bit_or word (1 * 2 ^ lane % 2 ^ 64)) lane ≡ true
lane_set word lane l = ap (λ n. eqb n 1) (bit_at_set_same w64 word lane l)

pub lane_kept : (word lane i : ℕ) → lane < 64 → i ≢ lane → bit (bit_or word (1 * 2 ^ lane % 2 ^ 64)) i ≡ bit word i
lane_kept word lane i l other = ap (λ n. eqb n 1) (bit_at_set_other w64 word lane l i other)
