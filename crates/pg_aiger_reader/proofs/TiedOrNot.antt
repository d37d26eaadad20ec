-- What is tied is not refused.
use Rattle.pg_aiger_reader.proofs.Common.{◌≡◌, ◌∙◌, ℕ, ◌<◌, Bool, true, false, List, [], ◌∷◌, length}
use Rattle.pg_aiger_reader.proofs.Common.{get_or, refl, sym, subst, arith, inl, inr, cases_lt, Contains, Contains-append_right, get_or_default}
use Rattle.pg_aiger.specs.CircuitLayout.{input_names, output_names}
use Rattle.pg_aiger.specs.CircuitText.{Kind, input, latch, output, Symbol}
use Rattle.pg_aiger_reader.specs.Laws.{TiedOrRefused}
use Rattle.pg_aiger_reader.specs.Ties.{IsNamed, AreNamed, AreTied, IsLeft, IsUnknown, IsFirstUnknown, IsSideFault, IsNameless}
use Rattle.pg_aiger_reader.specs.declared.fault.SideFault.{SideFault}
use Rattle.pg_aiger_reader.specs.declared.fault.SideFault.TheVariants.{Missing, Twice, Shared, Nameless, Extra, Short, Long}
use Rattle.pg_aiger_reader.specs.declared.fault.TieFault.TheVariants.{OutOfMemory, NoSymbols, Inputs, Outputs}

-- which name has a place
owner : (kind : Kind) (count : ℕ) (symbols : List Symbol) (names : List (List ℕ)) (places : List ℕ) → AreNamed kind count symbols names places
    → (place : ℕ) → place < count → (j : ℕ) × (j < length names) × IsNamed kind count symbols (get_or names j []) place
owner kind count symbols names places named place within =
    let (j, below, is) = named.none_left place within in
    let all = named.all in
    let among : j < length names = omega arith in
    (j, among, subst (IsNamed kind count symbols (get_or names j [])) (get_or_default places j 0 place below ∙ is) (named.named j among))

none_is_left : (kind : Kind) (count : ℕ) (symbols : List Symbol) (names : List (List ℕ)) (places : List ℕ) (place : ℕ)
    → AreNamed kind count symbols names places → IsLeft kind count symbols names place → ⊥
none_is_left kind count symbols names places place named left =
    let own = owner kind count symbols names places named place left.within in
    left.left own.0 own.1 own.2

unknown_among : (kind : Kind) (count : ℕ) (names : List (List ℕ)) (symbols : List Symbol) (s : Symbol) → IsFirstUnknown kind count names symbols s
    → Contains symbols s × IsUnknown kind count names s
unknown_among kind count names [] s first = absurd first
unknown_among kind count names (t ∷ symbols) s (inl (is, e)) =
    subst (λ u. Contains (t ∷ symbols) u × IsUnknown kind count names u) e ((0, omega arith, refl), is)
unknown_among kind count names (t ∷ symbols) s (inr (other, first)) =
    let among = unknown_among kind count names symbols s first in
    (Contains-append_right (t ∷ []) symbols s among.0, among.1)

tied_or_not : (by_place : Bool) (kind : Kind) (symbols : List Symbol) (names : List (List ℕ)) (literals tied : List ℕ) (fault : SideFault)
    → AreTied by_place kind symbols names literals tied → IsSideFault by_place kind (length literals) symbols names fault → ⊥
tied_or_not true kind symbols names literals tied (Short name) t f = let same = t.0 in let less = f.0 in absurd (omega (arith, same, less))
tied_or_not true kind symbols names literals tied (Long place) t f =
    let same = t.0 in let at = f.0 in let less = f.1 in absurd (omega (arith, same, at, less))
tied_or_not true kind symbols names literals tied _ t f = f
tied_or_not false kind symbols names literals tied (Missing name) t f =
    let place = get_or t.0 f.0 0 in
    f.2 place (subst (λ n. IsNamed kind (length literals) symbols n place) f.1.there (t.1.named f.0 f.1.within))
tied_or_not false kind symbols names literals tied (Twice name) t f =
    let (p, q, apart, first, second) = f.2 in
    let back : (place : ℕ) → IsNamed kind (length literals) symbols name.bytes.items place → place ≡ get_or t.0 f.0 0 =
    λ place is. t.1.nowhere_else f.0 place f.1.within (subst (λ n. IsNamed kind (length literals) symbols n place) (sym f.1.there) is) in
    apart (back p first ∙ sym (back q second))
tied_or_not false kind symbols names literals tied (Shared place one other) t f =
    let (j, before, e, at) = f.3 in
    let all = t.1.all in
    let within = f.1.within in
    let here = t.1.nowhere_else f.0 place within (subst (λ n. IsNamed kind (length literals) symbols n place) (sym f.1.there) f.2.0) in
    let there = t.1.nowhere_else j place (omega arith) (subst (λ n. IsNamed kind (length literals) symbols n place) (sym e) at) in
    t.1.apart j f.0 0 before (omega arith) (sym there ∙ here)
tied_or_not false kind symbols names literals tied (Nameless place) t f =
    none_is_left kind (length literals) symbols names t.0 place t.1 f.0
tied_or_not false kind symbols names literals tied (Extra place name) t f =
    let (s, first, at, named) = f.1 in
    let among = unknown_among kind (length literals) names symbols s first in
    t.1.known s among.0 among.1
tied_or_not false kind symbols names literals tied _ t f = f

-- where something is tied by its name, a symbol of its kind is there
not_nameless : (kind : Kind) (symbols : List Symbol) (names : List (List ℕ)) (literals tied : List ℕ) → AreTied false kind symbols names literals tied
    → 0 < length literals → ((s : Symbol) → Contains symbols s → s.kind ≡ latch) → kind ≡ latch
not_nameless kind symbols names literals tied t some latches =
    let own = owner kind (length literals) symbols names t.0 t.1 0 some in
    sym own.2.2.of_kind ∙ latches own.2.0 own.2.1

input_is_no_latch : input ≡ latch → ⊥
input_is_no_latch e = cc

output_is_no_latch : output ≡ latch → ⊥
output_is_no_latch e = cc

nameless_or_tied : (by_place : Bool) (symbols : List Symbol) (ins outs : List (List ℕ)) (inputs outputs first second : List ℕ)
    → AreTied by_place input symbols ins inputs first → AreTied by_place output symbols outs outputs second
    → IsNameless by_place inputs outputs symbols → ⊥
nameless_or_tied true symbols ins outs inputs outputs first second p q f = f
nameless_or_tied false symbols ins outs inputs outputs first second p q f =
    let some = f.0 in
    elim (cases_lt 0 (length inputs)) [
      | inl lt ↦ input_is_no_latch (not_nameless input symbols ins inputs first p lt f.1)
      | inr le ↦ output_is_no_latch (not_nameless output symbols outs outputs second q (omega (arith, some, le)) f.1)
    ]

pub tied_or_refused : TiedOrRefused
tied_or_refused by_place a circuit symbols tied OutOfMemory t f = refl
tied_or_refused by_place a circuit symbols tied NoSymbols t f =
    absurd (nameless_or_tied by_place symbols (input_names a) (output_names a) circuit.inputs circuit.outputs tied.inputs tied.outputs t.inputs t.outputs f)
tied_or_refused by_place a circuit symbols tied (Inputs fault) t f =
    absurd (tied_or_not by_place input symbols (input_names a) circuit.inputs tied.inputs fault t.inputs f.1)
tied_or_refused by_place a circuit symbols tied (Outputs fault) t f =
    absurd (tied_or_not by_place output symbols (output_names a) circuit.outputs tied.outputs fault t.outputs f.2)
