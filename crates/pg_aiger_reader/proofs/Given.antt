-- Names that are given places, one after another.
use Rattle.pg_aiger_reader.proofs.Common.{◌≡◌, ◌≢◌, ◌⊎◌, ℕ, zero, suc, ◌+◌, ◌<◌, false, List, [], ◌∷◌, ◌++◌, length, get_or, refl, sym, ap, subst}
use Rattle.pg_aiger_reader.proofs.Common.{◌∙◌, arith, inl, inr, cases_lt, Contains}
use Rattle.pg_aiger_reader.proofs.Common.{Contains-get_or, length-append, get_or_append_left, get_or_push, get_or_default, map}
use Rattle.std.specs.Prelude.{All, Result, Ok, MatchResult}
use Rattle.pg_aiger.specs.CircuitText.{Kind, Symbol}
use Rattle.pg_aiger_reader.specs.Ties.{IsNamed, AreTied, HasPlace, IsNext, IsLeft, IsUnknown, AreKnown, IsFirstUnknown, literals_at}
use Rattle.pg_aiger_reader.specs.Mirrors.Places.{IsPlaceOf, AreGiven, texts}
use Rattle.pg_aiger_reader.proofs.Common.{Bor, get_or-map, length-map, map_push, take, take_more}
use Rattle.pg_aiger_reader.specs.Views.{symbol_in}
use Rattle.pg_aiger_reader.specs.declared.symbol.Symbol as memory
use Rattle.pg_aiger_reader.specs.declared.symbol.SymbolKind.TheVariants as kinds
use Rattle.pg_aiger_reader.specs.declared.ties.SymbolPlace.TheVariants.{At}

pub none_given : (kind : Kind) (count : ℕ) (symbols : List Symbol) (names : List (List ℕ)) → AreGiven kind count symbols names 0 []
none_given kind count symbols names = record {
  all = refl;
  named = λ k below. absurd (omega arith);
  nowhere_else = λ k place below is. absurd (omega arith);
  apart = λ i j before below. absurd (omega arith);
}

-- which of the places, the last one or one before it
at_end : (places : List ℕ) (p so_many k : ℕ) → length places ≡ so_many → k < so_many + 1
    → ((k < so_many) × (get_or (places ++ p ∷ []) k 0 ≡ get_or places k 0)) ⊎ ((k ≡ so_many) × (get_or (places ++ p ∷ []) k 0 ≡ p))
at_end places p so_many k all below =
    elim (cases_below k so_many below) [
      | inl lt ↦ inl (lt, get_or_append_left places (p ∷ []) 0 k (omega arith))
      | inr e ↦ inr (e, get_or_push places p 0 k (omega arith))
    ]
  where
    cases_below : (k n : ℕ) → k < n + 1 → (k < n) ⊎ (k ≡ n)
    cases_below k n lt = elim (cases_lt k n) [ inl h ↦ inl h | inr h ↦ inr (omega arith) ]

pub given_more : (kind : Kind) (count : ℕ) (symbols : List Symbol) (names : List (List ℕ)) (k : ℕ) (places : List ℕ) (p : ℕ)
    → AreGiven kind count symbols names k places → IsPlaceOf kind count symbols (get_or names k []) (At p) → (Contains places p → ⊥)
    → AreGiven kind count symbols names (k + 1) (places ++ p ∷ [])
given_more kind count symbols names k places p given place new = record {
  all = let all = given.all in omega (arith, length-append places (p ∷ []), all);
  named = λ j below.
      elim (at_end places p k j given.all below) [
        | inl h ↦ subst (IsNamed kind count symbols (get_or names j [])) (sym h.1) (given.named j h.0)
        | inr h ↦ subst (IsNamed kind count symbols (get_or names j [])) (sym h.1) (subst (λ i. IsNamed kind count symbols (get_or names i []) p) (sym h.0) place.0)
      ];
  nowhere_else = λ j q below is.
      elim (at_end places p k j given.all below) [
        | inl h ↦ given.nowhere_else j q h.0 is ∙ sym h.1
        | inr h ↦ place.1 q (subst (λ i. IsNamed kind count symbols (get_or names i []) q) h.0 is) ∙ sym h.1
      ];
  apart = λ i j before below same.
      let all = given.all in
      let first : get_or (places ++ p ∷ []) i 0 ≡ get_or places i 0 = get_or_append_left places (p ∷ []) 0 i (omega arith) in
      elim (at_end places p k j given.all below) [
        | inl h ↦ given.apart i j before h.0 (sym first ∙ same ∙ h.1)
        | inr h ↦ new (subst (Contains places) (sym first ∙ same ∙ h.1) (Contains-get_or places i 0 (omega arith)))
      ];
}

-- such a name has a place of its own
pub has_place : (kind : Kind) (count : ℕ) (symbols : List Symbol) (names : List (List ℕ)) (so_many : ℕ) (places : List ℕ)
    → AreGiven kind count symbols names so_many places → (k : ℕ) → k < so_many → HasPlace kind count symbols names k
has_place kind count symbols names so_many places given k below = (
  get_or places k 0,
  (given.named k below, λ other is. given.nowhere_else k other below is),
  λ j before is. given.apart j k before below (sym (given.nowhere_else j (get_or places k 0) (omega arith) is)),
)

-- ---- all names

pub tied_by_names : (kind : Kind) (symbols : List Symbol) (names : List (List ℕ)) (literals places tied : List ℕ)
    → AreGiven kind (length literals) symbols names (length names) places
    → AreKnown kind (length literals) symbols names → ((p : ℕ) → p < length literals → Contains places p)
    → tied ≡ literals_at literals places → AreTied false kind symbols names literals tied
tied_by_names kind symbols names literals places tied given known none e = (
  places,
  record {
    all = given.all;
    named = given.named;
    nowhere_else = given.nowhere_else;
    apart = λ i j d before below same.
        let all = given.all in
        given.apart i j before (omega arith)
        (get_or_default places i 0 d (omega arith) ∙ same ∙ get_or_default places j d 0 below);
    known = known;
    none_left = none;
  },
  e,
)

pub places_within : (kind : Kind) (count : ℕ) (symbols : List Symbol) (names : List (List ℕ)) (so_many : ℕ) (places : List ℕ)
    → AreGiven kind count symbols names so_many places → All (λ p. p < count) places
places_within kind count symbols names so_many places given = λ i d below.
    let all = given.all in
    let is = given.named i (omega arith) in
    let within : get_or places i 0 < count = is.2.within in
    subst (λ p. p < count) (get_or_default places i 0 d below) within

pub is_left : (kind : Kind) (count : ℕ) (symbols : List Symbol) (names : List (List ℕ)) (places : List ℕ) (p : ℕ)
    → AreGiven kind count symbols names (length names) places → p < count → (Contains places p → ⊥) → ((q : ℕ) → q < p → Contains places q)
    → IsLeft kind count symbols names p
is_left kind count symbols names places p given within new before = record {
  all = λ k below. has_place kind count symbols names (length names) places given k below;
  within = within;
  left = λ k below is.
      let all = given.all in
      new (subst (Contains places) (sym (given.nowhere_else k p below is)) (Contains-get_or places k 0 (omega arith)));
  before = λ q short.
      let (j, below, is) = before q short in
      let all = given.all in
      let here : get_or places j 0 ≡ q = get_or_default places j 0 q below ∙ is in
      let among : j < length names = omega arith in
      (j, among, subst (IsNamed kind count symbols (get_or names j [])) here (given.named j among));
}

-- ---- names and symbols where they lie in memory

abbrev pub no_name : Bor (List ℕ)
no_name = record { ref_ptr = (0, 0); now = [] }

abbrev pub no_symbol : memory.Symbol
no_symbol = record { kind = kinds.Input; position = 0; name = no_name }

pub name_at : (names : List (Bor (List ℕ))) (k : ℕ) → k < length names → get_or (texts names) k [] ≡ (get_or names k no_name).now
name_at names k within = get_or-map (λ name. name.now) names k no_name [] within

pub as_many : (names : List (Bor (List ℕ))) → length (texts names) ≡ length names
as_many names = length-map names (λ name. name.now)

-- the name that is looked for behind those that have places
pub is_next : (kind : Kind) (count : ℕ) (symbols : List Symbol) (names : List (Bor (List ℕ))) (k : ℕ) (places name : List ℕ)
    → AreGiven kind count symbols (texts names) k places → k < length names → name ≡ (get_or names k no_name).now
    → IsNext kind count symbols (texts names) k name
is_next kind count symbols names k places name given within e = record {
  within = subst (λ n. k < n) (sym (as_many names)) within;
  there = name_at names k within ∙ sym e;
  before = λ j below. has_place kind count symbols (texts names) k places given j below;
}

pub more_symbols : (symbols : List memory.Symbol) (i : ℕ) → i < length symbols
    → map symbol_in (take (i + 1) symbols) ≡ map symbol_in (take i symbols) ++ symbol_in (get_or symbols i no_symbol) ∷ []
more_symbols symbols i within =
    ap (map symbol_in) (take_more symbols i no_symbol within) ∙ map_push symbol_in (take i symbols) (get_or symbols i no_symbol)

pub symbol_at : (symbols : List memory.Symbol) (i : ℕ) (d : Symbol) → i < length symbols
    → get_or (map symbol_in symbols) i d ≡ symbol_in (get_or symbols i no_symbol)
symbol_at symbols i d within = get_or-map symbol_in symbols i no_symbol d within

-- ---- symbols that give other names

pub unknown_first : (kind : Kind) (count : ℕ) (names : List (List ℕ)) (symbols : List Symbol) (i : ℕ) (d : Symbol) → i < length symbols
    → ((k : ℕ) → k < i → ¬ IsUnknown kind count names (get_or symbols k d)) → IsUnknown kind count names (get_or symbols i d)
    → IsFirstUnknown kind count names symbols (get_or symbols i d)
unknown_first kind count names [] i d below none is = absurd (omega arith)
unknown_first kind count names (s ∷ symbols) zero d below none is = inl (is, refl)
unknown_first kind count names (s ∷ symbols) (suc i) d below none is =
    inr (none 0 (omega arith), unknown_first kind count names symbols i d (omega arith) (λ k short. none (suc k) (omega arith)) is)

-- where no symbol gives another name, none gives one to a place that is left
pub none_there : (kind : Kind) (count : ℕ) (symbols : List Symbol) (names : List (List ℕ)) (place : ℕ) → IsLeft kind count symbols names place
    → AreKnown kind count symbols names → (s : Symbol) → Contains symbols s → s.kind ≡ kind
    → s.position ≢ place
none_there kind count symbols names place left known s there of_kind at = known s there (record {
  of_kind = of_kind;
  within = subst (λ p. p < count) (sym at) left.within;
  other = λ (k, below, is). left.left k below (
    s,
    there,
    record {
      of_kind = of_kind;
      named = sym (get_or_default names k [] s.name below ∙ is);
      at = at;
      within = left.within;
    },
  );
})

-- ---- a result that is known

pub matched : {T E : Type 0} (r : Result T E) (x : T) (P : T → Type 0) (Q : E → Type 0) → r ≡ Ok x → MatchResult r P Q → P x
matched {T = T} {E = E} r x P Q e m = subst (λ (r : Result T E). MatchResult r P Q) e m
