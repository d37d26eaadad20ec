use Rattle.pg_aiger_reader.proofs.Common.{◌<◌, ◌∙◌, ℕ, List, Contains, ap, length, map, refl, subst, sym}
use Rattle.pg_aiger_reader.proofs.Given.{as_many, tied_by_names, places_within, is_left, has_place, none_there, matched}
use Rattle.pg_aiger_reader.specs.Ties.{literals_at}
use Rattle.pg_aiger_reader.specs.Views.{kind_in, symbol_in}
use Rattle.pg_aiger_reader.specs.Mirrors.Places.{AreGiven, texts}
use Rattle.pg_aiger_reader.proofs.ties.by_symbols.Goals as goal

pub returns-in-Some : goal.returns-in-Some
returns-in-Some c =
    let names = c.args.names.now in
    let kind = kind_in c.args.kind in
    let count = length c.args.literals.now in
    let symbols = map symbol_in c.args.symbols.now in
    let places = c.in-Ok.places.items in
    let found = matched c.in_ok-places.field-0 c.in-Ok.places _ _ c.in-Ok.is c.in_ok-places.ensures in
    let given = subst (λ n. AreGiven kind count symbols (texts names) n places) (sym (as_many names)) found in (
      λ k below. has_place kind count symbols (texts names) (length (texts names)) places given k below,
      (symbol_in c.in-Some.symbol, c.in-Some.ensures, refl, sym c.in_ok-name.ensures),
    )

pub returns-in-Some-left : goal.returns-in-Some-left
returns-in-Some-left c =
    let names = c.args.names.now in
    let kind = kind_in c.args.kind in
    let count = length c.args.literals.now in
    let symbols = map symbol_in c.args.symbols.now in
    let places = c.in-Ok.places.items in
    let place = c.in-Some-left.place in
    let found = matched c.in_ok-places.field-0 c.in-Ok.places _ _ c.in-Ok.is c.in_ok-places.ensures in
    let given = subst (λ n. AreGiven kind count symbols (texts names) n places) (sym (as_many names)) found in
    let (within, new, before) = c.in-Some-left.ensures.some in
    let new' : Contains places place → ⊥ = rw c.deref.ensures.value at new in
    let before' : (q : ℕ) → q < place → Contains places q =
    subst (λ (l : List ℕ). (q : ℕ) → q < place → Contains l q) c.deref.ensures.value before in
    let left = is_left kind count symbols (texts names) places place given within new' before' in
    (left, c.in_default.ensures, none_there kind count symbols (texts names) place left c.in_default.ensures)

pub selected-requires : goal.selected-requires
selected-requires c =
    let found = matched c.in_ok-places.field-0 c.in-Ok.places _ _ c.in-Ok.is c.in_ok-places.ensures in
    rw c.deref-in-None.ensures.value (places_within (kind_in c.args.kind) (length c.args.literals.now) (map symbol_in c.args.symbols.now)
    (texts c.args.names.now) (length c.args.names.now) c.in-Ok.places.items found)

pub returns : goal.returns
returns c =
    let names = c.args.names.now in
    let kind = kind_in c.args.kind in
    let symbols = map symbol_in c.args.symbols.now in
    let places = c.in-Ok.places.items in
    let found = matched c.in_ok-places.field-0 c.in-Ok.places _ _ c.in-Ok.is c.in_ok-places.ensures in
    let given = subst (λ n. AreGiven kind (length c.args.literals.now) symbols (texts names) n places) (sym (as_many names)) found in
    let all : (p : ℕ) → p < length c.args.literals.now → Contains places p =
    subst (λ (l : List ℕ). (p : ℕ) → p < length c.args.literals.now → Contains l p) c.deref.ensures.value (c.in-None.ensures.none refl) in
    tied_by_names kind symbols (texts names) c.args.literals.now places _ given c.in_default.ensures all
    (c.in_ok-selected-in-None.ensures ∙ ap (literals_at c.args.literals.now) c.deref-in-None.ensures.value)
