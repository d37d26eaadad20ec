use Rattle.pg_aiger_reader.proofs.Common.{◌≡◌, ◌<◌, ◌∙◌, ℕ, List, [], Contains, arith, get_or, length, map, refl, subst, sym}
use Rattle.pg_aiger_reader.proofs.Given.{given_more, is_next, name_at, no_name}
use Rattle.pg_aiger_reader.specs.Ties.{IsNamed, IsOnlyAt}
use Rattle.pg_aiger_reader.specs.Views.{kind_in, symbol_in}
use Rattle.pg_aiger_reader.specs.Mirrors.Places.{IsPlaceOf, texts}
use Rattle.pg_aiger_reader.specs.declared.ties.SymbolPlace.{SymbolPlace}
use Rattle.pg_aiger_reader.specs.declared.ties.SymbolPlace.TheVariants.{At, Twice}
use Rattle.pg_aiger_reader.proofs.ties.places_of.Goals as goal

pub returns-in-Missing : goal.returns-in-Missing
returns-in-Missing c =
    let kind = kind_in c.args.kind in
    let symbols = map symbol_in c.args.symbols.now in
    let names = c.args.names.now in
    let k = c.loop-k.k in
    let seen = subst (λ (p : SymbolPlace). IsPlaceOf kind c.args.count symbols (get_or names k no_name).now p) c.in-Missing.is c.place_of.ensures in
    let e = c.in_ok-of-in-Missing.ensures in (
      k,
      is_next kind c.args.count symbols names k c.loop-k.places.items _ c.loop-k.invariant c.loop-k-test.true e,
      subst (λ (n : List ℕ). (place : ℕ) → ¬ IsNamed kind c.args.count symbols n place) (sym e) seen,
    )

pub returns-in-Twice : goal.returns-in-Twice
returns-in-Twice c =
    let kind = kind_in c.args.kind in
    let symbols = map symbol_in c.args.symbols.now in
    let names = c.args.names.now in
    let k = c.loop-k.k in
    let seen = subst (λ (p : SymbolPlace). IsPlaceOf kind c.args.count symbols (get_or names k no_name).now p) c.in-Twice.is c.place_of.ensures in
    let e = c.in_ok-of-in-Twice.ensures in (
      k,
      is_next kind c.args.count symbols names k c.loop-k.places.items _ c.loop-k.invariant c.loop-k-test.true e,
      subst (λ (n : List ℕ). IsPlaceOf kind c.args.count symbols n Twice) (sym e) seen,
    )

pub returns-in-Some : goal.returns-in-Some
returns-in-Some c =
    let kind = kind_in c.args.kind in
    let symbols = map symbol_in c.args.symbols.now in
    let names = c.args.names.now in
    let k = c.loop-k.k in
    let j = c.in-Some.j in
    let places = c.loop-k.places.items in
    let place = c.in-At.place in
    let seen = subst (λ (p : SymbolPlace). IsPlaceOf kind c.args.count symbols (get_or names k no_name).now p) c.in-At.is c.place_of.ensures in
    let one : c.in_ok-one-in-At.one.bytes.items ≡ (get_or names j no_name).now = c.in_ok-one-in-At.ensures in
    let other = c.in_ok-other-in-At.ensures in
    let at : (j < length places) × (get_or places j 0 ≡ place) = rw c.deref.ensures.value at c.in-Some.ensures.some in
    let lt = at.0 in
    let all = c.loop-k.invariant.all in
    let test = c.loop-k-test.true in
    let before : j < k = omega (arith, lt, all) in
    let here : get_or (texts names) j [] ≡ c.in_ok-one-in-At.one.bytes.items = name_at names j (omega (arith, before, test)) ∙ sym one in (
      k,
      is_next kind c.args.count symbols names k places _ c.loop-k.invariant test other,
      subst (λ (n : List ℕ). IsOnlyAt kind c.args.count symbols n place) (sym other) seen,
      (
        j,
        before,
        here,
        subst (λ (p : ℕ). IsNamed kind c.args.count symbols c.in_ok-one-in-At.one.bytes.items p) at.1
            (subst (λ (n : List ℕ). IsNamed kind c.args.count symbols n (get_or places j 0)) here (c.loop-k.invariant.named j before)),
      ),
    )

pub loop-k-preserved : goal.loop-k-preserved
loop-k-preserved c =
    let names = c.args.names.now in
    let kind = kind_in c.args.kind in
    let symbols = map symbol_in c.args.symbols.now in
    let places = c.loop-k.places.items in
    let seen = subst (λ (p : SymbolPlace). IsPlaceOf kind c.args.count symbols (get_or names c.loop-k.k no_name).now p) c.in-At.is c.place_of.ensures in
    let here : IsPlaceOf kind c.args.count symbols (get_or (texts names) c.loop-k.k []) (At c.in-At.place) =
    subst (λ (name : List ℕ). IsPlaceOf kind c.args.count symbols name (At c.in-At.place)) (sym (name_at names c.loop-k.k c.loop-k-test.true)) seen in
    let new : Contains places c.in-At.place → ⊥ = rw c.deref.ensures.value at (c.in_default.ensures.none refl) in
    rw c.in_ok-push-in-At.ensures.items (given_more kind c.args.count symbols (texts names) c.loop-k.k places c.in-At.place c.loop-k.invariant here new)
