-- Names that mean literals, one after another.
use Rattle.std.proofs.Common.{◌≡◌, ◌∙◌, ℕ, ◌+◌, ◌<◌, Some, List, [], ◌∷◌, ◌++◌, length, map, take, get_or, arith, refl, sym, ap, subst, inl, inr}
use Rattle.std.specs.declared.vec.Vec.{Vec}
use Rattle.std.specs.declared.alloc.Global.{Global}
use Rattle.std.proofs.lemmas.Bool.{cases_lt}
use Rattle.std.proofs.lemmas.List.{get_or-map, get_or-take, get_or_append_left, get_or_push, length-map, length-append, length-take-le, take_more}
use Rattle.pg_aiger.specs.Circuits.{Circuit}
use Rattle.pg_aiger.specs.CircuitText.{Symbol}
use Rattle.pg_aiger_reader.specs.Views.{symbol_in}
use Rattle.pg_aiger_reader.specs.declared.symbol.Symbol as memory
use Rattle.pg_satisfies_texts.specs.Names.{Means, AreMeant, IsNext}
use Rattle.pg_satisfies_texts.specs.Mirrors.Signals.{meaning, SignalTable, signals_for, AreKept, IsMeaning}
use Rattle.pg_satisfies_texts.specs.declared.signals.NamedLiteral.{NamedLiteral}
use Rattle.pg_satisfies_texts.specs.declared.signals.NamedSignals.{NamedSignals}
use Rattle.pg_satisfies_texts.proofs.Noting.{meaning_is}

abbrev pub texts : List (Vec ℕ Global) → List (List ℕ)
texts names = map (λ v. v.items) names

pub name_at : (names : List (Vec ℕ Global)) (i : ℕ) (v : Vec ℕ Global) → i < length names → v ≡ get_or names i v
    → get_or (texts names) i [] ≡ v.items
name_at names i v lt e =
    get_or-map (λ (v : Vec ℕ Global). v.items) names i v [] lt ∙ ap (λ (v : Vec ℕ Global). v.items) (sym e)

meant_push : (circuit : Circuit) (symbols : List Symbol) (names : List (List ℕ)) (literals : List ℕ) (name : List ℕ) (literal : ℕ)
    → AreMeant circuit symbols names literals → Means circuit symbols name literal
    → AreMeant circuit symbols (names ++ name ∷ []) (literals ++ literal ∷ [])
meant_push circuit symbols names literals name literal meant means = record {
  all = let all = meant.all in omega (arith, length-append literals (literal ∷ []), length-append names (name ∷ []), all);
  meant = λ k lt.
      let all = meant.all in
      let long = length-append names (name ∷ []) in
      elim (cases_lt k (length names)) [
        | inl less ↦
            subst (λ (l : ℕ). Means circuit symbols (get_or (names ++ name ∷ []) k []) l)
            (sym (get_or_append_left literals (literal ∷ []) 0 k (omega arith)))
            (subst (λ (n : List ℕ). Means circuit symbols n (get_or literals k 0)) (sym (get_or_append_left names (name ∷ []) [] k less)) (meant.meant k less))
        | inr le ↦
            subst (λ (l : ℕ). Means circuit symbols (get_or (names ++ name ∷ []) k []) l)
            (sym (get_or_push literals literal 0 k (omega arith)))
            (subst (λ (n : List ℕ). Means circuit symbols n literal) (sym (get_or_push names name [] k (omega arith))) means)
      ];
}

pub meant_more : (circuit : Circuit) (symbols : List Symbol) (names : List (Vec ℕ Global)) (i : ℕ) (v : Vec ℕ Global) (literals : List ℕ) (literal : ℕ)
    → i < length names → v ≡ get_or names i v → AreMeant circuit symbols (take i (texts names)) literals → Means circuit symbols v.items literal
    → AreMeant circuit symbols (take (i + 1) (texts names)) (literals ++ literal ∷ [])
meant_more circuit symbols names i v literals literal lt e meant means =
    let l = length-map names (λ (v : Vec ℕ Global). v.items) in
    let more : take (i + 1) (texts names) ≡ take i (texts names) ++ v.items ∷ [] =
    take_more (texts names) i [] (omega (arith, lt, l)) ∙ ap (λ (n : List ℕ). take i (texts names) ++ n ∷ []) (name_at names i v lt e) in
    subst (λ (ns : List (List ℕ)). AreMeant circuit symbols ns (literals ++ literal ∷ [])) (sym more)
    (meant_push circuit symbols (take i (texts names)) literals v.items literal meant means)

-- the first name that means no literal
pub next_of : (circuit : Circuit) (symbols : List Symbol) (names : List (Vec ℕ Global)) (i : ℕ) (v : Vec ℕ Global) (literals name : List ℕ)
    → i < length names → v ≡ get_or names i v → name ≡ v.items → AreMeant circuit symbols (take i (texts names)) literals
    → IsNext circuit symbols (texts names) name
next_of circuit symbols names i v literals name lt e is meant =
    let l = length-map names (λ (v : Vec ℕ Global). v.items) in
    let long : length (take i (texts names)) ≡ i = length-take-le i (texts names) (omega (arith, lt, l)) in
    record {
      place = i;
      within = omega (arith, lt, l);
      there = name_at names i v lt e ∙ sym is;
      before = λ k less. (
        get_or literals k 0,
        subst (λ (n : List ℕ). Means circuit symbols n (get_or literals k 0)) (get_or-take i (texts names) k [] less) (meant.meant k (omega (arith, long))),
      );
    }

-- what is looked up in a table
pub meaning_of : (circuit : Circuit) (symbols : List Symbol) (names : List (Vec ℕ Global)) (table : SignalTable) (i : ℕ) (v : Vec ℕ Global)
    (bytes : List ℕ) (found : NamedLiteral) → AreKept circuit symbols (texts names) table → i < length names → v ≡ get_or names i v → bytes ≡ v.items
    → ((signals : NamedSignals) → signals_for table bytes ≡ Some signals → found ≡ meaning signals) → IsMeaning circuit symbols v.items found
meaning_of circuit symbols names table i v bytes found kept lt e is looked =
    let l = length-map names (λ (v : Vec ℕ Global). v.items) in
    let here = kept i (omega (arith, lt, l)) in
    let at : get_or (texts names) i [] ≡ v.items = name_at names i v lt e in
    let same : found ≡ meaning here.0 = looked here.0 (ap (signals_for table) (is ∙ sym at) ∙ here.1) in
    subst (IsMeaning circuit symbols v.items) (sym same) (subst (λ (n : List ℕ). IsMeaning circuit symbols n (meaning here.0)) at
    (meaning_is circuit symbols (get_or (texts names) i []) here.0.ports here.0.latches here.2.ports here.2.latches))

-- the names that symbols give, as they are in memory
pub symbol_names : (symbols : List memory.Symbol) → map (λ s. s.name.now) symbols ≡ map Symbol.name (map symbol_in symbols)
symbol_names [] = refl
symbol_names (s ∷ symbols) = ap (λ (ns : List (List ℕ)). s.name.now ∷ ns) (symbol_names symbols)
