-- Tables of the signals to which symbols give names.
use Rattle.std.proofs.Common.{◌≡◌, ◌∙◌, ℕ, ◌+◌, ◌<◌, Bool, false, cond, Option, Some, List, [], ◌∷◌, ◌++◌, map, take}
use Rattle.std.proofs.Common.{length, get_or, arith, sym, ap, subst, inl, inr, if◌then◌else◌}
use Rattle.std.specs.HashMap.{UpdatesBy}
use Rattle.std.specs.Str.{bytes_eq}
use Rattle.std.proofs.lemmas.Bool.{cases_Bool, cases_lt}
use Rattle.std.proofs.lemmas.List.{take_more, map_push}
use Rattle.std.proofs.lemmas.Map.Text.{hash_map_updates_str}
use Rattle.std.proofs.lemmas.Slice.Eq.{bytes_eq-Decides}
use Rattle.pg_aiger.specs.Circuits.{Circuit}
use Rattle.pg_aiger.specs.CircuitText.{Symbol}
use Rattle.pg_aiger_reader.specs.Views.{symbol_in}
use Rattle.pg_aiger_reader.specs.declared.symbol.Symbol as memory
use Rattle.pg_satisfies_texts.specs.Names.{literal_of}
use Rattle.pg_satisfies_texts.specs.Mirrors.Signals.{noted, noted_if, noted_at, nothing, SignalTable, signals_for, AreKept}
use Rattle.pg_satisfies_texts.specs.declared.signals.NamedSignals.{NamedSignals}
use Rattle.pg_satisfies_texts.proofs.Noting.{signals_more, no_signals}

-- the second table has these signals at the name, and otherwise what the first has
abbrev pub IsPut : List ℕ → SignalTable → SignalTable → NamedSignals → Type 0
IsPut name old new signals = UpdatesBy (λ x y. bytes_eq x.now y.now) (λ k. bytes_eq name k.now) old new (Some signals)

put_there : (name : List ℕ) (old new : SignalTable) (signals : NamedSignals) → IsPut name old new signals → (other : List ℕ) → name ≡ other
    → signals_for new other ≡ Some signals
put_there name old new signals put other same =
    hash_map_updates_str name old new (Some signals) put other
    ∙ ap (λ (b : Bool). cond b (Some signals) (signals_for old other)) ((bytes_eq-Decides name other).1 same)

put_elsewhere : (name : List ℕ) (old new : SignalTable) (signals : NamedSignals) → IsPut name old new signals → (other : List ℕ)
    → bytes_eq name other ≡ false → signals_for new other ≡ signals_for old other
put_elsewhere name old new signals put other apart =
    hash_map_updates_str name old new (Some signals) put other ∙ ap (λ (b : Bool). cond b (Some signals) (signals_for old other)) apart

-- ---- names alone

pub one_put : (names : List (List ℕ)) (old new : SignalTable) (i : ℕ) (name : List ℕ) → get_or names i [] ≡ name → IsPut name old new nothing
    → ((k : ℕ) → k < i → signals_for old (get_or names k []) ≡ Some nothing)
    → (k : ℕ) → k < i + 1 → signals_for new (get_or names k []) ≡ Some nothing
one_put names old new i name there put before k lt =
    elim (cases_Bool (bytes_eq name (get_or names k []))) [
      | inl e ↦ put_there name old new nothing put (get_or names k []) ((bytes_eq-Decides name (get_or names k [])).0 e)
      | inr e ↦ elim (cases_lt k i) [
        | inl less ↦ put_elsewhere name old new nothing put (get_or names k []) e ∙ before k less
        | inr le ↦
            let same : k ≡ i = omega arith in
            put_there name old new nothing put (get_or names k []) (sym there ∙ ap (λ j. get_or names j []) (sym same))
      ]
    ]

-- ---- a symbol more

-- the table has its name
pub note_there : (circuit : Circuit) (s : Symbol) (old new : SignalTable) (literal : ℕ) (was : NamedSignals) → literal_of circuit s ≡ Some literal
    → signals_for old s.name ≡ Some was → IsPut s.name old new (noted was s.kind literal) → (name : List ℕ) (signals : NamedSignals)
    → signals_for old name ≡ Some signals → signals_for new name ≡ Some (noted_at circuit name s signals)
note_there circuit s old new literal was at held put name signals there =
    elim (cases_Bool (bytes_eq s.name name)) [
      | inl e ↦
          let same : s.name ≡ name = (bytes_eq-Decides s.name name).0 e in
          let both : Some was ≡ Some signals = sym held ∙ ap (signals_for old) same ∙ there in
          let one : was ≡ signals = cc in
          put_there s.name old new (noted was s.kind literal) put name same
          ∙ ap (λ (x : NamedSignals). Some (noted x s.kind literal)) one
          ∙ ap (λ (o : Option ℕ). Some (noted_if signals s.kind o)) (sym at)
          ∙ ap (λ (b : Bool). Some (if b then noted_if signals s.kind (literal_of circuit s) else signals)) (sym e)
      | inr e ↦
          put_elsewhere s.name old new (noted was s.kind literal) put name e ∙ there
          ∙ ap (λ (b : Bool). Some (if b then noted_if signals s.kind (literal_of circuit s) else signals)) (sym e)
    ]

-- ---- all symbols

pub kept_none : (circuit : Circuit) (names : List (List ℕ)) (table : SignalTable)
    → ((k : ℕ) → k < length names → signals_for table (get_or names k []) ≡ Some nothing) → AreKept circuit [] names table
kept_none circuit names table put = λ k lt. (nothing, put k lt, no_signals circuit (get_or names k []))

pub kept_more : (circuit : Circuit) (symbols : List memory.Symbol) (i : ℕ) (none : memory.Symbol) (names : List (List ℕ)) (old new : SignalTable)
    → i < length symbols
    → ((name : List ℕ) (signals : NamedSignals) → signals_for old name ≡ Some signals
    → signals_for new name ≡ Some (noted_at circuit name (symbol_in (get_or symbols i none)) signals))
    → AreKept circuit (map symbol_in (take i symbols)) names old → AreKept circuit (map symbol_in (take (i + 1) symbols)) names new
kept_more circuit symbols i none names old new lt note kept =
    let s : Symbol = symbol_in (get_or symbols i none) in
    let more : map symbol_in (take (i + 1) symbols) ≡ map symbol_in (take i symbols) ++ s ∷ [] =
    ap (map symbol_in) (take_more symbols i none lt) ∙ map_push symbol_in (take i symbols) (get_or symbols i none) in
    subst (λ (ss : List Symbol). AreKept circuit ss names new) (sym more) (λ k within.
    let before = kept k within in
    let name : List ℕ = get_or names k [] in (
      noted_at circuit name s before.0,
      note name before.0 before.1,
      signals_more circuit (map symbol_in (take i symbols)) s name before.0 before.2,
    ))
