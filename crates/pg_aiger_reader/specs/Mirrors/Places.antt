-- What the functions that search for names compute: contracts of private functions cite it.
use Rattle.std.specs.Prelude.{◌≡◌, ◌≢◌, ℕ, ◌<◌, ◌==◌, ◌&&◌, Bool, true, false, List, [], length, map, get_or, nat_lt, if◌then◌else◌}
use Rattle.std.specs.Str.{bytes_eq}
use Rattle.std.proofs.Common.{Bor}
use Rattle.pg_aiger.specs.CircuitText.{Kind, input, latch, output, Symbol}
use Rattle.pg_aiger_reader.specs.Ties.{IsNamed, IsOnlyAt}
use Rattle.pg_aiger_reader.specs.declared.ties.SymbolPlace.{SymbolPlace}
use Rattle.pg_aiger_reader.specs.declared.ties.SymbolPlace.TheVariants.{Missing, At, Twice}

abbrev pub is_kind : Kind → Kind → Bool
is_kind input input = true
is_kind latch latch = true
is_kind output output = true
is_kind _ _ = false

-- adds a place to one that is known, or to none
abbrev pub also : SymbolPlace → ℕ → SymbolPlace
also Missing place = At place
also (At found) place = if found == place then At found else Twice
also Twice place = Twice

abbrev pub noted : SymbolPlace → Kind → ℕ → List ℕ → Symbol → SymbolPlace
noted found kind count name s =
    if is_kind s.kind kind && nat_lt s.position count && bytes_eq s.name name then also found s.position else found

-- the place that symbols give a name
abbrev pub IsPlaceOf : Kind → ℕ → List Symbol → List ℕ → SymbolPlace → Type 0
IsPlaceOf kind count symbols name Missing = (place : ℕ) → ¬ IsNamed kind count symbols name place
IsPlaceOf kind count symbols name (At p) = IsOnlyAt kind count symbols name p
IsPlaceOf kind count symbols name Twice =
    (p : ℕ) × (q : ℕ) × (p ≢ q) × IsNamed kind count symbols name p × IsNamed kind count symbols name q

-- names, apart from where they are in memory
abbrev pub texts : List (Bor (List ℕ)) → List (List ℕ)
texts names = map (λ name. name.now) names

-- the first `so_many` names have places of their own
pub record AreGiven (kind : Kind) (count : ℕ) (symbols : List Symbol) (names : List (List ℕ)) (so_many : ℕ) (places : List ℕ) : Type 0 where
  pub all : length places ≡ so_many
  pub named : (k : ℕ) → k < so_many → IsNamed kind count symbols (get_or names k []) (get_or places k 0)
  pub nowhere_else : (k place : ℕ) → k < so_many → IsNamed kind count symbols (get_or names k []) place → place ≡ get_or places k 0
  pub apart : (i j : ℕ) → i < j → j < so_many → get_or places i 0 ≢ get_or places j 0
