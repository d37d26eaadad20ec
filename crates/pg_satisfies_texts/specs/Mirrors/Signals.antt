-- What the functions that look names up compute: contracts of private functions cite it.
use Rattle.std.specs.Prelude.{◌≡◌, ℕ, ◌<◌, ◌==◌, Bool, true, false, Option, Some, None, List, [], length, slice_index_or, if◌then◌else◌}
use Rattle.std.specs.Str.{bytes_eq}
use Rattle.std.specs.HashMap as hash
use Rattle.std.specs.HashMap.{HashMap}
use Rattle.std.specs.declared.hash.FoldHasher.{FoldHasher}
use Rattle.std.specs.declared.hash.BuildHasherDefault.{BuildHasherDefault}
use Rattle.std.proofs.Common.{Bor}
use Rattle.pg_aiger.specs.Circuits.{Circuit}
use Rattle.pg_aiger.specs.CircuitText.{Kind, input, latch, output, Symbol}
use Rattle.pg_satisfies_texts.specs.Names.{literal_of, IsNowhere, IsOnly, IsTwice, IsMissing, IsAmbiguous, Means}
use Rattle.pg_satisfies_texts.specs.declared.signals.NamedLiteral.{NamedLiteral}
use Rattle.pg_satisfies_texts.specs.declared.signals.NamedLiteral.TheVariants.{Nowhere, Only, Twice}
use Rattle.pg_satisfies_texts.specs.declared.signals.NamedSignals.{NamedSignals}

-- adds a literal to one that is known, or to none
abbrev pub also : NamedLiteral → ℕ → NamedLiteral
also Nowhere literal = Only literal
also (Only one) literal = if one == literal then Only one else Twice
also Twice literal = Twice

abbrev pub signals_of : NamedLiteral → NamedLiteral → NamedSignals
signals_of ports latches = record { ports = ports; latches = latches }

abbrev pub nothing : NamedSignals
nothing = signals_of Nowhere Nowhere

-- one more symbol of this kind gives the name to a literal
abbrev pub noted : NamedSignals → Kind → ℕ → NamedSignals
noted signals input literal = signals_of (also signals.ports literal) signals.latches
noted signals latch literal = signals_of signals.ports (also signals.latches literal)
noted signals output literal = signals_of (also signals.ports literal) signals.latches

-- .. if the circuit has the literal
abbrev pub noted_if : NamedSignals → Kind → Option ℕ → NamedSignals
noted_if signals kind None = signals
noted_if signals kind (Some literal) = noted signals kind literal

-- .. if the symbol gives this name
abbrev pub noted_at : Circuit → List ℕ → Symbol → NamedSignals → NamedSignals
noted_at circuit name s signals = if bytes_eq s.name name then noted_if signals s.kind (literal_of circuit s) else signals

-- ports come before latches
abbrev pub meaning : NamedSignals → NamedLiteral
meaning signals = port_or signals.ports signals.latches
  where
    port_or : NamedLiteral → NamedLiteral → NamedLiteral
    port_or Nowhere latches = latches
    port_or ports latches = ports

-- ---- what they mean

-- the literal to which symbols give the name
abbrev pub IsLiteral : Circuit → List Symbol → Bool → List ℕ → NamedLiteral → Type 0
IsLiteral circuit symbols ports name Nowhere = IsNowhere circuit symbols ports name
IsLiteral circuit symbols ports name (Only literal) = IsOnly circuit symbols ports name literal
IsLiteral circuit symbols ports name Twice = IsTwice circuit symbols ports name

pub record AreSignals (circuit : Circuit) (symbols : List Symbol) (name : List ℕ) (signals : NamedSignals) : Type 0 where
  pub ports : IsLiteral circuit symbols true name signals.ports
  pub latches : IsLiteral circuit symbols false name signals.latches

abbrev pub IsMeaning : Circuit → List Symbol → List ℕ → NamedLiteral → Type 0
IsMeaning circuit symbols name Nowhere = IsMissing circuit symbols name
IsMeaning circuit symbols name (Only literal) = Means circuit symbols name literal
IsMeaning circuit symbols name Twice = IsAmbiguous circuit symbols name

-- ---- tables

abbrev pub SignalTable : Type 0
SignalTable = HashMap (Bor (List ℕ)) NamedSignals (BuildHasherDefault FoldHasher)

abbrev pub signals_for : SignalTable → List ℕ → Option NamedSignals
signals_for table name = hash.get_by (λ k. bytes_eq name k.now) table

-- the table has the right signals of each name
abbrev pub AreKept : Circuit → List Symbol → List (List ℕ) → SignalTable → Type 0
AreKept circuit symbols names table =
    (k : ℕ) → k < length names
    → (signals : NamedSignals) × (signals_for table (slice_index_or names k []) ≡ Some signals)
    × AreSignals circuit symbols (slice_index_or names k []) signals
