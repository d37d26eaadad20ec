-- The laws, as statements.
use Rattle.std.specs.Prelude.{◌≡◌, ℕ, Bool, List}
use Rattle.pg_hoa_automaton.specs.Automata.{Automaton}
use Rattle.pg_aiger.specs.Circuits.{Circuit}
use Rattle.pg_aiger.specs.CircuitText.{Symbol}
use Rattle.pg_aiger_reader.specs.declared.fault.ReaderFault.{ReaderFault}
use Rattle.pg_aiger_reader.specs.declared.fault.TieFault.{TieFault}
use Rattle.pg_aiger_reader.specs.declared.fault.TieFault.TheVariants.{OutOfMemory}
use Rattle.pg_aiger_reader.specs.Texts.{IsRead}
use Rattle.pg_aiger_reader.specs.Faults.{IsNamedFault}
use Rattle.pg_aiger_reader.specs.Ties.{IsTied, IsTieFault}

-- a text spells at most one circuit, with one list of symbols
abbrev pub OneReading : Type 0
OneReading =
    (bytes : List ℕ) (first second : Circuit) (names others : List Symbol) → IsRead bytes first names → IsRead bytes second others
    → (first ≡ second) × (names ≡ others)

-- an automaton ties a circuit in at most one way
abbrev pub OneTie : Type 0
OneTie =
    (by_place : Bool) (a : Automaton) (circuit : Circuit) (symbols : List Symbol) (first second : Circuit)
    → IsTied by_place a circuit symbols first → IsTied by_place a circuit symbols second → first ≡ second

-- a text that is read has no named fault, and any other text has at most one
pub record IsRefusedOnce (bytes : List ℕ) : Type 0 where
  pub one : (fault other : ReaderFault) → IsNamedFault bytes fault → IsNamedFault bytes other → fault ≡ other
  pub not_read : (circuit : Circuit) (symbols : List Symbol) (fault : ReaderFault) → IsRead bytes circuit symbols → ¬ IsNamedFault bytes fault

abbrev pub OneRefusal : Type 0
OneRefusal = (bytes : List ℕ) → IsRefusedOnce bytes

-- a circuit that can be tied is refused only if memory runs out
abbrev pub TiedOrRefused : Type 0
TiedOrRefused =
    (by_place : Bool) (a : Automaton) (circuit : Circuit) (symbols : List Symbol) (tied : Circuit) (fault : TieFault)
    → IsTied by_place a circuit symbols tied → IsTieFault by_place a circuit symbols fault → fault ≡ OutOfMemory
