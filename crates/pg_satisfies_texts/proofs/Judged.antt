-- What the calls of a judgement come to.
use Rattle.std.proofs.Common.{◌≡◌, ℕ, List, subst, sym, Result, Ok, Err}
use Rattle.std.specs.Prelude.{IfErr, IsErrAnd, MatchResult}
use Rattle.std.specs.declared.vec.Vec.{Vec}
use Rattle.std.specs.declared.alloc.Global.{Global}
use Rattle.pg_aiger.specs.Circuits.{Circuit}
use Rattle.pg_aiger.specs.CircuitText.{Symbol}
use Rattle.pg_aiger_netlist.specs.Netlists.{IsAcyclic}
use Rattle.pg_aiger_reader.specs.Texts.{IsRead}
use Rattle.pg_ltl.specs.Formulas.{Formula}
use Rattle.pg_ltl.specs.Texts as ltl
use Rattle.pg_satisfies.specs.declared.fault.SatisfiesFault.{SatisfiesFault}
use Rattle.pg_satisfies.specs.declared.fault.SatisfiesFault.TheVariants.{OutOfMemory}
use Rattle.pg_satisfies_texts.specs.Judging.{ArePaired, AreMatched, Refuses}
use Rattle.pg_satisfies_texts.specs.Names.{AreMeant, IsNameFault}
use Rattle.pg_satisfies_texts.specs.declared.fault.NameFault.{NameFault}
use Rattle.pg_satisfies_texts.proofs.Meant.{texts}
use Rattle.pg_satisfies_texts.specs.declared.fault.SatisfyFault.{SatisfyFault}
use Rattle.pg_satisfies_texts.specs.declared.fault.SatisfyFault.TheVariants.{Satisfies}

pair_of : (first second : List ℕ) (names : List (List ℕ)) (f : Formula) (circuit : Circuit) (symbols : List Symbol) → ltl.Spelt first names f
    → IsRead second circuit symbols → ArePaired first second names f circuit symbols
pair_of first second names f circuit symbols spelt read = record { spelt = spelt; read = read }

-- each name means a literal, if none is at fault
pub meant_by : (circuit : Circuit) (symbols : List Symbol) (own names : List (Vec ℕ Global)) (found : Result (Vec ℕ Global) NameFault)
    (literals : Vec ℕ Global) → found ≡ Ok literals → names ≡ own
    → MatchResult found (λ x. AreMeant circuit symbols (texts names) x.items) (IsNameFault circuit symbols (texts names))
    → AreMeant circuit symbols (texts own) literals.items
meant_by circuit symbols own names found literals is same matched =
    subst (λ (ns : List (Vec ℕ Global)). AreMeant circuit symbols (texts ns) literals.items) same
    (subst (λ (r : Result (Vec ℕ Global) NameFault). MatchResult r (λ x. AreMeant circuit symbols (texts names) x.items)
    (IsNameFault circuit symbols (texts names))) is matched)

unfound : (first second : List ℕ) (fault : SatisfiesFault) → AreMatched first second IsAcyclic → Refuses first second (Satisfies fault)
unfound first second OutOfMemory matched = tt
unfound first second _ matched = matched

-- where no verdict is found
pub unfound_by : {X : Type 0} (result : Result X SatisfyFault) (first second : List ℕ) (fault : SatisfiesFault) (names : List (List ℕ)) (f : Formula)
    (circuit : Circuit) (symbols : List Symbol) (literals : List ℕ) → IsErrAnd result (λ e. e ≡ Satisfies fault) → ltl.Spelt first names f
    → IsRead second circuit symbols → AreMeant circuit symbols names literals → IsAcyclic circuit → IfErr result (Refuses first second)
unfound_by (Ok x) first second fault names f circuit symbols literals is spelt read meant acyclic = tt
unfound_by (Err e) first second fault names f circuit symbols literals is spelt read meant acyclic =
    subst (Refuses first second) (sym is) (unfound first second fault
    (names, f, circuit, symbols, pair_of first second names f circuit symbols spelt read, ((literals, meant), acyclic)))
