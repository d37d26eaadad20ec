-- What the calls of a comparison come to.
use Rattle.std.proofs.Common.{◌≡◌, ◌∙◌, ℕ, ◌<◌, ◌≤◌, true, List, length, map, arith, refl, sym, subst, Result, Ok, Err}
use Rattle.std.specs.Prelude.{IfErr, IsErrAnd}
use Rattle.std.specs.List.{All}
use Rattle.std.specs.declared.vec.Vec.{Vec}
use Rattle.std.specs.declared.alloc.Global.{Global}
use Rattle.std.proofs.lemmas.Bool.Decides.{nat_tests}
use Rattle.std.proofs.lemmas.List.{length-map}
use Rattle.pg_hoa_automaton.specs.Automata.{Automaton}
use Rattle.pg_hoa_automaton.specs.Formulas as conditions
use Rattle.pg_hoa_automaton.specs.Shapes.{FitsShape}
use Rattle.pg_hoa.specs.AutomatonText as hoa
use Rattle.pg_ltl.specs.Formulas.{Formula}
use Rattle.pg_ltl.specs.Texts as ltl
use Rattle.pg_means.specs.Verdicts.{Says}
use Rattle.pg_means.specs.declared.verdict.FormulaVerdict.{FormulaVerdict}
use Rattle.pg_means.specs.declared.verdict.FormulaVerdict.TheVariants.{Same, Differs}
use Rattle.pg_means_texts.specs.Names.{all_names, places_of}
use Rattle.pg_means.specs.declared.fault.MeansFault.{MeansFault}
use Rattle.pg_means.specs.declared.fault.MeansFault.TheVariants.{OutOfMemory}
use Rattle.pg_means_texts.specs.Comparing.{ArePaired, IsCompared, HaveNames, Refuses}
use Rattle.pg_means_texts.specs.declared.fault.CompareFault.{CompareFault}
use Rattle.pg_means_texts.specs.declared.fault.CompareFault.TheVariants.{Means}
use Rattle.pg_means_texts.specs.Printing.{comes_round}
use Rattle.pg_means_texts.proofs.Named.{places_below}

pub round_of : (a : Automaton) (condition : conditions.Formula) (n : ℕ) (places : List ℕ) (f : Formula) (verdict : FormulaVerdict)
    → Says a condition n places f verdict → comes_round verdict ≡ true
round_of a condition n places f Same says = refl
round_of a condition n places f (Differs accepted list back) says =
    let lt : back < length list.items = says.comes_round in grind (arith, nat_tests, lt)

abbrev texts : List (Vec ℕ Global) → List (List ℕ)
texts names = map (λ v. v.items) names

pub places_within : (propositions : List (List ℕ)) (own names : List (Vec ℕ Global)) (n : ℕ) (places : List ℕ)
    → texts names ≡ all_names propositions (texts own) → n ≡ length names → places ≡ places_of (texts names) (texts own) → All (λ p. p < n) places
places_within propositions own names n places all count are =
    let size : length (all_names propositions (texts own)) ≡ n =
    subst (λ (ns : List (List ℕ)). length ns ≡ n) all (length-map names (λ (v : Vec ℕ Global). v.items) ∙ sym count) in
    let same : places_of (all_names propositions (texts own)) (texts own) ≡ places =
    subst (λ (ns : List (List ℕ)). places_of ns (texts own) ≡ places) all (sym are) in
    subst (λ (m : ℕ). All (λ p. p < m) places) size
    (subst (λ (ps : List ℕ). All (λ p. p < length (all_names propositions (texts own))) ps) same (places_below (texts own) propositions))

pub compared_by : (first second : List ℕ) (a : Automaton) (own names : List (Vec ℕ Global)) (f : Formula) (n : ℕ) (places : List ℕ)
    (verdict : FormulaVerdict) → hoa.Spelt first a → ltl.Spelt second (texts own) f → texts names ≡ all_names a.propositions (texts own)
    → n ≡ length names → n ≤ 16 → places ≡ places_of (texts names) (texts own)
    → ((condition : conditions.Formula) → FitsShape condition a.sets a.shape → Says a condition n places f verdict)
    → IsCompared first second (texts names) verdict
compared_by first second a own names f n places verdict spelt read all count few are says =
    let size : n ≡ length (texts names) = count ∙ sym (length-map names (λ (v : Vec ℕ Global). v.items)) in
    record {
      automaton = a;
      own = texts own;
      formula = f;
      paired = record { spelt = spelt; read = read };
      all = all;
      few = omega (arith, size, few);
      says = subst (λ (ps : List ℕ). Says a spelt.says.condition (length (texts names)) ps f verdict) are
          (subst (λ (m : ℕ). Says a spelt.says.condition m places f verdict) size (says spelt.says.condition spelt.says.shape.fits));
    }

unfound : (first second : List ℕ) (fault : MeansFault) → HaveNames first second (λ names. length names ≤ 16) → Refuses first second (Means fault)
unfound first second OutOfMemory have = tt
unfound first second _ have = have

-- where no verdict is found
pub unfound_by : {X : Type 0} (result : Result X CompareFault) (first second : List ℕ) (fault : MeansFault) (a : Automaton)
    (own names : List (Vec ℕ Global)) (f : Formula) → IsErrAnd result (λ e. e ≡ Means fault) → hoa.Spelt first a
    → ltl.Spelt second (texts own) f → texts names ≡ all_names a.propositions (texts own) → length names ≤ 16
    → IfErr result (Refuses first second)
unfound_by (Ok x) first second fault a own names f is spelt read all few = tt
unfound_by (Err e) first second fault a own names f is spelt read all few =
    let size = length-map names (λ (v : Vec ℕ Global). v.items) in
    let paired : ArePaired first second a (texts own) f = record { spelt = spelt; read = read } in
    let short : length (all_names a.propositions (texts own)) ≤ 16 =
    subst (λ (ns : List (List ℕ)). length ns ≤ 16) all (omega (arith, size, few)) in
    subst (Refuses first second) (sym is) (unfound first second fault (a, texts own, f, paired, short))
