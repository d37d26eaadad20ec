-- What is shown of the completed automaton holds of the automaton.
use Rattle.std.proofs.Common.{◌≡◌, ℕ, ◌<◌, ◌^◌, Bool, true, false, List, Option, Some, None, refl, sym, subst, true≢false}
use Rattle.std.specs.Option.{MatchOption}
use Rattle.std.proofs.Math.Path.{fun_ext}
use Rattle.pg_hoa_automaton.specs.Automata.{Automaton, IsAutomaton}
use Rattle.pg_hoa_automaton.specs.Formulas as conditions
use Rattle.pg_hoa_automaton.specs.Shapes.{FitsShape}
use Rattle.pg_ltl.specs.Formulas.{Formula, Satisfies}
use Rattle.pg_ltl.specs.NormalForms.{NormalForm, normal}
use Rattle.pg_ltl.proofs.Normality.{normality}
use Rattle.pg_means_look.specs.Automata as complete
use Rattle.pg_means_look.specs.Certificates.{Certificate, IsEmptyBy}
use Rattle.pg_means_look.specs.Lassos.{lasso}
use Rattle.pg_means_look.specs.Mirrors.Places.{IsShown}
use Rattle.pg_means_look.proofs.Ranking.{between}
use Rattle.pg_means.specs.Priorities.{IsCompleted}
use Rattle.pg_means.specs.Mirrors.Simplified.{SayTheSame}
use Rattle.pg_means.specs.Verdicts.{IsWordOver, holds_at, IsSatisfied, AreSame, AreApart}
use Rattle.pg_means.proofs.Alike.{accepted_alike}

module _ (a : Automaton) (condition : conditions.Formula) (propositions : ℕ) (places : List ℕ) (f : Formula) (b : complete.Automaton)
    (is : IsAutomaton a) (fits : FitsShape condition a.sets a.shape) (completed : IsCompleted a propositions b)
    (truths : (letter p : ℕ) → letter < 2 ^ propositions → b.on letter p ≡ holds_at places letter p) where
  same_word : (word : ℕ → ℕ) → IsWordOver propositions word → ◌≡◌ {A = ℕ → ℕ → Bool} (λ t. b.on (word t)) (λ t. holds_at places (word t))
  same_word word inside = fun_ext (λ t. fun_ext (λ p. truths (word t) p (inside t)))

  to_complete : (word : ℕ → ℕ) → IsWordOver propositions word → complete.IsWord b word
  to_complete word inside t = subst (λ n. word t < n) (sym completed.as_many) (inside t)

  from_complete : (word : ℕ → ℕ) → complete.IsWord b word → IsWordOver propositions word
  from_complete word inside t = subst (λ n. word t < n) completed.as_many (inside t)

  satisfied_to : (word : ℕ → ℕ) → IsWordOver propositions word → Satisfies (λ t. b.on (word t)) f 0 → IsSatisfied places f word
  satisfied_to word inside = subst (λ (w : ℕ → ℕ → Bool). Satisfies w f 0) (same_word word inside)

  satisfied_from : (word : ℕ → ℕ) → IsWordOver propositions word → IsSatisfied places f word → Satisfies (λ t. b.on (word t)) f 0
  satisfied_from word inside = subst (λ (w : ℕ → ℕ → Bool). Satisfies w f 0) (sym (same_word word inside))

  pub same_by : (negative positive : NormalForm) (first second : Certificate) → SayTheSame negative (normal false f) → SayTheSame positive (normal true f)
      → IsEmptyBy b negative 0 first → IsEmptyBy b positive 1 second → AreSame a condition propositions places f
  same_by negative positive first second negative_same positive_same one two word inside =
      let seen : ℕ → ℕ → Bool = λ t. b.on (word t) in
      let normal_is = normality seen f 0 in
      let means = between b positive negative first second word (Satisfies seen f 0) completed.bounded one two (to_complete word inside)
      (λ s. positive_same.from seen 0 (normal_is.yes.0 s), λ h. normal_is.yes.1 (positive_same.to seen 0 h))
      (λ n. negative_same.from seen 0 (normal_is.no.0 n), λ h. normal_is.no.1 (negative_same.to seen 0 h)) in
      let alike = accepted_alike a propositions b word condition is completed fits inside in (
        λ accepted. satisfied_to word inside (means.0 (alike.0 accepted)),
        λ satisfied. alike.1 (means.1 (satisfied_from word inside satisfied)),
      )

  module _ (list : List ℕ) (back : ℕ) where
    abbrev Word : ℕ → ℕ
    Word = lasso list back

    pub apart_accepted : (form : NormalForm) → SayTheSame form (normal false f) → IsShown b form 0 list back
        → AreApart a condition propositions places f true list back
    apart_accepted form same shown =
        let inside = from_complete Word shown.within in
        let alike = accepted_alike a propositions b Word condition is completed fits inside in
        let fails = (normality (λ t. b.on (Word t)) f 0).no.1 (same.to (λ t. b.on (Word t)) 0 shown.holds) in
        record {
          comes_round = shown.comes_round;
          within = inside;
          accepts = (λ says. alike.1 (shown.accepted refl), λ accepted. refl);
          satisfies = (λ says. absurd (true≢false says), λ satisfied. absurd (fails (satisfied_from Word inside satisfied)));
        }

    pub apart_rejected : (form : NormalForm) → SayTheSame form (normal true f) → IsShown b form 1 list back
        → AreApart a condition propositions places f false list back
    apart_rejected form same shown =
        let inside = from_complete Word shown.within in
        let alike = accepted_alike a propositions b Word condition is completed fits inside in
        let holds = (normality (λ t. b.on (Word t)) f 0).yes.1 (same.to (λ t. b.on (Word t)) 0 shown.holds) in
        record {
          comes_round = shown.comes_round;
          within = inside;
          accepts = (λ says. absurd (true≢false (sym says)), λ accepted. absurd (shown.rejected refl (alike.0 accepted)));
          satisfies = (λ says. satisfied_to Word inside holds, λ satisfied. refl);
        }

pub first_of : {X : Type 0} (o : Option X) (P : Type 0) (Q : X → Type 0) → ((x : X) → o ≡ Some x → ⊥) → MatchOption o P Q → P
first_of None P Q none h = h
first_of (Some x) P Q none h = absurd (none x refl)

pub second_of : {X : Type 0} (o : Option X) (P : Type 0) (Q : X → Type 0) (x : X) → o ≡ Some x → MatchOption o P Q → Q x
second_of o P Q x e h = subst (λ r. MatchOption r P Q) e h
