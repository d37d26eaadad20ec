-- What the outputs of `means` and `automaton` say.
use Rattle.pg_cli_command.proofs.Common.{◌≡◌, ◌∙◌, ◌⊎◌, inl, inr, ℕ, zero, suc, ◌%◌, ◌^◌, ◌<◌, List, [], length, get_or, Option, Some, None, ap, sym, subst, refl, arith}
use Rattle.pg_cli_command.proofs.Common.{Automaton, Step, Formula, FitsShape, OneReading, IsAccepted, state_after, step_from, target_of, Contains}
use Rattle.std.specs.Prelude.{Bool, true, false, IsTrue, IsSome, ◌↔◌}
use Rattle.std.proofs.Math.Path.{fun_ext}
use Rattle.std.proofs.Common.{true≢false}
use Rattle.pg_hoa_automaton.specs.Formulas.{holds}
use Rattle.pg_hoa_automaton.specs.declared.shape.Shape.{Shape}
use Rattle.pg_hoa_automaton.specs.Laws.{ShapeTells}
use Rattle.pg_hoa_automaton.specs.Words.{step_at, sets_of, SetRecurs, HoldsRecurring}
use Rattle.pg_hoa.specs.AutomatonText.{Spelt}
use Rattle.pg_hoa.specs.Outputs.{HasOutputs, with_outputs}
use Rattle.pg_ltl.specs.Formulas as ltl
use Rattle.pg_ltl.specs.Laws as formulas
use Rattle.pg_means.specs.Verdicts.{IsWordOver, own_word, IsSatisfied, AreSame, AreApart, Says}
use Rattle.pg_means.specs.declared.verdict.FormulaVerdict.{FormulaVerdict}
use Rattle.pg_means.specs.declared.verdict.FormulaVerdict.TheVariants.{Same, Differs}
use Rattle.pg_means_texts.specs.Names.{all_names, places_of}
use Rattle.pg_means_texts.specs.Comparing.{IsCompared}
use Rattle.pg_means_texts.specs.Printing.{verdict_text}
use Rattle.pg_cli_command.specs.Small.{SmallAccepted}
use Rattle.pg_cli_command.specs.Controllers.{NoController, controlled_word}
use Rattle.pg_cli_command.specs.FormulaLaws.{same, AreTheSame, ShowsApart, Tells, MeansDecides, IsWordOf}
use Rattle.pg_cli_command.specs.FormulaLaws.{ControllerSatisfies, NoneSatisfies}

-- ---- `means`

-- not both are so
not_both : (a : Automaton) (condition : Formula) (n : ℕ) (places : List ℕ) (f : ltl.Formula) (accepted : Bool) (list : List ℕ) (back : ℕ)
    → AreSame a condition n places f → AreApart a condition n places f accepted list back → ⊥
not_both a condition n places f true list back are apart =
    true≢false (apart.satisfies.1 ((are _ apart.within).0 (apart.accepts.0 refl)))
not_both a condition n places f false list back are apart =
    true≢false (sym (apart.accepts.1 ((are _ apart.within).1 (apart.satisfies.0 refl))))

module _ (a : Automaton) (condition : Formula) (own : List (List ℕ)) (f : ltl.Formula) (names : List (List ℕ))
    (all : names ≡ all_names a.propositions own) (output : List ℕ) where
  is_same : (verdict : FormulaVerdict) → Says a condition (length names) (places_of names own) f verdict → output ≡ verdict_text names verdict
      → output ≡ same → AreTheSame a condition own f
  is_same Same says e s = subst (λ (ns : List (List ℕ)). AreSame a condition (length ns) (places_of ns own) f) all says
  is_same (Differs accepted letters back) says e s =
      let first : ◌≡◌ {A = ℕ} 68 83 = ap (λ (l : List ℕ). get_or l 0 0) (sym e ∙ s) in absurd (omega arith)

  then_same : (verdict : FormulaVerdict) → Says a condition (length names) (places_of names own) f verdict → output ≡ verdict_text names verdict
      → AreTheSame a condition own f → output ≡ same
  then_same Same says e are = e
  then_same (Differs accepted letters back) says e are =
      absurd (not_both a condition (length names) (places_of names own) f accepted letters.items back
      (subst (λ (ns : List (List ℕ)). AreSame a condition (length ns) (places_of ns own) f) (sym all) are) says)

  shows : (verdict : FormulaVerdict) → Says a condition (length names) (places_of names own) f verdict → output ≡ verdict_text names verdict
      → (output ≡ same) ⊎ ShowsApart a condition own f output
  shows Same says e = inl e
  shows (Differs accepted letters back) says e = inr (record {
    names = names;
    all = all;
    accepted = accepted;
    letters = letters.items;
    back = back;
    printed = e;
    apart = says;
  })

module _ (one_automaton : OneReading) (one_formula : formulas.OneReading) where
  tells : (first second output : List ℕ) (names : List (List ℕ)) (verdict : FormulaVerdict) → IsCompared first second names verdict
      → output ≡ verdict_text names verdict → Tells first second output
  tells first second output names verdict c printed =
      let condition = c.paired.spelt.says.condition in
      record {
        automaton = c.automaton;
        own = c.own;
        formula = c.formula;
        paired = c.paired;
        one_pair = λ a others f p.
            let two = one_formula second others c.own f c.formula p.read c.paired.read in
            ((one_automaton first).automaton a c.automaton p.spelt c.paired.spelt, two.0, two.1);
        is_same = (
          is_same c.automaton condition c.own c.formula names c.all output verdict c.says printed,
          then_same c.automaton condition c.own c.formula names c.all output verdict c.says printed,
        );
        shows = shows c.automaton condition c.own c.formula names c.all output verdict c.says printed;
      }

  pub means_decides : MeansDecides
  means_decides = record {
    joined = λ input output m. (m.first, m.second, m.parted, tells m.first m.second output m.names m.verdict m.compared m.printed);
    apart = λ first second output m.
        subst (λ (t : List ℕ). Tells t second output) m.parted.0
        (subst (λ (t : List ℕ). Tells m.first t output) m.parted.1 (tells m.first m.second output m.names m.verdict m.compared m.printed));
  }

-- ---- automata that differ in who sets what accept the same words, by each condition of their shape

same_truth : ShapeTells → (sets : ℕ) (shape : Shape) (c d : Formula) → FitsShape c sets shape → FitsShape d sets shape → (on : ℕ → Bool)
    → IsTrue (holds c on) → IsTrue (holds d on)
same_truth tells sets shape c d of_c of_d on h = (tells d sets shape on of_d).1 ((tells c sets shape on of_c).0 h)

module _ (a b : Automaton) (word : ℕ → ℕ) (start : a.start ≡ b.start) (steps : a.steps ≡ b.steps) (sets : a.sets ≡ b.sets) where
  same_step : (o : Option ℕ) (l : ℕ) → step_from a o l ≡ step_from b o l
  same_step None l = refl
  same_step (Some q) l = ap (λ (s : List (List (Option Step))). get_or (get_or s q []) l None) steps

  same_state : (t : ℕ) → state_after a word t ≡ state_after b word t
  same_state zero = ap (λ (q : ℕ). Some q) start
  same_state (suc t) =
      ap (λ (o : Option ℕ). target_of (step_from a o (word t))) (same_state t) ∙ ap target_of (same_step (state_after b word t) (word t))

  same_at : (t : ℕ) → step_at a word t ≡ step_at b word t
  same_at t = ap (λ (o : Option ℕ). step_from a o (word t)) (same_state t) ∙ same_step (state_after b word t) (word t)

  recurs_there : (s : ℕ) → SetRecurs a word s → SetRecurs b word s
  recurs_there s recurs (t, absent) =
      recurs (t, λ u le has. absent u le (subst (λ (o : Option Step). Contains (sets_of o) s) (same_at u) has))

  recurs_here : (s : ℕ) → SetRecurs b word s → SetRecurs a word s
  recurs_here s recurs (t, absent) =
      recurs (t, λ u le has. absent u le (subst (λ (o : Option Step). Contains (sets_of o) s) (sym (same_at u)) has))

  accepted_there : (c d : Formula) → ((on : ℕ → Bool) → IsTrue (holds c on) → IsTrue (holds d on)) → IsAccepted a c word → IsAccepted b d word
  accepted_there c d same accepted = record {
    endless = λ t. subst (λ (o : Option ℕ). IsSome o) (same_state t) (accepted.endless t);
    satisfied = λ on just. same on (accepted.satisfied on (λ s lt.
        let j = just s (subst (λ n. s < n) sets lt) in ((λ yes. recurs_here s (j.0 yes)), λ recurs. j.1 (recurs_there s recurs))));
  }

-- ---- `automaton`, and then `synth`

module _ (one_automaton : OneReading) (shape_tells : ShapeTells) (formula given text : List ℕ) (outs names : List (List ℕ))
    (c : IsCompared text formula names Same) (h : HasOutputs text outs given) (b : Automaton) (spelt : Spelt given b) where
  abbrev a : Automaton
  a = c.automaton

  first_is : h.automaton ≡ a
  first_is = (one_automaton text).automaton h.automaton a h.spelt c.paired.spelt

  second_is : b ≡ with_outputs outs a
  second_is =
      (one_automaton given).automaton b (with_outputs outs h.automaton) spelt h.given
      ∙ ap (λ (x : Automaton). with_outputs outs x) first_is

  propositions_are : b.propositions ≡ a.propositions
  propositions_are = ap (λ (x : Automaton). x.propositions) second_is

  start_is : b.start ≡ a.start
  start_is = ap (λ (x : Automaton). x.start) second_is

  steps_are : b.steps ≡ a.steps
  steps_are = ap (λ (x : Automaton). x.steps) second_is

  sets_are : b.sets ≡ a.sets
  sets_are = ap (λ (x : Automaton). x.sets) second_is

  names_are : all_names b.propositions c.own ≡ names
  names_are = ap (λ (ps : List (List ℕ)). all_names ps c.own) propositions_are ∙ sym c.all

  fits : FitsShape spelt.says.condition a.sets a.shape
  fits = subst (λ (x : Automaton). FitsShape spelt.says.condition x.sets x.shape) second_is spelt.says.shape.fits

  -- the word is accepted exactly if it satisfies the formula
  pub meets : (word whole : ℕ → ℕ) → IsWordOf b c.own word whole
      → IsAccepted b spelt.says.condition word ↔ IsSatisfied (places_of (all_names b.propositions c.own) c.own) c.formula whole
  meets word whole w =
      let one = c.paired.spelt.says.condition in
      let other = spelt.says.condition in
      let own_fits = c.paired.spelt.says.shape.fits in
      let words : ◌≡◌ {A = ℕ → ℕ} (own_word a whole) word =
      fun_ext (λ t. ap (λ (ps : List (List ℕ)). whole t % 2 ^ length ps) (sym propositions_are) ∙ w.is t) in
      let says = c.says whole (subst (λ (ns : List (List ℕ)). IsWordOver (length ns) whole) names_are w.over) in (
        (λ accepted. subst (λ (ns : List (List ℕ)). IsSatisfied (places_of ns c.own) c.formula whole) (sym names_are)
            (says.0 (subst (λ (v : ℕ → ℕ). IsAccepted a one v) (sym words)
            (accepted_there b a word start_is steps_are sets_are other one (same_truth shape_tells a.sets a.shape other one fits own_fits) accepted)))),
        (λ satisfied. accepted_there a b word (sym start_is) (sym steps_are) (sym sets_are) one other
            (same_truth shape_tells a.sets a.shape one other own_fits fits)
            (subst (λ (v : ℕ → ℕ). IsAccepted a one v) words
            (says.1 (subst (λ (ns : List (List ℕ)). IsSatisfied (places_of ns c.own) c.formula whole) names_are satisfied)))),
      )

pub controller_satisfies : OneReading → ShapeTells → (letters : ℕ → ℕ) → SmallAccepted letters → ControllerSatisfies letters
controller_satisfies one shape_tells letters accepted formula given output is answer =
    let r = accepted given output answer in
    let c = is.2.1 in (
      r.0,
      r.1,
      record {
        run = r.2;
        own = c.own;
        f = c.formula;
        read = c.paired.read;
        satisfies = λ inputs whole w.
            (meets one shape_tells formula given is.0 is.1 is.2.0 c is.3 r.2.automaton r.2.spelt (r.2.accepts inputs).word whole w).0
            (r.2.accepts inputs).accepted;
      },
    )

pub none_satisfies : OneReading → ShapeTells → NoController → NoneSatisfies
none_satisfies one shape_tells none formula given output is answer controller =
    let n = none given output answer controller in
    let c = is.2.1 in (
      c.own,
      c.formula,
      c.paired.read,
      n.0,
      n.1,
      λ whole w satisfied. n.2
          ((meets one shape_tells formula given is.0 is.1 is.2.0 c is.3 answer.odd.automaton answer.odd.spelt
          (controlled_word answer.odd.automaton.controllable controller n.0) whole w).1 satisfied),
    )
