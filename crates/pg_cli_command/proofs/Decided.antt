-- What the outputs of `verify` say.
use Rattle.pg_cli_command.proofs.Common.{◌≡◌, ◌∙◌, ◌⊎◌, ℕ, List, get_or, ap, sym, subst, refl, inl, inr, arith, Automaton, Formula, Circuit, Spelt, OneReading}
use Rattle.pg_cli_command.proofs.Common.{Parting, IsParted}
use Rattle.std.specs.Prelude.{Bool}
use Rattle.pg_aiger.specs.CircuitText.{Symbol}
use Rattle.pg_aiger_reader.specs.Laws as circuits
use Rattle.pg_aiger_reader.specs.Laws.{OneTie}
use Rattle.pg_aiger_reader.specs.Texts.{IsRead}
use Rattle.pg_aiger_reader.specs.Ties.{IsTied}
use Rattle.pg_verify.specs.Laws.{VerdictsDecide}
use Rattle.pg_verify.specs.Verdicts.{IsAcceptance, IsCorrect, Says}
use Rattle.pg_verify.specs.declared.verdict.CircuitVerdict.{CircuitVerdict}
use Rattle.pg_verify.specs.declared.verdict.CircuitVerdict.TheVariants.{Accepted, Stuck, Rejected}
use Rattle.pg_cli_command.specs.Parts.{AreApart}
use Rattle.pg_cli_command.specs.Verifying.{ArePaired, IsVerified, verdict_text}
use Rattle.pg_cli_command.specs.Verdicts.{accepted, ShowsStuck, ShowsRejected, Decides, VerifyDecides}

-- the first letter tells
only_accepted : (given tied : List ℕ) (verdict : CircuitVerdict) → verdict_text given tied verdict ≡ accepted → IsAcceptance verdict
only_accepted given tied Accepted e = tt
only_accepted given tied (Stuck letters) e =
    let first : ◌≡◌ {A = ℕ} 83 65 = ap (λ (l : List ℕ). get_or l 0 0) e in absurd (omega arith)
only_accepted given tied (Rejected stem loop) e =
    let first : ◌≡◌ {A = ℕ} 82 65 = ap (λ (l : List ℕ). get_or l 0 0) e in absurd (omega arith)

text_of_accepted : (given tied : List ℕ) (verdict : CircuitVerdict) → IsAcceptance verdict → verdict_text given tied verdict ≡ accepted
text_of_accepted given tied Accepted is = refl
text_of_accepted given tied (Stuck letters) is = absurd is
text_of_accepted given tied (Rejected stem loop) is = absurd is

shows : (a : Automaton) (condition : Formula) (given tied : Circuit) (verdict : CircuitVerdict) (output : List ℕ) → Says a condition tied verdict
    → output ≡ verdict_text given.inputs tied.inputs verdict
    → (output ≡ accepted) ⊎ (ShowsStuck a given tied output ⊎ ShowsRejected a condition given tied output)
shows a condition given tied Accepted output says e = inl e
shows a condition given tied (Stuck letters) output says e = inr (inl (record { letters = letters.items; printed = e; stuck = says }))
shows a condition given tied (Rejected stem loop) output says e =
    inr (inr (record { stem = stem.items; loop = loop.items; printed = e; rejected = says }))

module _ (one_automaton : OneReading) (one_circuit : circuits.OneReading) (one_tie : OneTie) (decide : VerdictsDecide) where
  one_pair : (first second : List ℕ) (by_place : Bool) (a b : Automaton) (given other tied another : Circuit)
      → ArePaired (AreApart first second) by_place a given tied → ArePaired (AreApart first second) by_place b other another
      → (b ≡ a) × (other ≡ given) × (another ≡ tied)
  one_pair first second by_place a b given other tied another p q =
      let one : b ≡ a = (one_automaton first).automaton b a (subst (λ (t : List ℕ). Spelt t b) q.parted.0 q.spelt)
      (subst (λ (t : List ℕ). Spelt t a) p.parted.0 p.spelt) in
      let two = one_circuit second other given q.symbols p.symbols (subst (λ (t : List ℕ). IsRead t other q.symbols) q.parted.1 q.read)
      (subst (λ (t : List ℕ). IsRead t given p.symbols) p.parted.1 p.read) in
      let names : IsTied by_place b other p.symbols another = subst (λ (s : List Symbol). IsTied by_place b other s another) two.1 q.tied_by in
      let same : IsTied by_place b given p.symbols another = subst (λ (c : Circuit). IsTied by_place b c p.symbols another) two.0 names in
      let tie : IsTied by_place a given p.symbols another = subst (λ (x : Automaton). IsTied by_place x given p.symbols another) one same in
      (one, two.0, one_tie by_place a given p.symbols another tied tie p.tied_by)

  decides : (Parts : Parting) (by_place : Bool) (output : List ℕ) (v : IsVerified Parts by_place output)
      → Decides by_place v.paired.first v.paired.second output
  decides Parts by_place output v =
      let p = v.paired in
      let here : ArePaired (AreApart p.first p.second) by_place v.automaton v.given v.tied = record {
        first = p.first;
        second = p.second;
        parted = (refl, refl);
        spelt = p.spelt;
        symbols = p.symbols;
        read = p.read;
        tied_by = p.tied_by;
      } in
      let both = decide v.automaton p.spelt.says.condition v.tied v.verdict v.acyclic v.says in
      record {
        automaton = v.automaton;
        given = v.given;
        tied = v.tied;
        paired = here;
        one_pair = λ a circuit other q. one_pair p.first p.second by_place v.automaton a v.given circuit v.tied other here q;
        accepts = (
          (λ e. both.0 (only_accepted v.given.inputs v.tied.inputs v.verdict (sym v.printed ∙ e))),
          (λ correct. v.printed ∙ text_of_accepted v.given.inputs v.tied.inputs v.verdict (both.1 correct)),
        );
        shows = shows v.automaton p.spelt.says.condition v.given v.tied v.verdict output v.says v.printed;
      }

  pub verify_decides : VerifyDecides
  verify_decides = record {
    joined = λ by_place input output v. (v.paired.first, v.paired.second, v.paired.parted, decides (IsParted input) by_place output v);
    apart = λ by_place first second output v.
        subst (λ (t : List ℕ). Decides by_place t second output) v.paired.parted.0
        (subst (λ (t : List ℕ). Decides by_place v.paired.first t output) v.paired.parted.1
        (decides (AreApart first second) by_place output v));
  }
