-- Promises and their tries.
use Rattle.std.proofs.Common.{◌≡◌, ℕ, Bool, ◌+◌, ◌<◌, ◌≤◌, List, [], ◌∷◌, ◌++◌, length, get_or, take, arith, sym, ap, subst, ◌∙◌}
use Rattle.std.specs.Prelude.{All, Contains}
use Rattle.std.specs.declared.vec.Vec.{Vec}
use Rattle.std.specs.declared.alloc.Global.{Global}
use Rattle.std.proofs.lemmas.List.{get_or_push, length_push, take_all}
use Rattle.std.proofs.lemmas.List.Elements.{All-more, All-nil, All-push, All-get_or, All-contains, All-contains_itself}
use Rattle.pg_ltl.specs.declared.normal.NormalNode.{NormalNode}
use Rattle.pg_ltl.specs.NormalForms.{NormalForm, Holds}
use Rattle.pg_ltl.specs.Mirrors.Nodes.{normals_of, AreNormalNodes}
use Rattle.pg_ltl.specs.Mirrors.Pairs.{Extends}
use Rattle.pg_ltl.proofs.Nodes.{extends_twice, length-extends}
use Rattle.pg_means_look.specs.Mirrors.Choices.{part, AreForms}
use Rattle.pg_means_look.specs.Mirrors.Tables.{row_at}
use Rattle.pg_means_look.proofs.Forms.{are_forms}
use Rattle.pg_means_look.proofs.Steps.{rows_push}
use Rattle.pg_satisfies_promises.specs.Mirrors.Promises.{AllHold, AreRefuted, Splits, IsStronger, IsImplied}
use Rattle.pg_satisfies_promises.specs.Mirrors.Growing.{AreWithin, AddsConjunction, Gives, AddsTries, AddsGiven}
use Rattle.pg_satisfies_promises.specs.Mirrors.Alternatives.{NoneHolds, AreRowsWithin, AddsAllAlternatives}
use Rattle.pg_satisfies_promises.proofs.NodeLists.{All-left, All-last, extends_itself, forms_before, within_kept, fewer_hold}
use Rattle.pg_satisfies_promises.proofs.Rows.{rows_kept}

-- ---- tries

pub tries_same : (nodes : List NormalNode) (few tries : List ℕ) → AreNormalNodes nodes → AreWithin nodes tries
    → AddsTries nodes nodes few tries tries
tries_same nodes few tries ordered within = record {
  grown = extends_itself nodes;
  ordered = ordered;
  within = within;
  holds = λ forms are word t few_hold tries_hold. tries_hold;
}

pub tries_more : (old new : List NormalNode) (few tries longer : List ℕ) (place : ℕ) → AddsConjunction old new few place → AreWithin old tries
    → longer ≡ tries ++ place ∷ [] → AddsTries old new few tries longer
tries_more old new few tries longer place adds within e = record {
  grown = adds.grown;
  ordered = adds.ordered;
  within =
      subst (AreWithin new) (sym e)
      (All-push (λ p. p < length new) tries place (within_kept old new adds.grown tries within) adds.below);
  holds = λ forms are word t few_hold tries_hold.
      subst (AllHold word forms t) (sym e)
      (All-push (λ p. Holds word (part forms p) t) tries place tries_hold (adds.holds forms are word t few_hold));
}

-- two tries, and the whole as the last one
pub tries_given : (old mid new : List NormalNode) (whole : ℕ) (conjuncts near linked none once twice tries : List ℕ) → Gives old whole conjuncts
    → All (Contains conjuncts) near → All (Contains conjuncts) linked → none ≡ [] → AddsTries old mid near none once
    → AddsTries mid new linked once twice → whole < length old → tries ≡ twice ++ whole ∷ [] → AddsGiven old new whole tries
tries_given old mid new whole conjuncts near linked none once twice tries gives near_among linked_among f first second lt e =
    let grown : Extends old new = extends_twice old mid new first.grown second.grown in
    record {
      grown = grown;
      ordered = second.ordered;
      gives = record {
        within =
            subst (AreWithin new) (sym e)
            (All-push (λ p. p < length new) twice whole second.within (let l = length-extends old new grown in omega (arith, lt, l)));
        holds = λ forms are word t h.
            let P : ℕ → Type 0 = λ p. Holds word (part forms p) t in
            let all = gives.holds forms (forms_before old new grown forms are) word t h in
            let some = first.holds forms (forms_before mid new second.grown forms are) word t
            (fewer_hold conjuncts near near_among word forms t all) (subst (AllHold word forms t) (sym f) (All-nil P)) in
            let more = second.holds forms are word t (fewer_hold conjuncts linked linked_among word forms t all) some in
            subst (AllHold word forms t) (sym e) (All-push P twice whole more h);
      };
      others = twice;
      last = e;
    }

-- ---- promises

-- there is a try, and the last one is among the alternatives
pub record EndsAmong (alternatives tries : List ℕ) : Type 0 where
  pub some : 0 < length tries
  pub last : (j : ℕ) → j + 1 ≡ length tries → Contains alternatives (get_or tries j 0)

ends_among : (alternatives tries others : List ℕ) (place : ℕ) → tries ≡ others ++ place ∷ [] → Contains alternatives place
    → EndsAmong alternatives tries
ends_among alternatives tries others place e is =
    let long : length tries ≡ length others + 1 = ap length e ∙ length_push others place in
    record {
      some = omega (arith, long);
      last = λ j is_last.
          subst (Contains alternatives)
          (sym (ap (λ (xs : List ℕ). get_or xs j 0) e ∙ get_or_push others place 0 j (omega (arith, long, is_last)))) is;
    }

-- the promises of the first alternatives
pub record AreFirstPromises (old new : List NormalNode) (alternatives : List ℕ) (count : ℕ) (promises : List (Vec ℕ Global)) : Type 0 where
  pub grown : Extends old new
  pub ordered : AreNormalNodes new
  pub within : AreRowsWithin new promises
  pub none : (forms : List NormalForm) → AreForms new forms → (word : ℕ → ℕ → Bool) (t : ℕ) → AreRefuted word forms t promises
      → NoneHolds word forms t (take count alternatives)
  pub ends : (k : ℕ) → k < length promises → EndsAmong alternatives (row_at promises k)

pub promises_none : (nodes : List NormalNode) (alternatives : List ℕ) (promises : List (Vec ℕ Global)) → promises ≡ [] → AreNormalNodes nodes
    → AreFirstPromises nodes nodes alternatives 0 promises
promises_none nodes alternatives promises e ordered = record {
  grown = extends_itself nodes;
  ordered = ordered;
  within = subst (AreRowsWithin nodes) (sym e) (All-nil (λ (row : Vec ℕ Global). AreWithin nodes row.items));
  none = λ forms are word t refuted. All-nil (λ p. ¬ Holds word (part forms p) t);
  ends = λ k lt. absurd (let none = ap length e in omega (arith, none, lt));
}

pub promises_more : (old mid new : List NormalNode) (alternatives : List ℕ) (count : ℕ) (promises longer : List (Vec ℕ Global)) (tries : Vec ℕ Global)
    → count < length alternatives → AreFirstPromises old mid alternatives count promises → AddsGiven mid new (get_or alternatives count 0) tries.items
    → longer ≡ promises ++ tries ∷ [] → AreFirstPromises old new alternatives (count + 1) longer
promises_more old mid new alternatives count promises longer tries lt so adds e = record {
  grown = extends_twice old mid new so.grown adds.grown;
  ordered = adds.ordered;
  within =
      subst (AreRowsWithin new) (sym e)
      (All-push (λ (row : Vec ℕ Global). AreWithin new row.items) promises tries (rows_kept mid new promises adds.grown so.within) adds.gives.within);
  none = λ forms are word t refuted.
      let P : Vec ℕ Global → Type 0 = λ row. ¬ AllHold word forms t row.items in
      let pushed = subst (AreRefuted word forms t) e refuted in
      All-more (λ p. ¬ Holds word (part forms p) t) alternatives count 0 lt
      (so.none forms (forms_before mid new adds.grown forms are) word t (All-left P promises (tries ∷ []) pushed))
      (λ h. All-last P promises tries pushed (adds.gives.holds forms are word t h));
  ends =
      rows_push promises (λ k row. EndsAmong alternatives row) tries longer e so.ends
      (ends_among alternatives tries.items adds.others (get_or alternatives count 0) adds.last
      (All-get_or (Contains alternatives) alternatives count 0 lt (All-contains_itself alternatives)));
}

pub all_promises : (old mid new : List NormalNode) (root : ℕ) (alternatives : List ℕ) (count : ℕ) (promises : List (Vec ℕ Global))
    → AddsAllAlternatives old mid root alternatives → AreFirstPromises mid new alternatives count promises → length alternatives ≤ count
    → Splits new root promises
all_promises old mid new root alternatives count promises adds so le word t holds refuted =
    let forms = normals_of new in
    let are : AreForms new forms = are_forms new so.ordered in
    (adds.split forms (forms_before mid new so.grown forms are)).holds word t holds
    (subst (NoneHolds word forms t) (take_all count alternatives le) (so.none forms are word t refuted))

pub all_implied : (old mid new : List NormalNode) (root : ℕ) (alternatives : List ℕ) (count : ℕ) (promises : List (Vec ℕ Global))
    → AddsAllAlternatives old mid root alternatives → AreFirstPromises mid new alternatives count promises → IsImplied new root promises
all_implied old mid new root alternatives count promises adds so k lt =
    let forms = normals_of new in
    let are : AreForms new forms = are_forms new so.ordered in
    let ends = so.ends k lt in
    record {
      some = ends.some;
      last = λ j is_last.
          All-contains (λ p. IsStronger (part forms p) (part forms root)) alternatives (get_or (row_at promises k) j 0)
          (adds.split forms (forms_before mid new so.grown forms are)).stronger (ends.last j is_last);
    }
