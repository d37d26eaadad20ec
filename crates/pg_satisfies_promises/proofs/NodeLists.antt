-- Lists of nodes that grow.
use Rattle.std.proofs.Common.{◌≡◌, ℕ, Bool, ◌+◌, ◌<◌, ◌≤◌, List, [], ◌∷◌, ◌++◌, length, get_or, take, append-nil, arith, refl, sym, ap, subst, ◌∙◌}
use Rattle.std.specs.Prelude.{All, Contains}
use Rattle.std.proofs.lemmas.List.{get_or_append_left, get_or-append-add, get_or_push, length-append, length_push, take_more}
use Rattle.std.proofs.lemmas.List.Elements.{All-weaker, All-contains, All-push, All-cons, All-nil}
use Rattle.pg_ltl.specs.declared.normal.NormalNode.{NormalNode}
use Rattle.pg_ltl.specs.declared.normal.NormalNode.TheVariants.{Top, Both}
use Rattle.pg_ltl.specs.NormalForms.{NormalForm, Holds}
use Rattle.pg_ltl.specs.Mirrors.Nodes.{normal_at, normal_reach, normal_node_in, AreNormalNodes}
use Rattle.pg_ltl.specs.Mirrors.Pairs.{Extends}
use Rattle.pg_ltl.proofs.Nodes.{extends_twice, length-extends, ordered_push}
use Rattle.pg_means_look.specs.Mirrors.Choices.{part, AreForms}
use Rattle.pg_satisfies_promises.specs.Mirrors.Promises.{AllHold}
use Rattle.pg_satisfies_promises.specs.Mirrors.Growing.{AreWithin, AddsNode, AddsConjunction, Gives, TakesApart}

-- ---- parts of lists

module _ {A : Type 0} (P : A → Type 0) where
  pub All-left : (xs ys : List A) → All P (xs ++ ys) → All P xs
  All-left xs ys h k d lt =
      let l : length (xs ++ ys) ≡ length xs + length ys = length-append xs ys in
      subst P (get_or_append_left xs ys d k lt) (h k d (omega arith))

  pub All-right : (xs ys : List A) → All P (xs ++ ys) → All P ys
  All-right xs ys h k d lt =
      let l : length (xs ++ ys) ≡ length xs + length ys = length-append xs ys in
      subst P (get_or-append-add xs ys k d) (h (length xs + k) d (omega arith))

  pub All-last : (xs : List A) (x : A) → All P (xs ++ x ∷ []) → P x
  All-last xs x h =
      let l : length (xs ++ x ∷ []) ≡ length xs + 1 = length_push xs x in
      subst P (get_or_push xs x x (length xs) refl) (h (length xs) x (omega arith))

  pub All-less : (xs : List A) (i : ℕ) (d : A) → i < length xs → All P (take (i + 1) xs) → All P (take i xs) × P (get_or xs i d)
  All-less xs i d lt h =
      let pushed : All P (take i xs ++ get_or xs i d ∷ []) = subst (All P) (take_more xs i d lt) h in
      (All-left (take i xs) (get_or xs i d ∷ []) pushed, All-last (take i xs) (get_or xs i d) pushed)

  pub All-two : (xs : List A) (x y : A) (zs : List A) → zs ≡ (xs ++ x ∷ []) ++ y ∷ [] → All P xs → P x → P y → All P zs
  All-two xs x y zs e h p q = subst (All P) (sym e) (All-push P (xs ++ x ∷ []) y (All-push P xs x h p) q)

-- ---- growing

pub extends_itself : (nodes : List NormalNode) → Extends nodes nodes
extends_itself nodes = ([], sym (append-nil nodes))

node_kept : (old new : List NormalNode) (place : ℕ) → Extends old new → place < length old → normal_node_in new place ≡ normal_node_in old place
node_kept old new place grown lt = ap (λ ns. get_or ns place Top) grown.1 ∙ get_or_append_left old grown.0 Top place lt

-- what the longer list makes of the forms, the shorter one does
pub forms_before : (old new : List NormalNode) → Extends old new → (forms : List NormalForm) → AreForms new forms → AreForms old forms
forms_before old new grown forms are place lt =
    let long : length old ≤ length new = length-extends old new grown in
    are place (omega arith) ∙ ap (normal_at forms) (node_kept old new place grown lt)

pub within_longer : (old new : List NormalNode) → length old ≤ length new → (places : List ℕ) → AreWithin old places → AreWithin new places
within_longer old new long places = All-weaker (λ place. place < length old) (λ place. place < length new) (λ place lt. omega arith) places

pub within_kept : (old new : List NormalNode) → Extends old new → (places : List ℕ) → AreWithin old places → AreWithin new places
within_kept old new grown = within_longer old new (length-extends old new grown)

pub added : (old new : List NormalNode) (node : NormalNode) (place : ℕ) → new ≡ old ++ node ∷ [] → place ≡ length old → AreNormalNodes old
    → normal_reach node ≤ length old → AddsNode old new node place
added old new node place e at ordered reach = record {
  grown = (node ∷ [], e);
  ordered = subst AreNormalNodes (sym e) (ordered_push old node ordered reach);
  below = (let l = ap length e in let k = length_push old node in omega (arith, l, k));
  is = ap (λ ns. normal_node_in ns place) e ∙ get_or_push old node Top place (sym at);
}

-- the form of a node that was appended
pub form_added : (old new : List NormalNode) (node : NormalNode) (place : ℕ) → AddsNode old new node place → (forms : List NormalForm)
    → AreForms new forms → part forms place ≡ normal_at forms node
form_added old new node place adds forms are = are place adds.below ∙ ap (normal_at forms) adds.is

-- ---- conjuncts

pub fewer_hold : (many few : List ℕ) → All (Contains many) few → (word : ℕ → ℕ → Bool) (forms : List NormalForm) (t : ℕ)
    → AllHold word forms t many → AllHold word forms t few
fewer_hold many few among word forms t all =
    All-weaker (Contains many) (λ place. Holds word (part forms place) t)
    (λ place is. All-contains (λ p. Holds word (part forms p) t) many place all is) few among

pub within_among : (nodes : List NormalNode) (many few : List ℕ) → All (Contains many) few → AreWithin nodes many → AreWithin nodes few
within_among nodes many few among within =
    All-weaker (Contains many) (λ place. place < length nodes) (λ place is. All-contains (λ p. p < length nodes) many place within is) few among

-- none so far: the first conjunct alone
pub conjunction_first : (nodes : List NormalNode) (conjuncts : List ℕ) (place : ℕ) → AreNormalNodes nodes
    → ((P : ℕ → Type 0) → All P conjuncts → P place) → AreWithin nodes conjuncts → AddsConjunction nodes nodes conjuncts place
conjunction_first nodes conjuncts place ordered is within = record {
  grown = extends_itself nodes;
  ordered = ordered;
  below = is (λ p. p < length nodes) within;
  holds = λ forms are word t all. is (λ p. Holds word (part forms p) t) all;
}

-- one conjunct more
pub conjunction_more : (old mid new : List NormalNode) (conjuncts : List ℕ) (whole x place : ℕ) → AddsConjunction old mid conjuncts whole
    → AddsNode mid new (Both whole x) place → ((P : ℕ → Type 0) → All P conjuncts → P x) → AddsConjunction old new conjuncts place
conjunction_more old mid new conjuncts whole x place before adds is = record {
  grown = extends_twice old mid new before.grown adds.grown;
  ordered = adds.ordered;
  below = adds.below;
  holds = λ forms are word t all.
      subst (λ (f : NormalForm). Holds word f t) (sym (form_added mid new (Both whole x) place adds forms are))
      (before.holds forms (forms_before mid new adds.grown forms are) word t all, is (λ p. Holds word (part forms p) t) all);
}

-- a truth is the conjunction of none
pub conjunction_none : (old new : List NormalNode) (conjuncts : List ℕ) (place : ℕ) → AddsNode old new Top place
    → AddsConjunction old new conjuncts place
conjunction_none old new conjuncts place adds = record {
  grown = adds.grown;
  ordered = adds.ordered;
  below = adds.below;
  holds = λ forms are word t all. subst (λ (f : NormalForm). Holds word f t) (sym (form_added old new Top place adds forms are)) tt;
}

pub given_itself : (nodes : List NormalNode) (place : ℕ) (list : List ℕ) → list ≡ place ∷ [] → place < length nodes → Gives nodes place list
given_itself nodes place list e lt = record {
  within = subst (AreWithin nodes) (sym e) (All-cons (λ p. p < length nodes) place [] lt (All-nil (λ p. p < length nodes)));
  holds = λ forms are word t h.
      subst (AllHold word forms t) (sym e)
      (All-cons (λ p. Holds word (part forms p) t) place [] h (All-nil (λ p. Holds word (part forms p) t)));
}

-- ---- taking apart

-- one is taken from those that wait
pub taken : (old rest : List ℕ) (place : ℕ) → old ≡ rest ++ place ∷ [] → (P : ℕ → Type 0) → All P old → All P rest × P place
taken old rest place e P all =
    let pushed = subst (All P) e all in
    (All-left P rest (place ∷ []) pushed, All-last P rest place pushed)

pub apart_both : (nodes : List NormalNode) (place left right : ℕ) (old_waiting middle new_waiting found : List ℕ) → AreNormalNodes nodes
    → place < length nodes → normal_node_in nodes place ≡ Both left right
    → middle ≡ old_waiting ++ right ∷ [] → new_waiting ≡ middle ++ left ∷ [] → AreWithin nodes old_waiting → AreWithin nodes found
    → TakesApart nodes place old_waiting new_waiting found found
apart_both nodes place left right old_waiting middle new_waiting found ordered lt is e f waiting_within found_within =
    let both_pushed : new_waiting ≡ (old_waiting ++ right ∷ []) ++ left ∷ [] = f ∙ ap (λ (xs : List ℕ). xs ++ left ∷ []) e in
    let reach : normal_reach (Both left right) ≤ place = subst (λ (n : NormalNode). normal_reach n ≤ place) is (ordered place lt) in
    let left_below : left < length nodes = omega arith in
    let right_below : right < length nodes = omega arith in
    record {
      waiting = All-two (λ p. p < length nodes) old_waiting right left new_waiting both_pushed waiting_within right_below left_below;
      found = found_within;
      holds = λ forms are word t h waiting_hold found_hold.
          let b : Holds word (normal_at forms (Both left right)) t =
          subst (λ (f : NormalForm). Holds word f t) (are place lt ∙ ap (normal_at forms) is) h in
          (All-two (λ p. Holds word (part forms p) t) old_waiting right left new_waiting both_pushed waiting_hold b.1 b.0, found_hold);
    }

pub apart_found : (nodes : List NormalNode) (place : ℕ) (waiting old_found new_found : List ℕ) → place < length nodes
    → new_found ≡ old_found ++ place ∷ [] → AreWithin nodes waiting → AreWithin nodes old_found
    → TakesApart nodes place waiting waiting old_found new_found
apart_found nodes place waiting old_found new_found lt e waiting_within found_within = record {
  waiting = waiting_within;
  found = subst (AreWithin nodes) (sym e) (All-push (λ p. p < length nodes) old_found place found_within lt);
  holds = λ forms are word t h waiting_hold found_hold.
      (waiting_hold, subst (AllHold word forms t) (sym e) (All-push (λ p. Holds word (part forms p) t) old_found place found_hold h));
}

-- what waits and what was found hold wherever the whole does
pub record AreConjuncts (nodes : List NormalNode) (whole : ℕ) (waiting found : List ℕ) : Type 0 where
  pub waits : Gives nodes whole waiting
  pub is_found : Gives nodes whole found

pub conjuncts_first : (nodes : List NormalNode) (whole : ℕ) (waiting found : List ℕ) → waiting ≡ whole ∷ [] → found ≡ [] → whole < length nodes
    → AreConjuncts nodes whole waiting found
conjuncts_first nodes whole waiting found e f lt = record {
  waits = given_itself nodes whole waiting e lt;
  is_found = record {
    within = subst (AreWithin nodes) (sym f) (All-nil (λ p. p < length nodes));
    holds = λ forms are word t h. subst (AllHold word forms t) (sym f) (All-nil (λ p. Holds word (part forms p) t));
  };
}

pub conjuncts_more : (nodes : List NormalNode) (whole place : ℕ) (waiting rest next found more : List ℕ) → AreConjuncts nodes whole waiting found
    → waiting ≡ rest ++ place ∷ [] → TakesApart nodes place rest next found more → AreConjuncts nodes whole next more
conjuncts_more nodes whole place waiting rest next found more so e takes =
    let holds = λ (forms : List NormalForm) (are : AreForms nodes forms) (word : ℕ → ℕ → Bool) (t : ℕ) (h : Holds word (part forms whole) t).
    let split = taken waiting rest place e (λ p. Holds word (part forms p) t) (so.waits.holds forms are word t h) in
    takes.holds forms are word t split.1 split.0 (so.is_found.holds forms are word t h) in
    record {
      waits = record { within = takes.waiting; holds = λ forms are word t h. (holds forms are word t h).0 };
      is_found = record { within = takes.found; holds = λ forms are word t h. (holds forms are word t h).1 };
    }
