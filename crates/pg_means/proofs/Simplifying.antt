-- The parts of a simpler normal form, and what they say.
use Rattle.std.proofs.Common.{◌≡◌, ℕ, ◌+◌, ◌<◌, ◌≤◌, inl, inr, List, [], ◌∷◌, ◌++◌, length, get_or, arith, sym, subst, ap, ◌∙◌, append-nil}
use Rattle.std.proofs.lemmas.Bool.{cases_lt}
use Rattle.std.proofs.lemmas.List.{length-append, get_or_append_left, get_or_push}
use Rattle.pg_ltl.specs.declared.normal.NormalNode.{NormalNode}
use Rattle.pg_ltl.specs.declared.normal.NormalNode.TheVariants.{Top, Bottom, Until, Release}
use Rattle.pg_ltl.specs.NormalForms.{NormalForm, top, bottom, both, either, next, until, release}
use Rattle.pg_ltl.specs.Mirrors.Nodes.{normal_in, normal_node_in, normal_reach, normal_at, normals_of, AreNormalNodes}
use Rattle.pg_ltl.specs.Mirrors.Pairs.{AddsNode}
use Rattle.pg_ltl.proofs.Nodes.{normal_in-extends, length-extends, extends_twice}
use Rattle.pg_means_look.proofs.Forms.{are_forms}
use Rattle.pg_means.specs.declared.simplified.Operand.{Operand}
use Rattle.pg_means.specs.Mirrors.Simplified.{SayTheSame, AddsSame, HasOperand, AreBelow, PlacesStand}
use Rattle.pg_means.proofs.Sameness.{same_twice, itself, next_alike, recurs_merged, lasts_merged, ever_same, always_same, recurs_same, lasts_same}

pub there : (nodes : List NormalNode) (place : ℕ) (node : NormalNode) → AreNormalNodes nodes → place < length nodes
    → normal_node_in nodes place ≡ node → AddsNode nodes nodes place (normal_at (normals_of nodes) node)
there nodes place node ordered lt e = record {
  grown = ([], sym (append-nil nodes));
  ordered = ordered;
  below = lt;
  is = are_forms nodes ordered place lt ∙ ap (normal_at (normals_of nodes)) e;
}

pub of_until : (nodes : List NormalNode) (place c o : ℕ) → AreNormalNodes nodes → place < length nodes
    → normal_node_in nodes place ≡ Until c o → normal_node_in nodes c ≡ Top
    → HasOperand until top nodes place (record { constant = c; operand = o })
of_until nodes place c o ordered lt e is_top =
    let reach : normal_reach (Until c o) ≤ place = subst (λ (n : NormalNode). normal_reach n ≤ place) e (ordered place lt) in
    let constant_is : normal_in nodes c ≡ top = are_forms nodes ordered c (omega arith) ∙ ap (normal_at (normals_of nodes)) is_top in
    record {
      is = are_forms nodes ordered place lt ∙ ap (normal_at (normals_of nodes)) e ∙ ap (λ f. until f (normal_in nodes o)) constant_is;
      constant_is = constant_is;
      constant_below = omega arith;
      operand_below = omega arith;
    }

pub of_release : (nodes : List NormalNode) (place c o : ℕ) → AreNormalNodes nodes → place < length nodes
    → normal_node_in nodes place ≡ Release c o → normal_node_in nodes c ≡ Bottom
    → HasOperand release bottom nodes place (record { constant = c; operand = o })
of_release nodes place c o ordered lt e is_bottom =
    let reach : normal_reach (Release c o) ≤ place = subst (λ (n : NormalNode). normal_reach n ≤ place) e (ordered place lt) in
    let constant_is : normal_in nodes c ≡ bottom = are_forms nodes ordered c (omega arith) ∙ ap (normal_at (normals_of nodes)) is_bottom in
    record {
      is = are_forms nodes ordered place lt ∙ ap (normal_at (normals_of nodes)) e ∙ ap (λ f. release f (normal_in nodes o)) constant_is;
      constant_is = constant_is;
      constant_below = omega arith;
      operand_below = omega arith;
    }

-- what has two operators and their constants
module _ (outer inner : NormalForm → NormalForm → NormalForm) (c d : NormalForm) (nodes : List NormalNode) where
  pub nested : (place : ℕ) (o i : Operand) → HasOperand outer c nodes place o → HasOperand inner d nodes o.operand i
      → normal_in nodes place ≡ outer c (inner d (normal_in nodes i.operand))
  nested place o i has_outer has_inner = has_outer.is ∙ ap (outer c) has_inner.is

-- three parts, each of the one before
pub thrice : (op inner outer : NormalForm → NormalForm → NormalForm) (n0 n1 n2 n3 : List NormalNode) (e u r i o a b : ℕ)
    → i < length n0 → o < length n0
    → AddsNode n0 n1 e (op (normal_in n0 a) (normal_in n0 b)) → AddsNode n1 n2 u (inner (normal_in n1 i) (normal_in n1 e))
    → AddsNode n2 n3 r (outer (normal_in n2 o) (normal_in n2 u))
    → AddsNode n0 n3 r (outer (normal_in n0 o) (inner (normal_in n0 i) (op (normal_in n0 a) (normal_in n0 b))))
thrice op inner outer n0 n1 n2 n3 e u r i o a b i_lt o_lt first second third =
    let grown = extends_twice n0 n1 n2 first.grown second.grown in
    record {
      grown = extends_twice n0 n2 n3 grown third.grown;
      ordered = third.ordered;
      below = third.below;
      is =
          third.is
          ∙ ap (λ x. outer x (normal_in n2 u)) (normal_in-extends n0 n2 o grown o_lt)
          ∙ ap (outer (normal_in n0 o)) (
          second.is
          ∙ ap (λ x. inner x (normal_in n1 e)) (normal_in-extends n0 n1 i first.grown i_lt)
          ∙ ap (inner (normal_in n0 i)) first.is
          );
    }

equal : (f g : NormalForm) → f ≡ g → SayTheSame f g
equal f g e = subst (SayTheSame f) e (itself f)

pub added_same : (old new : List NormalNode) (place : ℕ) (f g : NormalForm) → AddsNode old new place f → SayTheSame f g → AddsSame old new place g
added_same old new place f g adds same = record {
  grown = adds.grown;
  ordered = adds.ordered;
  below = adds.below;
  same = same_twice (normal_in new place) f g (equal (normal_in new place) f adds.is) same;
}

pub added_plainly : (old new : List NormalNode) (place : ℕ) (f : NormalForm) → AddsNode old new place f → AddsSame old new place f
added_plainly old new place f adds = added_same old new place f f adds (itself f)

pub there_same : (nodes : List NormalNode) (place : ℕ) (g : NormalForm) → AreNormalNodes nodes → place < length nodes
    → SayTheSame (normal_in nodes place) g → AddsSame nodes nodes place g
there_same nodes place g ordered lt same = record { grown = ([], sym (append-nil nodes)); ordered = ordered; below = lt; same = same }

pub changed : (old new : List NormalNode) (place : ℕ) (f g : NormalForm) → AddsSame old new place f → SayTheSame f g → AddsSame old new place g
changed old new place f g adds same = record {
  grown = adds.grown;
  ordered = adds.ordered;
  below = adds.below;
  same = same_twice (normal_in new place) f g adds.same same;
}

module _ (nodes : List NormalNode) (f g : ℕ) (o p i j : Operand) where
  pub merged_lasts : HasOperand until top nodes f o → HasOperand release bottom nodes o.operand i
      → HasOperand until top nodes g p → HasOperand release bottom nodes p.operand j
      → SayTheSame (until (normal_in nodes o.constant) (release (normal_in nodes i.constant) (both (normal_in nodes i.operand) (normal_in nodes j.operand))))
      (both (normal_in nodes f) (normal_in nodes g))
  merged_lasts fo fi go gi =
      subst (λ x. SayTheSame (until x (release (normal_in nodes i.constant) (both (normal_in nodes i.operand) (normal_in nodes j.operand))))
      (both (normal_in nodes f) (normal_in nodes g))) (sym fo.constant_is)
      (subst (λ x. SayTheSame (until top (release x (both (normal_in nodes i.operand) (normal_in nodes j.operand))))
      (both (normal_in nodes f) (normal_in nodes g))) (sym fi.constant_is)
      (subst (λ x. SayTheSame (until top (release bottom (both (normal_in nodes i.operand) (normal_in nodes j.operand))))
      (both x (normal_in nodes g))) (sym (nested until release top bottom nodes f o i fo fi))
      (subst (λ x. SayTheSame (until top (release bottom (both (normal_in nodes i.operand) (normal_in nodes j.operand))))
      (both (until top (release bottom (normal_in nodes i.operand))) x)) (sym (nested until release top bottom nodes g p j go gi))
      (lasts_merged (normal_in nodes i.operand) (normal_in nodes j.operand)))))

  pub merged_recurs : HasOperand release bottom nodes f o → HasOperand until top nodes o.operand i
      → HasOperand release bottom nodes g p → HasOperand until top nodes p.operand j
      → SayTheSame (release (normal_in nodes o.constant) (until (normal_in nodes i.constant) (either (normal_in nodes i.operand) (normal_in nodes j.operand))))
      (either (normal_in nodes f) (normal_in nodes g))
  merged_recurs fo fi go gi =
      subst (λ x. SayTheSame (release x (until (normal_in nodes i.constant) (either (normal_in nodes i.operand) (normal_in nodes j.operand))))
      (either (normal_in nodes f) (normal_in nodes g))) (sym fo.constant_is)
      (subst (λ x. SayTheSame (release bottom (until x (either (normal_in nodes i.operand) (normal_in nodes j.operand))))
      (either (normal_in nodes f) (normal_in nodes g))) (sym fi.constant_is)
      (subst (λ x. SayTheSame (release bottom (until top (either (normal_in nodes i.operand) (normal_in nodes j.operand))))
      (either x (normal_in nodes g))) (sym (nested release until bottom top nodes f o i fo fi))
      (subst (λ x. SayTheSame (release bottom (until top (either (normal_in nodes i.operand) (normal_in nodes j.operand))))
      (either (release bottom (until top (normal_in nodes i.operand))) x)) (sym (nested release until bottom top nodes g p j go gi))
      (recurs_merged (normal_in nodes i.operand) (normal_in nodes j.operand)))))

module _ (nodes : List NormalNode) (place : ℕ) (o i : Operand) where
  pub ever_there : HasOperand until top nodes place o → SayTheSame (normal_in nodes place) (until top (normal_in nodes place))
  ever_there has = subst (λ x. SayTheSame x (until top x)) (sym has.is) (ever_same (normal_in nodes o.operand))

  pub always_there : HasOperand release bottom nodes place o → SayTheSame (normal_in nodes place) (release bottom (normal_in nodes place))
  always_there has = subst (λ x. SayTheSame x (release bottom x)) (sym has.is) (always_same (normal_in nodes o.operand))

  pub recurs_there : HasOperand release bottom nodes place o → HasOperand until top nodes o.operand i
      → SayTheSame (normal_in nodes place) (until top (normal_in nodes place))
  recurs_there outer inner =
      subst (λ x. SayTheSame x (until top x)) (sym (nested release until bottom top nodes place o i outer inner)) (recurs_same (normal_in nodes i.operand))

  pub lasts_there : HasOperand until top nodes place o → HasOperand release bottom nodes o.operand i
      → SayTheSame (normal_in nodes place) (release bottom (normal_in nodes place))
  lasts_there outer inner =
      subst (λ x. SayTheSame x (release bottom x)) (sym (nested until release top bottom nodes place o i outer inner)) (lasts_same (normal_in nodes i.operand))

pub constant_first : (op : NormalForm → NormalForm → NormalForm) (nodes : List NormalNode) (c : NormalForm) (node : NormalNode) (f g : ℕ)
    → AreNormalNodes nodes → f < length nodes → normal_node_in nodes f ≡ node → normal_at (normals_of nodes) node ≡ c
    → SayTheSame (normal_in nodes g) (op c (normal_in nodes g)) → SayTheSame (normal_in nodes g) (op (normal_in nodes f) (normal_in nodes g))
constant_first op nodes c node f g ordered lt e is same =
    subst (λ x. SayTheSame (normal_in nodes g) (op x (normal_in nodes g)))
    (sym (are_forms nodes ordered f lt ∙ ap (normal_at (normals_of nodes)) e ∙ is)) same

pub below_kept : (bound more : ℕ) (places longer : List ℕ) (place : ℕ) → longer ≡ places ++ (place ∷ []) → bound ≤ more → place < more
    → AreBelow bound places → AreBelow more longer
below_kept bound more places longer place e le here below =
    subst (λ ps. AreBelow more ps) (sym e) (λ i lt. elim (cases_lt i (length places)) [
      | inl less ↦
          let same = get_or_append_left places (place ∷ []) 0 i less in
          let b = below i less in
          omega (arith, same, b)
      | inr ge ↦
          let l : length (places ++ (place ∷ [])) ≡ length places + 1 = length-append places (place ∷ []) in
          let at : length places ≡ i = omega (arith, l, lt, ge) in
          let same = get_or_push places place 0 i at in
          omega (arith, same)
    ])

pub stand_more : (old new : List NormalNode) (places longer : List ℕ) (place : ℕ) (fs : List NormalForm) → longer ≡ places ++ (place ∷ [])
    → AreBelow (length old) places → AddsSame old new place (get_or fs (length places) top) → PlacesStand old places fs → PlacesStand new longer fs
stand_more old new places longer place fs e below adds stand =
    subst (λ ps. PlacesStand new ps fs) (sym e) (record {
      same = λ i lt. elim (cases_lt i (length places)) [
        | inl less ↦
            subst (λ q. SayTheSame (normal_in new q) (get_or fs i top)) (sym (get_or_append_left places (place ∷ []) 0 i less))
            (subst (λ x. SayTheSame x (get_or fs i top)) (sym (normal_in-extends old new (get_or places i 0) adds.grown (below i less)))
            (stand.same i less))
        | inr ge ↦
            let l : length (places ++ (place ∷ [])) ≡ length places + 1 = length-append places (place ∷ []) in
            let at : length places ≡ i = omega (arith, l, lt, ge) in
            subst (λ q. SayTheSame (normal_in new q) (get_or fs i top)) (sym (get_or_push places place 0 i at))
            (subst (λ k. SayTheSame (normal_in new place) (get_or fs k top)) at adds.same)
      ];
    })

-- what the loop knows behind one part more
pub record Stepped (nodes : List NormalNode) (places : List ℕ) (part : ℕ) (fs : List NormalForm) : Type 0 where
  pub count : length places ≡ part
  pub ordered : AreNormalNodes nodes
  pub below : AreBelow (length nodes) places
  pub stand : PlacesStand nodes places fs

pub stepped : (old new : List NormalNode) (places slice longer : List ℕ) (place : ℕ) (parts : List NormalNode) (node : NormalNode) (part : ℕ)
    → slice ≡ places → longer ≡ places ++ (place ∷ []) → length places ≡ part → part < length parts → AreNormalNodes parts
    → node ≡ normal_node_in parts part
    → ((fs : List NormalForm) → PlacesStand old slice fs → AddsSame old new place (normal_at fs node))
    → AreBelow (length old) places → PlacesStand old places (normals_of parts) → Stepped new longer (part + 1) (normals_of parts)
stepped old new places slice longer place parts node part e l count lt good n adds below stand =
    let fs = normals_of parts in
    let now : AddsSame old new place (normal_at fs node) = adds fs (subst (λ ps. PlacesStand old ps fs) (sym e) stand) in
    let is : normal_at fs node ≡ get_or fs (length places) top =
    ap (normal_at fs) n ∙ sym (are_forms parts good part lt) ∙ ap (λ k. get_or fs k top) (sym count) in
    let here : AddsSame old new place (get_or fs (length places) top) = subst (AddsSame old new place) is now in
    let size : length (places ++ (place ∷ [])) ≡ length places + 1 = length-append places (place ∷ []) in
    record {
      count = ap length l ∙ size ∙ ap (λ k. k + 1) count;
      ordered = now.ordered;
      below = below_kept (length old) (length new) places longer place l (length-extends old new now.grown) now.below below;
      stand = stand_more old new places longer place fs l below here stand;
    }

-- an operator over parts says the same as over the formulas that they stand for
pub over_places : (op : NormalForm → NormalForm → NormalForm)
    → ((f g h k : NormalForm) → SayTheSame f h → SayTheSame g k → SayTheSame (op f g) (op h k))
    → (old new : List NormalNode) (places : List ℕ) (fs : List NormalForm) (place a b p q : ℕ) → a < length places → b < length places
    → p ≡ get_or places a 0 → q ≡ get_or places b 0
    → AddsSame old new place (op (normal_in old p) (normal_in old q)) → PlacesStand old places fs
    → AddsSame old new place (op (get_or fs a top) (get_or fs b top))
over_places op alike old new places fs place a b p q a_lt b_lt p_is q_is adds stand =
    changed old new place (op (normal_in old p) (normal_in old q)) (op (get_or fs a top) (get_or fs b top)) adds
    (alike (normal_in old p) (normal_in old q) (get_or fs a top) (get_or fs b top)
    (subst (λ x. SayTheSame (normal_in old x) (get_or fs a top)) (sym p_is) (stand.same a a_lt))
    (subst (λ x. SayTheSame (normal_in old x) (get_or fs b top)) (sym q_is) (stand.same b b_lt)))

pub next_over_places : (old new : List NormalNode) (places : List ℕ) (fs : List NormalForm) (place a p : ℕ) → a < length places
    → p ≡ get_or places a 0 → AddsSame old new place (next (normal_in old p)) → PlacesStand old places fs
    → AddsSame old new place (next (get_or fs a top))
next_over_places old new places fs place a p a_lt p_is adds stand =
    changed old new place (next (normal_in old p)) (next (get_or fs a top)) adds
    (next_alike (normal_in old p) (get_or fs a top)
    (subst (λ x. SayTheSame (normal_in old x) (get_or fs a top)) (sym p_is) (stand.same a a_lt)))
