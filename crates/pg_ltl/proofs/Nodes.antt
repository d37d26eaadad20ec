-- Lists of parts: what a part is doesn't change when more parts come behind.
use Rattle.std.proofs.Common.{◌≡◌, ℕ, false, suc, ◌+◌, ◌<◌, ◌≤◌, List, [], ◌∷◌, ◌++◌, length, get_or, refl, sym, subst, ap, ◌∙◌, arith}
use Rattle.std.proofs.Common.{append_assoc, append-nil, take, drop, drop-cons, inl, inr}
use Rattle.std.specs.List.{fold}
use Rattle.std.proofs.lemmas.Bool.{cases_lt}
use Rattle.std.proofs.lemmas.List.{length-append, length-take-le, take-append-drop, get_or_append_left, get_or_push}
use Rattle.std.proofs.lemmas.List.Sums.{fold-append}
use Rattle.pg_ltl.specs.declared.normal.NormalNode.{NormalNode}
use Rattle.pg_ltl.specs.declared.normal.NormalNode.TheVariants.{Top}
use Rattle.pg_ltl.specs.declared.formula.FormulaNode.{FormulaNode}
use Rattle.pg_ltl.specs.declared.formula.FormulaNode.TheVariants as parts
use Rattle.pg_ltl.specs.Formulas.{Formula, constant, bracket, one, two}
use Rattle.pg_ltl.specs.NormalForms.{NormalForm, top}
use Rattle.pg_ltl.specs.Mirrors.Nodes.{formula_at, formulas_of, formula_in, node_in, reach, meanings, normal_at, normals_of, normal_in}
use Rattle.pg_ltl.specs.Mirrors.Nodes.{normal_reach, AreNormalNodes}
use Rattle.pg_ltl.specs.Mirrors.Pairs.{Extends, AddsNode, AddsPair}

module _ {A B : Type 0} (at : List B → A → B) where
  abbrev more : List B → A → List B
  more before node = before ++ (at before node ∷ [])

  folded : (before : List B) (nodes : List A) → (rest : List B) × (fold more before nodes ≡ before ++ rest)
  folded before [] = ([], sym (append-nil before))
  folded before (n ∷ ns) =
      let f = folded (more before n) ns in
      (at before n ∷ f.0, f.1 ∙ append_assoc before (at before n ∷ []) f.0)

  length_folded : (before : List B) (nodes : List A) → length (fold more before nodes) ≡ length before + length nodes
  length_folded before [] = omega arith
  length_folded before (n ∷ ns) =
      let h = length_folded (more before n) ns in
      let l : length (more before n) ≡ length before + 1 = length-append before (at before n ∷ []) in
      omega (arith, h, l)

  pub length-meanings : (nodes : List A) → length (meanings at nodes) ≡ length nodes
  length-meanings nodes = let h = length_folded [] nodes in omega (arith, h)

  pub meanings-push : (nodes : List A) (n : A) → meanings at (nodes ++ (n ∷ [])) ≡ meanings at nodes ++ (at (meanings at nodes) n ∷ [])
  meanings-push nodes n = fold-append more [] nodes (n ∷ [])

  pub get_or-meanings : (nodes more_nodes : List A) (i : ℕ) (d : B) → i < length nodes
      → get_or (meanings at (nodes ++ more_nodes)) i d ≡ get_or (meanings at nodes) i d
  get_or-meanings nodes more_nodes i d lt =
      let f = folded (meanings at nodes) more_nodes in
      let l = length-meanings nodes in
      let below : i < length (meanings at nodes) = omega (arith, l, lt) in
      ap (λ ms. get_or ms i d) (fold-append more [] nodes more_nodes ∙ f.1) ∙ get_or_append_left (meanings at nodes) f.0 d i below

  -- what a part is, by what stands before it
  pub get_or-meanings_push : (nodes : List A) (n : A) (d : B) → get_or (meanings at (nodes ++ (n ∷ []))) (length nodes) d ≡ at (meanings at nodes) n
  get_or-meanings_push nodes n d =
      ap (λ ms. get_or ms (length nodes) d) (meanings-push nodes n)
      ∙ get_or_push (meanings at nodes) (at (meanings at nodes) n) d (length nodes) (length-meanings nodes)

-- what stands at a place stays, when more comes behind
pub normal_in-append : (nodes more : List NormalNode) (i : ℕ) → i < length nodes → normal_in (nodes ++ more) i ≡ normal_in nodes i
normal_in-append nodes more i lt = get_or-meanings normal_at nodes more i top lt

pub normal_in-extends : (old new : List NormalNode) (i : ℕ) → Extends old new → i < length old → normal_in new i ≡ normal_in old i
normal_in-extends old new i grown lt = ap (λ ns. normal_in ns i) grown.1 ∙ normal_in-append old grown.0 i lt

pub length-extends : (old new : List NormalNode) → Extends old new → length old ≤ length new
length-extends old new grown =
    let e = ap length grown.1 in
    let l = length-append old grown.0 in
    omega (arith, e, l)

pub extends_twice : (old mid new : List NormalNode) → Extends old mid → Extends mid new → Extends old new
extends_twice old mid new a b = (a.0 ++ b.0, b.1 ∙ ap (λ ns. ns ++ b.0) a.1 ∙ append_assoc old a.0 b.0)

pub ordered_push : (nodes : List NormalNode) (n : NormalNode) → AreNormalNodes nodes → normal_reach n ≤ length nodes → AreNormalNodes (nodes ++ (n ∷ []))
ordered_push nodes n ordered reach place lt = elim (cases_lt place (length nodes)) [
  | inl below ↦ grind (arith, ordered place below, get_or_append_left nodes (n ∷ []) Top place below)
  | inr above ↦
      let l : length (nodes ++ (n ∷ [])) ≡ length nodes + 1 = length-append nodes (n ∷ []) in
      let e : place ≡ length nodes = omega (arith, l, lt, above) in
      grind (arith, e, reach, get_or_push nodes n Top place (sym e))
]

pushed_there : (nodes : List NormalNode) (n : NormalNode) → AreNormalNodes nodes → normal_reach n ≤ length nodes
    → AddsNode nodes (nodes ++ (n ∷ [])) (length nodes) (normal_at (normals_of nodes) n)
pushed_there nodes n ordered reach = record {
  grown = (n ∷ [], refl);
  ordered = ordered_push nodes n ordered reach;
  below = (let l : length (nodes ++ (n ∷ [])) ≡ length nodes + 1 = length-append nodes (n ∷ []) in omega (arith, l));
  is = get_or-meanings_push normal_at nodes n top;
}

pub pushed : (old new : List NormalNode) (n : NormalNode) (place : ℕ) → new ≡ old ++ (n ∷ []) → place ≡ length old → AreNormalNodes old
    → normal_reach n ≤ length old → AddsNode old new place (normal_at (normals_of old) n)
pushed old new n place e l ordered reach =
    subst (λ p. AddsNode old new p (normal_at (normals_of old) n)) (sym l)
    (subst (λ ns. AddsNode old ns (length old) (normal_at (normals_of old) n)) (sym e) (pushed_there old n ordered reach))

-- one part and then another one
pub paired : (old mid new : List NormalNode) (y n : ℕ) (a b other : NormalForm) → AddsNode old mid y a → AddsNode mid new n other → other ≡ b
    → AddsPair old new (record { yes = y; no = n }) a b
paired old mid new y n a b other first second e = record {
  grown = extends_twice old mid new first.grown second.grown;
  ordered = second.ordered;
  within = record { yes = (let l = length-extends mid new second.grown in let h = first.below in omega (arith, l, h)); no = second.below };
  is_yes = normal_in-extends mid new y second.grown first.below ∙ first.is;
  is_no = second.is ∙ e;
}

pub operands_kept : (op : NormalForm → NormalForm → NormalForm) (old new : List NormalNode) (f g : ℕ) → Extends old new → f < length old → g < length old
    → op (normal_in new f) (normal_in new g) ≡ op (normal_in old f) (normal_in old g)
operands_kept op old new f g grown f_below g_below =
    ap (λ x. op x (normal_in new g)) (normal_in-extends old new f grown f_below)
    ∙ ap (λ x. op (normal_in old f) x) (normal_in-extends old new g grown g_below)

-- what a part of a formula is, by what its operands are
at_before : (before after : List Formula) (n : FormulaNode) (k : ℕ) → reach n ≤ k
    → ((i : ℕ) → i < k → get_or before i (constant false) ≡ get_or after i (constant false))
    → formula_at before n ≡ formula_at after n
at_before before after (parts.Constant value) k le same = refl
at_before before after (parts.Proposition p) k le same = refl
at_before before after (parts.Bracket a) k le same = ap bracket (same a (omega (arith, le)))
at_before before after (parts.One op a) k le same = ap (one op) (same a (omega (arith, le)))
at_before before after (parts.Two op a b) k le same =
    ap (λ x. two op x (get_or before b (constant false))) (same a (omega (arith, le)))
    ∙ ap (two op (get_or after a (constant false))) (same b (omega (arith, le)))

formula_seam : (front back : List FormulaNode) (n : FormulaNode) → reach n ≤ length front
    → formula_in (front ++ (n ∷ back)) (length front) ≡ formula_at (formulas_of (front ++ (n ∷ back))) n
formula_seam front back n le =
    let regrouped : front ++ (n ∷ back) ≡ (front ++ (n ∷ [])) ++ back = sym (append_assoc front (n ∷ []) back) in
    let l : length (front ++ (n ∷ [])) ≡ length front + 1 = length-append front (n ∷ []) in
    let lt : length front < length (front ++ (n ∷ [])) = omega (arith, l) in
    ap (λ ns. formula_in ns (length front)) regrouped
    ∙ get_or-meanings formula_at (front ++ (n ∷ [])) back (length front) (constant false) lt
    ∙ get_or-meanings_push formula_at front n (constant false)
    ∙ at_before (formulas_of front) (formulas_of (front ++ (n ∷ back))) n (length front) le
    (λ i below. sym (get_or-meanings formula_at front (n ∷ back) i (constant false) below))

pub formula_step : (nodes : List FormulaNode) (place : ℕ) → place < length nodes → reach (node_in nodes place) ≤ place
    → formula_in nodes place ≡ formula_at (formulas_of nodes) (node_in nodes place)
formula_step nodes place lt le =
    let front = take place nodes in
    let n = node_in nodes place in
    let l : length front ≡ place = length-take-le place nodes (omega (arith, lt)) in
    let e : front ++ (n ∷ drop (suc place) nodes) ≡ nodes =
    ap (λ ns. front ++ ns) (sym (drop-cons nodes place (parts.Constant false) lt)) ∙ take-append-drop place nodes in
    let h = formula_seam front (drop (suc place) nodes) n (omega (arith, l, le)) in
    subst (λ ns. formula_in ns place ≡ formula_at (formulas_of ns) n) e
    (subst (λ k. formula_in (front ++ (n ∷ drop (suc place) nodes)) k ≡ formula_at (formulas_of (front ++ (n ∷ drop (suc place) nodes))) n) l h)
