-- The operations of a nested condition nest, and what nests is one.
use Rattle.pg_hoa_syntax.proofs.Common.{◌≡◌, ℕ, suc, zero, ◌<◌, ◌≤◌, Bool, true, false, cond, List, [], ◌∷◌, ◌++◌, Option, Some, None, refl}
use Rattle.pg_hoa_syntax.proofs.Common.{sym, ap, ◌∙◌, ◌⊎◌, inl, inr, arith, append_assoc, nat_tests, Op, Formula, postfix, limit_op, leaf}
use Rattle.pg_hoa_syntax.proofs.Common.{decides, bare, IsLike, is_leaf, is_join, last_op, leaf_last, without_leaf, inner_at, only_leaf, passes}
use Rattle.pg_hoa_syntax.proofs.Common.{nests_at, nested, chosen, some, some_is, none, none_is_some}
use Rattle.pg_hoa_syntax.proofs.Steps.{bind_some}
use Rattle.pg_hoa_syntax.proofs.ShapeSteps.{join_op, last_parts, leaf_is, leaf_again, leaf_other, join_is, join_again, leaf_first, takes_behind}
use Rattle.pg_hoa_syntax.proofs.ShapeSteps.{takes_before, inner_is}
use Rattle.pg_hoa_syntax.proofs.ShapeTrees.{joined, postfix_leaf, postfix_joined, bare_leaf, bare_joined, like_leaf, like_leaf_is, like_before}
use Rattle.pg_hoa_syntax.proofs.ShapeTrees.{like_behind, like_parts}

-- ---- what nests is such a condition

-- what stands inside, and where the leaf stands
pub record Parts (wanted : Bool) (set : ℕ) (ops inner : List Op) : Type 0 where
  pub where_is : (ops ≡ limit_op wanted set ∷ (inner ++ (join_op wanted ∷ []))) ⊎
      (ops ≡ inner ++ (limit_op wanted set ∷ join_op wanted ∷ []))

pub operands_parts : (wanted : Bool) (set : ℕ) (operands inner : List Op) → without_leaf wanted set operands ≡ Some inner
    → (operands ≡ limit_op wanted set ∷ inner) ⊎ (operands ≡ inner ++ (limit_op wanted set ∷ []))
unfolding without_leaf
operands_parts wanted set [] inner e = absurd (none_is_some inner e)
operands_parts wanted set (op ∷ ops) inner e =
    elim (chosen (is_leaf wanted set op) (some ops) (leaf_last wanted set (op ∷ ops)) (some inner) e) [
      | inl p ↦ inl (ap (λ (o : Op). o ∷ ops) (leaf_is wanted set op p.0) ∙ ap (λ (l : List Op). limit_op wanted set ∷ l)
          (some_is ops inner p.1))
      | inr p ↦
          let b = bind_some (last_op (op ∷ ops)) (λ x. cond (is_leaf wanted set x.1) (some x.0) none) inner p.1 in
          elim (chosen (is_leaf wanted set b.0.1) (some b.0.0) none (some inner) b.2) [
            | inl q ↦ inr (last_parts (op ∷ ops) b.0.0 b.0.1 b.1 ∙ ap (λ (l : List Op). l ++ (b.0.1 ∷ [])) (some_is b.0.0 inner q.1)
                ∙ ap (λ (o : Op). inner ++ (o ∷ [])) (leaf_is wanted set b.0.1 q.0))
            | inr q ↦ absurd (none_is_some inner q.1)
          ]
    ]

pub inner_parts : (wanted : Bool) (set : ℕ) (ops inner : List Op) → inner_at wanted set ops ≡ Some inner → Parts wanted set ops inner
unfolding inner_at
inner_parts wanted set ops inner e =
    let b = bind_some (last_op ops) (λ x. cond (is_join wanted x.1) (without_leaf wanted set x.0) none) inner e in
    elim (chosen (is_join wanted b.0.1) (without_leaf wanted set b.0.0) none (some inner) b.2) [
      | inl p ↦
          let whole : ops ≡ b.0.0 ++ (join_op wanted ∷ []) = last_parts ops b.0.0 b.0.1 b.1
          ∙ ap (λ (o : Op). b.0.0 ++ (o ∷ [])) (join_is wanted b.0.1 p.0) in
          elim (operands_parts wanted set b.0.0 inner p.1) [
            | inl q ↦ record { where_is = inl (whole ∙ ap (λ (l : List Op). l ++ (join_op wanted ∷ [])) q) }
            | inr q ↦ record {
              where_is = inr (whole ∙ ap (λ (l : List Op). l ++ (join_op wanted ∷ [])) q ∙ append_assoc inner
                  (limit_op wanted set ∷ []) (join_op wanted ∷ []));
            }
          ]
      | inr p ↦ absurd (none_is_some inner p.1)
    ]

only_is : (wanted : Bool) (set : ℕ) (ops : List Op) → only_leaf wanted set ops ≡ true → ops ≡ limit_op wanted set ∷ []
only_is wanted set [] e = absurd cc
only_is wanted set (op ∷ []) e = ap (λ (o : Op). o ∷ []) (leaf_is wanted set op e)
only_is wanted set (op ∷ more ∷ ops) e = absurd cc

passed : (test : List Op → Bool) (found : Option (List Op)) → passes test found ≡ true
    → (ops : List Op) × (found ≡ Some ops) × (test ops ≡ true)
passed test None e = absurd cc
passed test (Some ops) e = (ops, refl, e)

-- a condition without brackets that these operations compute
pub record IsTreeOf (form : Formula) (ops : List Op) (f : Formula) : Type 0 where
  pub ops_are : postfix f ≡ ops
  pub like : IsLike form f
  pub no_bracket : bare f ≡ f

tree_before : (wanted : Bool) (set : ℕ) (others f : Formula) (ops inner : List Op) → IsTreeOf others inner f
    → ops ≡ limit_op wanted set ∷ (inner ++ (join_op wanted ∷ []))
    → IsTreeOf (decides wanted set others) ops (joined wanted (leaf wanted set) f)
tree_before wanted set others f ops inner t e = grind (
  arith,
  nat_tests,
  postfix_joined wanted (leaf wanted set) f,
  join_op wanted,
  postfix_leaf wanted set,
  like_before wanted set others f t.like,
  bare_joined wanted (leaf wanted set) f
      (bare_leaf wanted set) t.no_bracket,
)

tree_behind : (wanted : Bool) (set : ℕ) (others f : Formula) (ops inner : List Op) → IsTreeOf others inner f
    → ops ≡ inner ++ (limit_op wanted set ∷ join_op wanted ∷ [])
    → IsTreeOf (decides wanted set others) ops (joined wanted f (leaf wanted set))
tree_behind wanted set others f ops inner t e = grind (
  arith,
  nat_tests,
  postfix_joined wanted f (leaf wanted set),
  join_op wanted,
  postfix_leaf wanted set,
  like_behind wanted set others f t.like,
  bare_joined wanted f (leaf wanted set) t.no_bracket
      (bare_leaf wanted set),
)

pub nests_tree : (set : ℕ → ℕ) (wanted : ℕ → Bool) (inside : ℕ) (ops : List Op) → nests_at set wanted inside ops ≡ true
    → (f : Formula) × IsTreeOf (nested set wanted inside) ops f
unfolding nests_at
nests_tree set wanted zero ops e = (
  leaf (wanted 0) (set 0),
  record {
    ops_are = postfix_leaf (wanted 0) (set 0) ∙ sym (only_is (wanted 0) (set 0) ops e);
    like = like_leaf
        (wanted 0) (set 0);
    no_bracket = bare_leaf (wanted 0) (set 0);
  },
)
nests_tree set wanted (suc inside) ops e =
    let p = passed (nests_at set wanted inside) (inner_at (wanted (suc inside)) (set (suc inside)) ops) e in
    let t = nests_tree set wanted inside p.0 p.2 in
    elim ((inner_parts (wanted (suc inside)) (set (suc inside)) ops p.0 p.1).where_is) [
      | inl q ↦ (
        joined (wanted (suc inside)) (leaf (wanted (suc inside)) (set (suc inside))) t.0,
        tree_before (wanted (suc inside)) (set (suc inside)) (nested set wanted inside) t.0 ops p.0 t.1 q,
      )
      | inr q ↦ (
        joined (wanted (suc inside)) t.0 (leaf (wanted (suc inside)) (set (suc inside))),
        tree_behind (wanted (suc inside)) (set (suc inside)) (nested set wanted inside) t.0 ops p.0 t.1 q,
      )
    ]

-- ---- such a condition nests

-- another set's leaf does not stand at the front
pub first_other : (set : ℕ → ℕ) (wanted : ℕ → Bool) (inside : ℕ) (h : Formula) (good : Bool) (s : ℕ) (more : List Op)
    → IsLike (nested set wanted inside) h → ((i : ℕ) → i ≤ inside → set i ≡ s → ⊥) → leaf_first good s (postfix h ++ more) ≡ false
first_other set wanted zero h good s more l differ =
    ap (λ (g : Formula). leaf_first good s (postfix g ++ more)) (like_leaf_is (wanted 0) (set 0) h l)
    ∙ ap (λ (ops : List Op). leaf_first good s (ops ++ more)) (postfix_leaf (wanted 0) (set 0))
    ∙ leaf_other good (wanted 0) s (set 0) (differ 0 (omega arith))
first_other set wanted (suc inside) h good s more l differ =
    let w = wanted (suc inside) in
    let k = set (suc inside) in
    let p = like_parts w k (nested set wanted inside) h l in
    elim (p.1.where_is) [
      | inl e ↦ ap (λ (g : Formula). leaf_first good s (postfix g ++ more)) e
          ∙ ap (λ (ops : List Op). leaf_first good s (ops ++ more)) (postfix_joined w (leaf w k) p.0 ∙ ap
          (λ (ops : List Op). ops ++ (postfix p.0 ++ (join_op w ∷ []))) (postfix_leaf w k))
          ∙ leaf_other good w s k (differ (suc inside) (omega arith))
      | inr e ↦ ap (λ (g : Formula). leaf_first good s (postfix g ++ more)) e
          ∙ ap (λ (ops : List Op). leaf_first good s (ops ++ more)) (postfix_joined w p.0 (leaf w k))
          ∙ ap (leaf_first good s) (append_assoc (postfix p.0) (postfix (leaf w k) ++ (join_op w ∷ [])) more)
          ∙ first_other set wanted inside p.0 good s ((postfix (leaf w k) ++ (join_op w ∷ [])) ++ more) p.1.like
          (λ i h. differ i (omega arith))
    ]

inner_before : (wanted : Bool) (set : ℕ) (f : Formula)
    → inner_at wanted set (postfix (joined wanted (leaf wanted set) f)) ≡ Some (postfix f)
inner_before wanted set f = grind (
  arith,
  nat_tests,
  postfix_joined wanted (leaf wanted set) f,
  join_op wanted,
  postfix_leaf wanted set,
  inner_is wanted set (limit_op wanted set ∷ postfix f) (join_op wanted) (join_again wanted),
  takes_behind wanted set (limit_op wanted set) (postfix f) (leaf_again wanted set),
)

inner_behind : (wanted : Bool) (set : ℕ) (f : Formula) → leaf_first wanted set (postfix f ++ (limit_op wanted set ∷ [])) ≡ false
    → inner_at wanted set (postfix (joined wanted f (leaf wanted set))) ≡ Some (postfix f)
inner_behind wanted set f other = grind (
  arith,
  nat_tests,
  postfix_joined wanted f (leaf wanted set),
  join_op wanted,
  postfix_leaf wanted set,
  append_assoc (postfix f) (limit_op wanted set ∷ []) (join_op wanted ∷ []),
  inner_is wanted set (postfix f ++ (limit_op wanted set ∷ [])) (join_op wanted) (join_again wanted),
  takes_before wanted set (postfix f) (limit_op wanted set) other (leaf_again wanted set),
)

-- the sets differ, from the innermost up to the outermost
pub record AllDiffer (set : ℕ → ℕ) (outermost : ℕ) : Type 0 where
  pub differ : (i j : ℕ) → i < j → j ≤ outermost → set i ≡ set j → ⊥

pub tree_nests : (set : ℕ → ℕ) (wanted : ℕ → Bool) (outermost inside : ℕ) (h : Formula) → AllDiffer set outermost → inside ≤ outermost
    → IsLike (nested set wanted inside) h → nests_at set wanted inside (postfix h) ≡ true
unfolding nests_at
tree_nests set wanted outermost zero h apart below l =
    ap (λ (g : Formula). only_leaf (wanted 0) (set 0) (postfix g)) (like_leaf_is (wanted 0) (set 0) h l)
    ∙ ap (only_leaf (wanted 0) (set 0)) (postfix_leaf (wanted 0) (set 0)) ∙ leaf_again (wanted 0) (set 0)
tree_nests set wanted outermost (suc inside) h apart below l =
    let w = wanted (suc inside) in
    let k = set (suc inside) in
    let p = like_parts w k (nested set wanted inside) h l in
    let other =
    first_other set wanted inside p.0 w k (limit_op w k ∷ []) p.1.like (λ i le. apart.differ i (suc inside) (omega arith) below) in
    let rest : nests_at set wanted inside (postfix p.0) ≡ true = tree_nests set wanted outermost inside p.0 apart (omega arith) p.1.like in
    let test = passes (nests_at set wanted inside) in
    elim (p.1.where_is) [
      | inl e ↦ ap (λ (g : Formula). test (inner_at w k (postfix g))) e ∙ ap test (inner_before w k p.0) ∙ rest
      | inr e ↦ ap (λ (g : Formula). test (inner_at w k (postfix g))) e ∙ ap test (inner_behind w k p.0 other) ∙ rest
    ]
