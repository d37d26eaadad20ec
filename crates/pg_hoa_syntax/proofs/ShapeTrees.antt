-- The conditions that the finder of shapes tells apart, and the operations that they are computed by.
use Rattle.pg_hoa_syntax.proofs.Common.{◌≡◌, ℕ, Bool, true, false, cond, List, [], ◌∷◌, ◌++◌, refl, sym, ap, ◌∙◌, ◌⊎◌, inl, inr, append_assoc}
use Rattle.pg_hoa_syntax.proofs.Common.{arith, nat_tests, Op, Yes, No, Proposition, Inf, Fin, Not, Both, Either, Formula, yes, no, proposition}
use Rattle.pg_hoa_syntax.proofs.Common.{inf, fin, not, both, either, bracket, postfix, limit_op, leaf, decides, bare, IsLike}
use Rattle.pg_hoa_syntax.proofs.ShapeSteps.{join_op}

-- ---- operations have one tree, up to brackets

abbrev applied : Op → List Formula → List Formula
applied Yes trees = yes ∷ trees
applied No trees = no ∷ trees
applied (Proposition a) trees = proposition a ∷ trees
applied (Inf s) trees = inf s ∷ trees
applied (Fin s) trees = fin s ∷ trees
applied Not (f ∷ trees) = not f ∷ trees
applied Both (g ∷ f ∷ trees) = both f g ∷ trees
applied Either (g ∷ f ∷ trees) = either f g ∷ trees
applied op trees = []

abbrev built : List Op → List Formula → List Formula
built [] trees = trees
built (op ∷ ops) trees = built ops (applied op trees)

built_again : (f : Formula) (ops : List Op) (trees : List Formula) → built (postfix f ++ ops) trees ≡ built ops (bare f ∷ trees)
built_again yes ops trees = refl
built_again no ops trees = refl
built_again (proposition a) ops trees = refl
built_again (inf s) ops trees = refl
built_again (fin s) ops trees = refl
built_again (not f) ops trees = rw (append_assoc (postfix f) (Not ∷ []) ops, built_again f (Not ∷ ops) trees) refl
built_again (both f g) ops trees = rw (
  append_assoc (postfix f) (postfix g ++ (Both ∷ [])) ops,
  append_assoc (postfix g) (Both ∷ []) ops,
  built_again f (postfix g ++ (Both ∷ ops)) trees,
  built_again g (Both ∷ ops) (bare f ∷ trees),
) refl
built_again (either f g) ops trees = rw (
  append_assoc (postfix f) (postfix g ++ (Either ∷ [])) ops,
  append_assoc (postfix g) (Either ∷ []) ops,
  built_again f (postfix g ++ (Either ∷ ops)) trees,
  built_again g (Either ∷ ops) (bare f ∷ trees),
) refl
built_again (bracket f) ops trees = built_again f ops trees

pub one_tree : (f g : Formula) → postfix f ≡ postfix g → bare f ≡ bare g
one_tree f g e =
    let same : bare f ∷ [] ≡ bare g ∷ [] = sym (built_again f [] []) ∙ ap (λ (ops : List Op). built (ops ++ []) []) e
    ∙ built_again g [] [] in
    cc

pub bare_postfix : (f : Formula) → postfix (bare f) ≡ postfix f
bare_postfix yes = refl
bare_postfix no = refl
bare_postfix (proposition a) = refl
bare_postfix (inf s) = refl
bare_postfix (fin s) = refl
bare_postfix (not f) = rw (bare_postfix f) refl
bare_postfix (both f g) = rw (bare_postfix f, bare_postfix g) refl
bare_postfix (either f g) = rw (bare_postfix f, bare_postfix g) refl
bare_postfix (bracket f) = bare_postfix f

-- ---- a leaf joined with the rest

abbrev pub joined : Bool → Formula → Formula → Formula
joined wanted f g = cond wanted (either f g) (both f g)

pub postfix_leaf : (wanted : Bool) (set : ℕ) → postfix (leaf wanted set) ≡ limit_op wanted set ∷ []
postfix_leaf true set = refl
postfix_leaf false set = refl

pub postfix_joined : (wanted : Bool) (f g : Formula) → postfix (joined wanted f g) ≡ postfix f ++ (postfix g ++ (join_op wanted ∷ []))
postfix_joined true f g = refl
postfix_joined false f g = refl

pub bare_leaf : (wanted : Bool) (set : ℕ) → bare (leaf wanted set) ≡ leaf wanted set
bare_leaf true set = refl
bare_leaf false set = refl

pub bare_joined : (wanted : Bool) (f g : Formula) → bare f ≡ f → bare g ≡ g → bare (joined wanted f g) ≡ joined wanted f g
bare_joined true f g d e = rw (d, e) refl
bare_joined false f g d e = rw (d, e) refl

pub like_leaf : (wanted : Bool) (set : ℕ) → IsLike (leaf wanted set) (leaf wanted set)
like_leaf true set = refl
like_leaf false set = refl

pub like_leaf_is : (wanted : Bool) (set : ℕ) (f : Formula) → IsLike (leaf wanted set) f → f ≡ leaf wanted set
like_leaf_is true set f l = l
like_leaf_is false set f l = l

pub like_before : (wanted : Bool) (set : ℕ) (others f : Formula) → IsLike others f
    → IsLike (decides wanted set others) (joined wanted (leaf wanted set) f)
like_before true set others f l = (inf set, f, refl, inl (refl, l))
like_before false set others f l = (fin set, f, refl, inl (refl, l))

pub like_behind : (wanted : Bool) (set : ℕ) (others f : Formula) → IsLike others f
    → IsLike (decides wanted set others) (joined wanted f (leaf wanted set))
like_behind true set others f l = (f, inf set, refl, inr (refl, l))
like_behind false set others f l = (f, fin set, refl, inr (refl, l))

-- the leaf stands before the rest or behind it
pub record Joins (wanted : Bool) (set : ℕ) (others h f : Formula) : Type 0 where
  pub like : IsLike others f
  pub where_is : (h ≡ joined wanted (leaf wanted set) f) ⊎ (h ≡ joined wanted f (leaf wanted set))

pub like_parts : (wanted : Bool) (set : ℕ) (others h : Formula) → IsLike (decides wanted set others) h
    → (f : Formula) × Joins wanted set others h f
like_parts true set others h l = grind (arith, nat_tests)
like_parts false set others h l = grind (arith, nat_tests)
