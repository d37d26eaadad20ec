-- What headers say that stand at most once.
use Rattle.pg_hoa_syntax.proofs.Common.{◌≡◌, ◌∙◌, ℕ, List, [], ◌∷◌, map, Option, Some, None, refl, ap, subst, arith, nat_tests, IfSome}
use Rattle.pg_hoa_syntax.proofs.Common.{flat_map, AllByRecursion, append-nil, length-map, Op, Shape, Character, Formula, postfix, HasShape}
use Rattle.pg_hoa_syntax.proofs.Common.{IsPropositionName, StateLine, AtMostOne, character_code, count_of, line_numbers, kept_of_line, noted}
use Rattle.pg_hoa_syntax.proofs.Common.{listed, states_in}
use Rattle.pg_hoa_syntax.proofs.HeaderParts.{option_list}
use Rattle.pg_hoa_syntax.proofs.ShapeTrees.{one_tree}
use Rattle.pg_hoa_syntax.proofs.KeptEdges.{count_named_is}

option_once : {A : Type 0} (o : Option A) → AtMostOne (option_list o)
option_once None = omega arith
option_once (Some x) = omega arith

pub once : {A : Type 0} (o : Option A) (xs : List A) → option_list o ≡ xs → AtMostOne xs
once o xs e = subst AtMostOne e (option_once o)

pub mapped_once : {A B : Type 0} (f : A → B) (o : Option B) (xs : List A) → option_list o ≡ map f xs → AtMostOne xs
mapped_once f o xs e = omega (arith, once o (map f xs) e, length-map xs f)

-- ---- states

counted_in : (states : Option ℕ) (start : ℕ) (lines : List StateLine)
    → states_in states start (map kept_of_line lines) ≡ count_of (option_list states) (start ∷ flat_map line_numbers lines)
counted_in None start lines = count_named_is start lines
counted_in (Some n) start lines = refl

pub states_are : (states : Option ℕ) (counts : List ℕ) (start : ℕ) (lines : List StateLine) → option_list states ≡ counts
    → states_in states start (map kept_of_line lines) ≡ count_of counts (start ∷ flat_map line_numbers lines)
states_are states counts start lines e = counted_in states start lines
    ∙ ap (λ (ns : List ℕ). count_of ns (start ∷ flat_map line_numbers lines)) e

-- ---- propositions

pub names_are : (o : Option (List (List ℕ))) (lists : List (List (List Character))) → option_list o ≡ map (map (map character_code)) lists
    → listed o ≡ map (map character_code) (flat_map (λ x. x) lists)
names_are None [] e = refl
names_are None (ns ∷ lists) e = absurd cc
names_are (Some names) [] e = absurd cc
names_are (Some names) (ns ∷ []) e = let same : names ≡ map (map character_code) ns = cc in rw (append-nil ns) same
names_are (Some names) (ns ∷ ms ∷ lists) e = absurd cc

pub good_names : (o : Option (List (List ℕ))) → IfSome o (λ ns. AllByRecursion IsPropositionName ns)
    → AllByRecursion IsPropositionName (listed o)
good_names None good = tt
good_names (Some names) good = good

pub controls_are : (o : Option (List ℕ)) (lists : List (List ℕ)) → option_list o ≡ map noted lists
    → listed o ≡ noted (flat_map (λ x. x) lists)
controls_are None [] e = refl
controls_are None (ns ∷ lists) e = absurd cc
controls_are (Some kept) [] e = absurd cc
controls_are (Some kept) (ns ∷ []) e = let same : kept ≡ noted ns = cc in rw (append-nil ns) same
controls_are (Some kept) (ns ∷ ms ∷ lists) e = absurd cc

-- ---- the condition

-- the one condition that is written, and one with the same operations
pub record OneCondition (conditions : List (ℕ × Formula)) (sets : ℕ) (f : Formula) : Type 0 where
  pub condition : Formula
  pub is : conditions ≡ (sets, condition) ∷ []
  pub alike : postfix f ≡ postfix condition

pub one_condition : (conditions : List (ℕ × Formula)) (sets : ℕ) (f : Formula)
    → (sets, postfix f) ∷ [] ≡ map {B = ℕ × List Op} (λ x. (x.0, postfix x.1)) conditions → OneCondition conditions sets f
one_condition [] sets f e = absurd cc
one_condition (x ∷ []) sets f e = grind (arith, nat_tests)
one_condition (x ∷ y ∷ conditions) sets f e = absurd cc

-- a shape is told by the operations
pub shape_alike : (f g : Formula) (sets : ℕ) (shape : Shape) → postfix f ≡ postfix g → HasShape f sets shape → HasShape g sets shape
shape_alike f g sets shape e has = grind (arith, nat_tests, one_tree f g e)
