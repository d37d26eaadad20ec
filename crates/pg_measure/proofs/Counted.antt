-- The bounds of a game, from a table of how many vertices have each priority.
use Rattle.pg_measure.proofs.Common.{◌≡◌, ◌≢◌, ℕ, zero, suc, ◌+◌, ◌-◌, ◌%◌, ◌<◌, ◌≤◌, true, false, cond, List, [], ◌∷◌, ◌++◌, length}
use Rattle.pg_measure.proofs.Common.{get_or, take, set, ◌⊎◌, AllPairs, All, Contains, refl, ap, sym, ◌∙◌, inl, inr, arith, length-append}
use Rattle.pg_measure.proofs.Common.{◌==◌, common_steps, cases_lt, cases_eq, nat_tests, get_or_default, get_or-set_same, get_or-set_other}
use Rattle.pg_measure.proofs.Common.{get_or_append_left, all_pairs_push, sum_by-cons, count_by_more_no, count_by_more_yes}
use Rattle.pg_measure.proofs.Common.{count_by-le-length, GameVertex, HasPrioritiesUpTo, priority, dual, dual_vertex, nowhere, length_dual}
use Rattle.pg_measure.proofs.Common.{priority_dual, BoundList, AreBounds, vertices_of, IsBoundsOf, IsCount}

differs : (i p : ℕ) → i ≢ p → (i == p) ≡ false
differs i p e = grind (arith, nat_tests)

get_or_last : (xs : BoundList) (y d : ℕ × ℕ) → get_or (xs ++ y ∷ []) (length xs) d ≡ y
get_or_last [] y d = refl
get_or_last (x ∷ xs) y d = get_or_last xs y d

-- a pair of an odd priority from p on
pub record IsCounted (counts : List ℕ) (p : ℕ) (b : ℕ × ℕ) : Type 0 where
  pub from : p ≤ b.0
  pub below : b.0 < length counts
  pub odd : b.0 % 2 ≡ 1
  pub number : b.1 ≡ get_or counts b.0 0
  pub some : 0 < b.1

-- the pairs of the odd priorities from p on that are counted, falling
pub record CountedFrom (counts : List ℕ) (p : ℕ) (pairs : BoundList) : Type 0 where
  pub falling : AllPairs (λ b c. c.0 < b.0) pairs
  pub sound : (k : ℕ) (d : ℕ × ℕ) → k < length pairs → IsCounted counts p (get_or pairs k d)
  pub whole : (q : ℕ) → p ≤ q → q < length counts → q % 2 ≡ 1 → 0 < get_or counts q 0 → Contains pairs (q, get_or counts q 0)

-- where no priority reaches p no vertex has it
pub none_of : (game : List GameVertex) (n p : ℕ) → n ≤ p → ((v : ℕ) → v < length game → priority game v < n) → vertices_of game p ≡ 0
none_of [] n p l h = refl
none_of (x ∷ game) n p l h =
    let here : x.priority < n = h zero (omega arith) in
    let differ : (x.priority == p) ≡ false = differs x.priority p (omega arith) in
    rw (sum_by-cons, differ) (let k = none_of game n p l (λ v m. h (suc v) (omega arith)) in omega arith)

equal_yes : (i p : ℕ) → i ≡ p → (i == p) ≡ true
equal_yes i p e = grind (arith, nat_tests)

raised_equal : (i p : ℕ) → (i + 1 == suc p) ≡ (i == p)
raised_equal i p = elim (cases_eq i p) [
  | inl e ↦ (let up : i + 1 ≡ suc p = omega arith in equal_yes (i + 1) (suc p) up ∙ sym (equal_yes i p e))
  | inr ne ↦ (let up : i + 1 ≢ suc p = omega arith in differs (i + 1) (suc p) up ∙ sym (differs i p ne))
]

counted_at : (game : List GameVertex) (counts : List ℕ) (i q n p : ℕ) → i < length game → q ≡ priority game i
    → ((p : ℕ) → p < length counts → get_or counts p 0 ≡ vertices_of (take i game) p) → q < length counts → n ≡ get_or counts q n
    → p < length counts → (p ≡ q) ⊎ (p ≢ q) → get_or (set counts q (n + 1)) p 0 ≡ vertices_of (take (i + 1) game) p
counted_at game counts i q n p l e h m d k (inl s) =
    let now : n ≡ vertices_of (take i game) q = d ∙ (get_or_default counts q n 0 m ∙ h q m) in
    let more : vertices_of (take (i + 1) game) q ≡ vertices_of (take i game) q + 1 =
    count_by_more_yes (λ (x : GameVertex). x.priority == q) game i nowhere l (equal_yes (priority game i) q (sym e)) in
    rw s (get_or-set_same counts q (n + 1) 0 m ∙ (ap (λ t. t + 1) now ∙ sym more))
counted_at game counts i q n p l e h m d k (inr ne) =
    let more : vertices_of (take (i + 1) game) p ≡ vertices_of (take i game) p =
    count_by_more_no (λ (x : GameVertex). x.priority == p) game i nowhere l (differs (priority game i) p (omega arith)) in
    get_or-set_other counts q p (n + 1) 0 ne ∙ (h p k ∙ sym more)

-- one more vertex is counted
pub counted_more : (game : List GameVertex) (counts : List ℕ) (i q n : ℕ) → i < length game → q ≡ priority game i
    → ((p : ℕ) → p < length counts → get_or counts p 0 ≡ vertices_of (take i game) p) → q < length counts → n ≡ get_or counts q n → (p : ℕ)
    → p < length counts → get_or (set counts q (n + 1)) p 0 ≡ vertices_of (take (i + 1) game) p
counted_more game counts i q n l e h m d p k = counted_at game counts i q n p l e h m d k (cases_eq p q)

pub counted_none : (counts : List ℕ) → CountedFrom counts (length counts) []
counted_none counts = record {
  falling = λ i j d l m. absurd (omega arith);
  sound = λ k d l. absurd (omega arith);
  whole = λ q l m o s. absurd (omega arith);
}

same_counted : (counts : List ℕ) (p : ℕ) (a b : ℕ × ℕ) → a ≡ b → IsCounted counts p b → IsCounted counts p a
same_counted counts p a b e h = rw e h

from_less : (counts : List ℕ) (p : ℕ) (b : ℕ × ℕ) → IsCounted counts (p + 1) b → IsCounted counts p b
from_less counts p b h = record { from = (let k = h.from in omega arith); below = h.below; odd = h.odd; number = h.number; some = h.some }

pushed_at : (counts : List ℕ) (p : ℕ) (pairs : BoundList) (y : ℕ × ℕ) (k : ℕ) (d : ℕ × ℕ)
    → ((k : ℕ) (d : ℕ × ℕ) → k < length pairs → IsCounted counts (p + 1) (get_or pairs k d)) → IsCounted counts p y
    → (k < length pairs) ⊎ (length pairs ≤ k) → k < length (pairs ++ y ∷ []) → IsCounted counts p (get_or (pairs ++ y ∷ []) k d)
pushed_at counts p pairs y k d h c (inl l) m = same_counted counts p (get_or (pairs ++ y ∷ []) k d) (get_or pairs k d)
    (get_or_append_left pairs (y ∷ []) d k l) (from_less counts p (get_or pairs k d) (h k d l))
pushed_at counts p pairs y k d h c (inr l) m =
    let size : length (pairs ++ y ∷ []) ≡ length pairs + 1 = length-append pairs (y ∷ []) in
    let e : k ≡ length pairs = omega arith in
    same_counted counts p (get_or (pairs ++ y ∷ []) k d) y (rw e (get_or_last pairs y d)) c

kept_in : (pairs : BoundList) (y b : ℕ × ℕ) → Contains pairs b → Contains (pairs ++ y ∷ []) b
kept_in pairs y b h =
    let l : h.0 < length pairs = h.1 in
    let size : length (pairs ++ y ∷ []) ≡ length pairs + 1 = length-append pairs (y ∷ []) in
    (h.0, omega arith, get_or_append_left pairs (y ∷ []) b h.0 l ∙ h.2)

last_in : (pairs : BoundList) (y : ℕ × ℕ) → Contains (pairs ++ y ∷ []) y
last_in pairs y =
    let size : length (pairs ++ y ∷ []) ≡ length pairs + 1 = length-append pairs (y ∷ []) in
    (length pairs, omega arith, get_or_last pairs y y)

whole_push : (counts : List ℕ) (p : ℕ) (pairs : BoundList) (n q : ℕ) → n ≡ get_or counts p 0 → CountedFrom counts (p + 1) pairs
    → (q ≡ p) ⊎ (q ≢ p) → p ≤ q → q < length counts → q % 2 ≡ 1 → 0 < get_or counts q 0
    → Contains (pairs ++ (p, n) ∷ []) (q, get_or counts q 0)
whole_push counts p pairs n q e h (inl s) l m o z = rw (s, ← e) (last_in pairs (p, n))
whole_push counts p pairs n q e h (inr ne) l m o z = kept_in pairs (p, n) (q, get_or counts q 0) (h.whole q (omega arith) m o z)

-- an odd priority that occurs is taken
pub counted_push : (counts : List ℕ) (p : ℕ) (pairs : BoundList) (n : ℕ) → p < length counts → n ≡ get_or counts p 0 → p % 2 ≡ 1 → 0 < n
    → CountedFrom counts (p + 1) pairs → CountedFrom counts p (pairs ++ (p, n) ∷ [])
counted_push counts p pairs n l e o z h = record {
  falling = all_pairs_push (λ (b c : ℕ × ℕ). c.0 < b.0) pairs (p, n) h.falling (λ k d m. let f = (h.sound k d m).from in omega arith);
  sound = λ k d m. pushed_at counts p pairs (p, n) k d h.sound record { from = omega arith; below = l; odd = o; number = e; some = z }
      (cases_lt k (length pairs)) m;
  whole = λ q a b c d. whole_push counts p pairs n q e h (cases_eq q p) a b c d;
}

whole_skip : (counts : List ℕ) (p : ℕ) (pairs : BoundList) (q : ℕ) → (p % 2 ≡ 1 → 0 < get_or counts p 0 → ⊥)
    → CountedFrom counts (p + 1) pairs → (q ≡ p) ⊎ (q ≢ p) → p ≤ q → q < length counts → q % 2 ≡ 1 → 0 < get_or counts q 0
    → Contains pairs (q, get_or counts q 0)
whole_skip counts p pairs q none h (inl s) l m o z = absurd (none (rw s at o) (rw s at z))
whole_skip counts p pairs q none h (inr ne) l m o z = h.whole q (omega arith) m o z

-- another is left
pub counted_skip : (counts : List ℕ) (p : ℕ) (pairs : BoundList) → (p % 2 ≡ 1 → 0 < get_or counts p 0 → ⊥)
    → CountedFrom counts (p + 1) pairs → CountedFrom counts p pairs
counted_skip counts p pairs none h = record {
  falling = h.falling;
  sound = λ k d m. from_less counts p (get_or pairs k d) (h.sound k d m);
  whole = λ q a b c d. whole_skip counts p pairs q none h (cases_eq q p) a b c d;
}

pub counted_bounds : (counts : List ℕ) (pairs : BoundList) → CountedFrom counts 0 pairs → AreBounds pairs
counted_bounds counts pairs h = record {
  odd = λ k d l. (h.sound k d l).odd;
  falling = h.falling;
  positive = λ k d l. (h.sound k d l).some;
}

occurs : (game : List GameVertex) (counts : List ℕ) (p : ℕ) → IsCount game counts → 0 < vertices_of game p
    → (p < length counts) ⊎ (length counts ≤ p) → p < length counts
occurs game counts p c z (inl l) = l
occurs game counts p c z (inr l) = let e = none_of game (length counts) p l c.whole in absurd (omega arith)

bound_in : (game : List GameVertex) (counts : List ℕ) (pairs : BoundList) (p n : ℕ) → IsCount game counts → CountedFrom counts 0 pairs
    → p % 2 ≡ 1 → 0 < n → n ≡ vertices_of game p → Contains pairs (p, n)
bound_in game counts pairs p n c h o z e =
    let some : 0 < vertices_of game p = omega arith in
    let l : p < length counts = occurs game counts p c some (cases_lt p (length counts)) in
    let k : get_or counts p 0 ≡ n = c.each p l ∙ sym e in
    let some' : 0 < get_or counts p 0 = omega arith in
    rw k at (h.whole p (omega arith) l o some')

in_counted : (game : List GameVertex) (counts : List ℕ) (pairs : BoundList) (p n : ℕ) → IsCount game counts → CountedFrom counts 0 pairs
    → Contains pairs (p, n) → (p % 2 ≡ 1) × (0 < n) × (n ≡ vertices_of game p)
in_counted game counts pairs p n c h i =
    let b : IsCounted counts 0 (p, n) = same_counted counts 0 (p, n) (get_or pairs i.0 (p, n)) (sym i.2) (h.sound i.0 (p, n) i.1) in
    (b.odd, b.some, b.number ∙ c.each p b.below)

pub counted_is : (game : List GameVertex) (counts : List ℕ) (pairs : BoundList) → IsCount game counts → CountedFrom counts 0 pairs → IsBoundsOf game pairs
counted_is game counts pairs c h = record {
  falling = h.falling;
  exact = λ p n. (in_counted game counts pairs p n c h, λ (o, z, e). bound_in game counts pairs p n c h o z e);
}

-- there are no more than the vertices so far
pub counted_at_most : (game : List GameVertex) (counts : List ℕ) (i q n : ℕ)
    → ((p : ℕ) → p < length counts → get_or counts p 0 ≡ vertices_of (take i game) p) → q < length counts → n ≡ get_or counts q n
    → n ≤ length game
counted_at_most game counts i q n h m d =
    let e : n ≡ vertices_of (take i game) q = d ∙ (get_or_default counts q n 0 m ∙ h q m) in
    let a = count_by-le-length (λ (x : GameVertex). x.priority == q) (take i game) in
    let b : length (take i game) ≤ length game = grind (arith, common_steps) in
    omega arith

odd_gap : (c b : ℕ) → c < b → c % 2 ≡ 1 → b % 2 ≡ 1 → c ≤ b - 2
odd_gap c b l o p = omega arith

odd_small : (b : ℕ) → b % 2 ≡ 1 → b < 65537 → b ≤ 65535
odd_small b o l = omega arith

few_more : (n b p : ℕ) → b ≤ p → b % 2 ≡ 1 → n + n ≤ b - 2 + 1 → suc n + suc n ≤ p + 1
few_more n b p h o i = omega arith

-- odd priorities that fall are at most half of the numbers up to the greatest
few_falling : (bs : BoundList) (p : ℕ) → AllPairs (λ b c. c.0 < b.0) bs → All (λ b. b.0 % 2 ≡ 1) bs → All (λ b. b.0 ≤ p) bs → length bs + length bs ≤ p + 1
few_falling [] p f o h = omega arith
few_falling (b ∷ bs) p f o h =
    let ob : b.0 % 2 ≡ 1 = o 0 b (omega arith) in
    let hb : b.0 ≤ p = h 0 b (omega arith) in
    let below : All (λ c. c.0 ≤ b.0 - 2) bs = λ k d l.
    let lt : (get_or bs k d).0 < b.0 = f 0 (suc k) d (omega arith) (omega arith) in
    let oc : (get_or bs k d).0 % 2 ≡ 1 = o (suc k) d (omega arith) in
    odd_gap (get_or bs k d).0 b.0 lt oc ob in
    let ih = few_falling bs (b.0 - 2) (λ i j d l m. f (suc i) (suc j) d (omega arith) (omega arith)) (λ k d l. o (suc k) d (omega arith)) below in
    few_more (length bs) b.0 p hb ob ih

bound_small : (game : List GameVertex) (bounds : BoundList) → IsBoundsOf game bounds → HasPrioritiesUpTo 65536 game → (k : ℕ) (d : ℕ × ℕ)
    → k < length bounds → ((get_or bounds k d).0 < 65537) ⊎ (65537 ≤ (get_or bounds k d).0) → (get_or bounds k d).0 ≤ 65535
bound_small game bounds i h k d l (inl s) =
    let b = get_or bounds k d in
    let e = (i.exact b.0 b.1).0 (k, l, get_or_default bounds k b d l) in
    let o : b.0 % 2 ≡ 1 = e.0 in
    odd_small b.0 o s
bound_small game bounds i h k d l (inr g) =
    let b = get_or bounds k d in
    let e = (i.exact b.0 b.1).0 (k, l, get_or_default bounds k b d l) in
    let z : 0 < b.1 = e.1 in
    let n : b.1 ≡ vertices_of game b.0 = e.2 in
    let none = none_of game 65537 b.0 g (λ v m. let q = h v nowhere m in omega arith) in
    absurd (omega arith)

pub bounds_are_few : (game : List GameVertex) (bounds : BoundList) → IsBoundsOf game bounds → HasPrioritiesUpTo 65536 game
    → (length bounds ≤ 32768) × All (λ b. b.0 ≤ 65535) bounds
bounds_are_few game bounds i h =
    let small : All (λ b. b.0 ≤ 65535) bounds = λ k d l. bound_small game bounds i h k d l (cases_lt (get_or bounds k d).0 65537) in
    let odd : All (λ b. b.0 % 2 ≡ 1) bounds = λ k d l. (let b = get_or bounds k d in ((i.exact b.0 b.1).0 (k, l, get_or_default bounds k b d l)).0) in
    let few = few_falling bounds 65535 i.falling odd small in
    (omega arith, small)

-- no vertex of a dual has the priority 0, and each other priority has the vertices of the one below it
vertices_dual : (game : List GameVertex) (p : ℕ) → vertices_of (dual game) (suc p) ≡ vertices_of game p
vertices_dual [] p = refl
vertices_dual (x ∷ game) p =
    let h = vertices_dual game p in
    let same : (x.priority + 1 == suc p) ≡ (x.priority == p) = raised_equal x.priority p in
    rw (
      sum_by-cons (λ (y : GameVertex). cond (y.priority == suc p) 1 0) (dual_vertex x) (dual game),
      sum_by-cons (λ (y : GameVertex). cond (y.priority == p) 1 0) x game,
      same,
    ) (omega arith)

none_at_zero : (game : List GameVertex) → vertices_of (dual game) 0 ≡ 0
none_at_zero [] = refl
none_at_zero (x ∷ game) =
    let h = none_at_zero game in
    let differ : (x.priority + 1 == 0) ≡ false = differs (x.priority + 1) 0 (omega arith) in
    rw (sum_by-cons, differ) (omega arith)

-- so the dual's are counted by the same table with a 0 before it
pub counted_dual : (game : List GameVertex) (counts : List ℕ) → IsCount game counts → IsCount (dual game) (0 ∷ counts)
counted_dual game counts c = record { each = each; whole = whole }
  where
    each : (p : ℕ) → p < length (0 ∷ counts) → get_or (0 ∷ counts) p 0 ≡ vertices_of (dual game) p
    each zero l = sym (none_at_zero game)
    each (suc p) l = c.each p (omega arith) ∙ sym (vertices_dual game p)

    whole : (v : ℕ) → v < length (dual game) → priority (dual game) v < length (0 ∷ counts)
    whole v l =
        let lt : v < length game = omega (arith, length_dual game, l) in
        let most = c.whole v lt in
        omega (arith, priority_dual game v lt, most)
