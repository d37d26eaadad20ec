-- A text with a header more spells the same automaton, but for what the controller sets.
use Rattle.pg_hoa.proofs.Common.{◌≡◌, ◌∙◌, ℕ, zero, suc, ◌+◌, ◌-◌, ◌<◌, ◌≤◌, Bool, false, cond, List, [], ◌∷◌, ◌++◌, length, arith, nat_tests, ap, subst}
use Rattle.pg_hoa.proofs.Common.{sym, append-nil, refl, flat_map, filter, get_or, map, list_any, ◌||◌, ◌≢◌, All, ltb, true, filter-append, range_with_len, Automaton}
use Rattle.std.proofs.lemmas.Bool.{ltb-true}
use Rattle.std.proofs.lemmas.Slice.Eq.{bytes_eq-Decides}
use Rattle.std.specs.Str.{bytes_eq}
use Rattle.std.proofs.lemmas.List.Elements.{All-filter}
use Rattle.std.proofs.lemmas.List.FromFn.{get_or-range_with_len, length-range_with_len}
use Rattle.std.specs.Prelude.{codes}
use Rattle.pg_hoa_syntax.specs.Syntax.{Written, IsText, Says, AtMostOne, EachBelow, controls}
use Rattle.pg_hoa_syntax.specs.Headers.{has_header, with_controls}
use Rattle.pg_hoa_syntax.proofs.HeaderNames.{no_controls}
use Rattle.pg_hoa.specs.AutomatonText.{Spelt}
use Rattle.pg_hoa.specs.Outputs.{is_named, outputs, with_outputs}

-- the lists of the headers that say what the controller sets, where one more is written ahead of none
one_list : (ns : List ℕ) (lists : List (List ℕ)) → lists ≡ [] → flat_map (λ x. x) (ns ∷ lists) ≡ ns
one_list ns lists none = rw none (append-nil ns)

one_at_most : (ns : List ℕ) (lists : List (List ℕ)) → lists ≡ [] → AtMostOne (ns ∷ lists)
one_at_most ns lists none = rw none (omega arith)

says_outputs : (w : Written) (a : Automaton) (names : List (List ℕ)) → Says w a → flat_map controls w.headers ≡ []
    → EachBelow (length a.propositions) (outputs names a) → Says (with_controls (outputs names a) w) (with_outputs names a)
says_outputs w a names s none below =
    let ns = outputs names a in
    let one = one_list ns (flat_map controls w.headers) none in
    record {
      counted = s.counted;
      states = s.states;
      start = s.start;
      named = s.named;
      propositions = s.propositions;
      good_names = s.good_names;
      controlled = one_at_most ns (flat_map controls w.headers) none;
      controllable = rw one refl;
      controls_below = subst (λ (l : List ℕ). EachBelow (length a.propositions) l) (sym one) below;
      condition = s.condition;
      accepted = s.accepted;
      shape = s.shape;
      start_below = s.start_below;
      distinct = s.distinct;
      lines = s.lines;
      few_states = s.few_states;
      few_propositions = s.few_propositions;
      few_sets = s.few_sets;
      few_steps = s.few_steps;
    }

pub given_spelt : (bytes text : List ℕ) (names : List (List ℕ)) (a : Automaton) (s : Spelt bytes a)
    → has_header (codes "controllable-AP") s.written ≡ false → EachBelow (length a.propositions) (outputs names a)
    → IsText text (with_controls (outputs names a) s.written) → Spelt text (with_outputs names a)
given_spelt bytes text names a s none below t = record {
  written = with_controls (outputs names a) s.written;
  text = t;
  says = says_outputs s.written a names s.says (no_controls s.written none) below;
  deterministic = s.deterministic;
  leads = s.leads;
  all = s.all;
}

-- ---- the numbers of the outputs

range_more : (a n : ℕ) → range_with_len a (suc n) ≡ range_with_len a n ++ ((a + n) ∷ [])
range_more a zero = let same : a ≡ a + 0 = omega arith in ap (λ (x : ℕ). x ∷ []) same
range_more a (suc n) =
    let same : a + 1 + n ≡ a + suc n = omega arith in
    ap (λ (l : List ℕ). a ∷ l) (range_more (a + 1) n ∙ ap (λ (x : ℕ). range_with_len (a + 1) n ++ (x ∷ [])) same)

-- the numbers below this one that pass
abbrev pub passing : (ℕ → Bool) → ℕ → List ℕ
passing test n = filter test (range_with_len 0 n)

pub passing_more : (test : ℕ → Bool) (n : ℕ) → passing test (n + 1) ≡ passing test n ++ cond (test n) (n ∷ []) []
passing_more test n =
    let on : n + 1 ≡ suc n = omega arith in
    let from_zero : 0 + n ≡ n = omega arith in
    let last : range_with_len 0 (suc n) ≡ range_with_len 0 n ++ (n ∷ []) =
    range_more 0 n ∙ ap (λ (x : ℕ). range_with_len 0 n ++ (x ∷ [])) from_zero in
    ap (passing test) on ∙ ap (filter test) last ∙ filter-append test (range_with_len 0 n) (n ∷ [])

pub outputs_below : (names : List (List ℕ)) (a : Automaton) → EachBelow (length a.propositions) (outputs names a)
outputs_below names a =
    let n = length a.propositions in
    All-filter (is_named names a) (λ p. p < n) (range_with_len 0 n)
    (λ k d lt. grind (arith, nat_tests, get_or-range_with_len 0 n k d, length-range_with_len 0 n))

-- ---- names

pub same_at : {X : Type 0} (xs : List X) (k : ℕ) (d e : X) → k < length xs → get_or xs k d ≡ get_or xs k e
same_at [] k d e lt = absurd (omega arith)
same_at (x ∷ xs) zero d e lt = refl
same_at (x ∷ xs) (suc k) d e lt = same_at xs k d e (omega arith)

pub any_map : {X Y : Type 0} (test : Y → Bool) (f : X → Y) (xs : List X) → list_any test (map f xs) ≡ list_any (λ x. test (f x)) xs
any_map test f [] = refl
any_map test f (x ∷ xs) = ap (λ (b : Bool). test (f x) || b) (any_map test f xs)

pub all_map : {X Y : Type 0} (P : Y → Type 0) (f : X → Y) (xs : List X) → All (λ x. P (f x)) xs → All P (map f xs)
all_map P f [] all = λ k d lt. absurd (omega arith)
all_map P f (x ∷ xs) all = λ k d lt. elim k as (λ k. k < length (f x ∷ map f xs) → P (get_or (f x ∷ map f xs) k d)) [
  | zero ↦ λ h. all 0 x (omega arith)
  | suc j ↦ λ h. all_map P f xs (λ i e within. all (suc i) e (omega arith)) j d (omega arith)
] lt

-- what holds of what is made of the elements below a place
pub known_map : {X Y : Type 0} (P : Y → Type 0) (f : X → Y) (xs : List X) (n : ℕ) (e : Y) → n ≤ length xs
    → ((k : ℕ) (d : X) → k < n → P (f (get_or xs k d))) → (k : ℕ) → k < n → P (get_or (map f xs) k e)
known_map P f [] n e within all k lt = absurd (omega arith)
known_map P f (x ∷ xs) n e within all zero lt = all 0 x lt
known_map P f (x ∷ xs) n e within all (suc k) lt =
    known_map P f xs (n - 1) e (omega arith) (λ i d below. all (suc i) d (omega arith)) k (omega arith)

pub map_at : {X Y : Type 0} (P : Y → Type 0) (f : X → Y) (xs : List X) (k : ℕ) (d : X) (e : Y) → k < length xs → P (f (get_or xs k d))
    → P (get_or (map f xs) k e)
map_at P f [] k d e within holds = absurd (omega arith)
map_at P f (x ∷ xs) zero d e within holds = holds
map_at P f (x ∷ xs) (suc k) d e within holds = map_at P f xs k d e (omega arith) holds

-- what holds of the elements below a place, and of that at the place
pub known_more : {X : Type 0} (P : X → Type 0) (xs : List X) (n : ℕ) (e : X) → n < length xs
    → ((k : ℕ) (d : X) → k < n → P (get_or xs k d)) → P (get_or xs n e) → (k : ℕ) (d : X) → k < n + 1 → P (get_or xs k d)
known_more P xs n e within before last k d lt =
    elim (ltb k n) as (λ b. ltb k n ≡ b → P (get_or xs k d)) [
      | true ↦ λ h. before k d (ltb-true k n h)
      | false ↦ λ h.
          let same : k ≡ n = grind (arith, nat_tests) in
          subst (λ (m : ℕ). P (get_or xs m d)) (sym same) (subst P (same_at xs n e d within) last)
    ] refl

pub unnamed_more : (propositions : List (List ℕ)) (name found : List ℕ) (a : ℕ) → a < length propositions
    → found ≡ get_or propositions a found → bytes_eq found name ≡ false
    → ((k : ℕ) → k < a → get_or propositions k name ≢ name) → (k : ℕ) → k < a + 1 → get_or propositions k name ≢ name
unnamed_more propositions name found a within is differs before k lt e =
    elim (ltb k a) as (λ b. ltb k a ≡ b → ⊥) [
      | true ↦ λ h. before k (ltb-true k a h) e
      | false ↦ λ h.
          let same : k ≡ a = grind (arith, nat_tests) in
          let there : found ≡ name = is ∙ same_at propositions a found name within
          ∙ ap (λ (m : ℕ). get_or propositions m name) (sym same) ∙ e in
          let equal : bytes_eq found name ≡ true = (bytes_eq-Decides found name).1 there in
          cc
    ] refl
