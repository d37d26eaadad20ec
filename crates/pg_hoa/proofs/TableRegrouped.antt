-- Edges that stand in another order, but those of one key in theirs: where the steps of a slot agree, their order is the same.
use Rattle.pg_hoa.proofs.Common.{◌≡◌, ℕ, ◌/◌, ◌%◌, Bool, true, false, cond, ◌+◌, ◌*◌, ◌==◌, ◌&&◌, ◌||◌, List, [], ◌∷◌, ◌++◌, map, get_or}
use Rattle.pg_hoa.proofs.Common.{Option, Some, None, arith, refl, sym, ap, subst, ◌∙◌, inl, inr, ◌⊎◌, All, filter, list_any, ties}
use Rattle.pg_hoa.proofs.Common.{option_cmp, is_lt, nat_cmp, ordering_then, Ordering, Decides-eqb, nat_tests, false≢true, All-nil, All-cons}
use Rattle.pg_hoa.proofs.Common.{All-head, All-tail, All-weaker, list_any-append, Shape, Step, deciding, Agree, KeptEdge, Stage, same_set}
use Rattle.pg_hoa.proofs.Common.{has_key, HasKey, Leads, Adds, IsRegrouped, edge_step, says_at, at_line, both_true}
use Rattle.std.specs.Prelude.{not}
use Rattle.pg_hoa.proofs.TableFilling.{SameKey, same_set_is, own_key, is_key, only_key, has_first, has_later, has_more, has_behind}
use Rattle.pg_hoa.proofs.TablePlaces.{line_of}

-- ---- filters

turned : {A : Type 0} (p q : A → Bool) (x : A) (xs : List A) (a b : Bool) → p x ≡ a → q x ≡ b
    → filter p (filter q xs) ≡ filter q (filter p xs) → filter p (filter q (x ∷ xs)) ≡ filter q (filter p (x ∷ xs))
turned p q x xs a b e f same =
    let P = filter p xs in
    let Q = filter q xs in
    ap (λ c. filter p (cond c (x ∷ Q) Q)) f ∙ inner b a e f same ∙ sym (ap (λ c. filter q (cond c (x ∷ P) P)) e)
  where
    inner : (b a : Bool) → p x ≡ a → q x ≡ b → filter p (filter q xs) ≡ filter q (filter p xs)
        → filter p (cond b (x ∷ filter q xs) (filter q xs)) ≡ filter q (cond a (x ∷ filter p xs) (filter p xs))
    inner true true e f same = ap (λ c. cond c (x ∷ filter p (filter q xs)) (filter p (filter q xs))) e ∙ ap (λ l. x ∷ l) same
        ∙ sym (ap (λ c. cond c (x ∷ filter q (filter p xs)) (filter q (filter p xs))) f)
    inner true false e f same = ap (λ c. cond c (x ∷ filter p (filter q xs)) (filter p (filter q xs))) e ∙ same
    inner false true e f same = same ∙ sym (ap (λ c. cond c (x ∷ filter q (filter p xs)) (filter q (filter p xs))) f)
    inner false false e f same = same

filters_turned : {A : Type 0} (p q : A → Bool) (xs : List A) → filter p (filter q xs) ≡ filter q (filter p xs)
filters_turned p q [] = refl
filters_turned p q (x ∷ xs) = turned p q x xs (p x) (q x) refl refl (filters_turned p q xs)

mapped_if : {A B : Type 0} (f : A → B) (b : Bool) (x : A) (xs : List A) → map f (cond b (x ∷ xs) xs) ≡ cond b (f x ∷ map f xs) (map f xs)
mapped_if f true x xs = refl
mapped_if f false x xs = refl

filter_mapped : {A B : Type 0} (f : A → B) (p : B → Bool) (xs : List A) → filter p (map f xs) ≡ map f (filter (λ x. p (f x)) xs)
filter_mapped f p [] = refl
filter_mapped f p (x ∷ xs) = ap (λ l. cond (p (f x)) (f x ∷ l) l) (filter_mapped f p xs)
    ∙ sym (mapped_if f (p (f x)) x (filter (λ x. p (f x)) xs))

any_more : {A : Type 0} (p : A → Bool) (x : A) (xs : List A) (b : Bool) → p x ≡ b → list_any p (filter p xs) ≡ list_any p xs
    → list_any p (cond b (x ∷ filter p xs) (filter p xs)) ≡ (b || list_any p xs)
any_more p x xs true e same = ap (λ c. c || list_any p (filter p xs)) e
any_more p x xs false e same = same

any_is : {A : Type 0} (p : A → Bool) (xs : List A) → list_any p (filter p xs) ≡ list_any p xs
any_is p [] = refl
any_is p (x ∷ xs) = any_more p x xs (p x) refl (any_is p xs)

all_pass : {A : Type 0} (p : A → Bool) (xs : List A) → All (λ x. p x ≡ true) xs → filter p xs ≡ xs
all_pass p [] h = refl
all_pass p (x ∷ xs) h = ap (λ b. cond b (x ∷ filter p xs) (filter p xs)) (All-head (λ x. p x ≡ true) x xs h)
    ∙ ap (λ l. x ∷ l) (all_pass p xs (All-tail (λ x. p x ≡ true) x xs h))

-- ---- steps in another order

abbrev IsReordered : Shape → List Step → List Step → Type 0
IsReordered shape xs ys = (target : ℕ) (counts : Option ℕ)
    → filter (has_key shape target counts) ys ≡ filter (has_key shape target counts) xs

same_keys : (shape : Shape) (xs ys : List Step) (target : ℕ) (counts : Option ℕ) → IsReordered shape xs ys → HasKey shape target counts ys
    → HasKey shape target counts xs
same_keys shape xs ys target counts r h = sym (any_is (has_key shape target counts) xs)
    ∙ ap (list_any (has_key shape target counts)) (sym (r target counts))
    ∙ any_is (has_key shape target counts) ys ∙ h

one_key : (shape : Shape) (x : Step) (ys : List Step)
    → ((target : ℕ) (counts : Option ℕ) → HasKey shape target counts ys → (x.target ≡ target) × (deciding shape x.sets ≡ counts))
    → All (λ y. has_key shape x.target (deciding shape x.sets) y ≡ true) ys
one_key shape x [] h = All-nil (λ y. has_key shape x.target (deciding shape x.sets) y ≡ true)
one_key shape x (y ∷ ys) h =
    let k = h y.target (deciding shape y.sets) (has_first shape y.target (deciding shape y.sets) y ys (own_key shape y)) in
    All-cons (λ y. has_key shape x.target (deciding shape x.sets) y ≡ true) y ys
    (is_key shape x.target (deciding shape x.sets) y (sym k.0) (sym k.1))
    (one_key shape x ys (λ target counts m. h target counts (has_later shape target counts y ys m)))

-- steps that agree stand in one order
same_order : (shape : Shape) (xs ys : List Step) → IsReordered shape xs ys → Agree shape xs → ys ≡ xs
same_order shape [] [] r a = refl
same_order shape [] (y ∷ ys) r a = absurd (false≢true (same_keys shape [] (y ∷ ys) y.target (deciding shape y.sets) r
    (has_first shape y.target (deciding shape y.sets) y ys (own_key shape y))))
same_order shape (x ∷ xs) ys r a =
    let first = All-head (λ y. All (SameKey shape y) (x ∷ xs)) x xs a in
    let p = has_key shape x.target (deciding shape x.sets) in
    sym (all_pass p ys (one_key shape x ys (λ target counts m. only_key shape x target counts (x ∷ xs) first
    (same_keys shape (x ∷ xs) ys target counts r m))))
    ∙ r x.target (deciding shape x.sets)
    ∙ all_pass p (x ∷ xs) (All-weaker (SameKey shape x) (λ y. p y ≡ true)
    (λ y k. is_key shape x.target (deciding shape x.sets) y (sym k.0) (sym k.1)) (x ∷ xs) first)

all_behind : {A : Type 0} (P : A → Type 0) (xs ys : List A) → All P (xs ++ ys) → All P ys
all_behind P [] ys h = h
all_behind P (x ∷ xs) ys h = all_behind P xs ys (All-tail P x (xs ++ ys) h)

agree_behind : (shape : Shape) (xs ys : List Step) → Agree shape (xs ++ ys) → Agree shape ys
agree_behind shape xs ys a = all_behind (λ x. All (SameKey shape x) ys) xs ys
    (All-weaker (λ x. All (SameKey shape x) (xs ++ ys)) (λ x. All (SameKey shape x) ys) (λ x h. all_behind (SameKey shape x) xs ys h)
    (xs ++ ys) a)

one_of_two : (P : Type 0) (a b : Bool) → (a || b) ≡ true → (a ≡ true → P) → (b ≡ true → P) → P
one_of_two P true b e p q = p refl
one_of_two P false b e p q = q e

adds_reordered : (shape : Shape) (g h : ℕ → List Step) (t u : Stage) → ((i : ℕ) → IsReordered shape (g i) (h i)) → Adds shape h t u
    → Adds shape g t u
adds_reordered shape g h t u r a = record {
  as_many = a.as_many;
  sinks = a.sinks;
  lists = a.lists;
  fills = λ given f.
      let k = a.fills given f in
      let same = λ (i : ℕ) (e : Agree shape (given i ++ h i)). same_order shape (h i) (g i) (λ target counts. sym (r i target counts))
      (agree_behind shape (given i) (h i) e) in
      record {
        leads = λ i e. subst (λ l. Leads u (get_or u.slots i 0) (given i ++ l)) (sym (same i (k.agree_before i e))) (k.leads i e);
        conflict_within = k.conflict_within;
        agree_before = λ i e. subst (λ l. Agree shape (given i ++ l)) (sym (same i (k.agree_before i e))) (k.agree_before i e);
        not_there = λ e agree. k.not_there e (subst (λ l. Agree shape (given u.conflict ++ l))
            (sym (same_order shape (g u.conflict) (h u.conflict) (r u.conflict)
            (agree_behind shape (given u.conflict) (g u.conflict) agree))) agree);
        covers = λ b j small bit. there u.covered.target u.covered.counts (u.covered.first + (b * 64 + j)) given (k.covers b j small bit);
      };
}
  where
    there : (target : ℕ) (counts : Option ℕ) (i : ℕ) (given : ℕ → List Step) → HasKey shape target counts (given i ++ h i)
        → HasKey shape target counts (given i ++ g i)
    there target counts i given m =
        one_of_two (HasKey shape target counts (given i ++ g i)) (list_any (has_key shape target counts) (given i))
        (list_any (has_key shape target counts) (h i))
        (sym (list_any-append (has_key shape target counts) (given i) (h i)) ∙ m)
        (λ e. has_more shape target counts (given i) (g i) e)
        (λ e. has_behind shape target counts (given i) (g i) (same_keys shape (g i) (h i) target counts (r i) e))

-- ---- the edges of a line

pub adds_regrouped : (shape : Shape) (letters state : ℕ) (own : List ℕ) (edges order : List KeptEdge) (t u : Stage)
    → IsRegrouped shape own edges order
    → Adds shape (at_line letters (line_of state own order)) t u → Adds shape (at_line letters (line_of state own edges)) t u
adds_regrouped shape letters state own edges order t u r a =
    adds_reordered shape (at_line letters (line_of state own edges)) (at_line letters (line_of state own order)) t u
    (λ i target counts. by_state (has_key shape target counts) (says_at (i % letters)) (state == i / letters) (r target counts)) a
  where
    by_state : (p : Step → Bool) (q : KeptEdge → Bool) (b : Bool)
        → filter (λ e. p (edge_step own e)) order ≡ filter (λ e. p (edge_step own e)) edges
        → filter p (cond b (map (edge_step own) (filter q order)) []) ≡ filter p (cond b (map (edge_step own) (filter q edges)) [])
    by_state p q false e = refl
    by_state p q true e = filter_mapped (edge_step own) p (filter q order)
        ∙ ap (map (edge_step own)) (filters_turned (λ e. p (edge_step own e)) q order ∙ ap (filter q) e
        ∙ sym (filters_turned (λ e. p (edge_step own e)) q edges))
        ∙ sym (filter_mapped (edge_step own) p (filter q edges))

-- ---- from a stable sort

filter_same : {A : Type 0} (p q : A → Bool) (xs : List A) → ((x : A) → p x ≡ q x) → filter p xs ≡ filter q xs
filter_same p q [] e = refl
filter_same p q (x ∷ xs) e = ap (λ b. cond b (x ∷ filter p xs) (filter p xs)) (e x) ∙ ap (λ l. cond (q x) (x ∷ l) l) (filter_same p q xs e)

passes_or : {A : Type 0} (p : A → Bool) (x : A) (xs : List A) (b : Bool) → p x ≡ b → (filter p xs ≡ []) ⊎ ((y : A) × (p y ≡ true))
    → (cond b (x ∷ filter p xs) (filter p xs) ≡ []) ⊎ ((y : A) × (p y ≡ true))
passes_or p x xs true e rest = inr (x, e)
passes_or p x xs false e rest = rest

some_passes : {A : Type 0} (p : A → Bool) (xs : List A) → (filter p xs ≡ []) ⊎ ((x : A) × (p x ≡ true))
some_passes p [] = inl refl
some_passes p (x ∷ xs) = passes_or p x xs (p x) refl (some_passes p xs)

-- elements that a test takes, where those that tie with one of them are just these
pub stable_test : {A : Type 0} (p : A → Bool) (tie : A → A → Bool) (xs ys : List A) → ((x y : A) → p x ≡ true → tie x y ≡ p y)
    → ((x : A) → filter (tie x) ys ≡ filter (tie x) xs) → filter p ys ≡ filter p xs
stable_test {A = A} p tie xs ys same stable = elim (some_passes p ys) [
  | inr x ↦ by_one x.0 x.1
  | inl none ↦ elim (some_passes p xs) [ inr x ↦ by_one x.0 x.1 | inl too ↦ none ∙ sym too ]
]
  where
    by_one : (x : A) → p x ≡ true → filter p ys ≡ filter p xs
    by_one x e = sym (filter_same (tie x) p ys (λ y. same x y e)) ∙ stable x ∙ filter_same (tie x) p xs (λ y. same x y e)

pub filter_mapped_as : {A B C : Type 0} (f : A → C) (g : B → C) (p : C → Bool) (xs : List A) (ys : List B)
    → map f (filter (λ x. p (f x)) xs) ≡ map g (filter (λ y. p (g y)) ys) → filter p (map f xs) ≡ filter p (map g ys)
filter_mapped_as f g p xs ys e = filter_mapped f p xs ∙ e ∙ sym (filter_mapped g p ys)

pub mapped_twice : {A B C : Type 0} (f : A → B) (g : B → C) (xs : List A) → map (λ x. g (f x)) xs ≡ map g (map f xs)
mapped_twice f g [] = refl
mapped_twice f g (x ∷ xs) = ap (λ l. g (f x) ∷ l) (mapped_twice f g xs)

-- ---- keys that tie

abbrev pub key_cmp : ℕ × Option ℕ → ℕ × Option ℕ → Ordering
key_cmp x y = ordering_then (nat_cmp x.0 y.0) (option_cmp nat_cmp x.1 y.1)

tied : (s t : ℕ) (a b : Option ℕ)
    → (not (is_lt (key_cmp (s, a) (t, b))) && not (is_lt (key_cmp (t, b) (s, a)))) ≡ ((t == s) && same_set b a)
tied s t None None = grind (arith, nat_tests)
tied s t None (Some b) = grind (arith, nat_tests)
tied s t (Some a) None = grind (arith, nat_tests)
tied s t (Some a) (Some b) = grind (arith, nat_tests)

pub same_ties : {A : Type 0} (key : A → ℕ × Option ℕ) (target : ℕ) (counts : Option ℕ) (x y : A)
    → (((key x).0 == target) && same_set (key x).1 counts) ≡ true
    → ties (λ a b. is_lt (key_cmp (key a) (key b))) x y ≡ (((key y).0 == target) && same_set (key y).1 counts)
same_ties key target counts x y e =
    let p = both_true ((key x).0 == target) (same_set (key x).1 counts) e in
    tied (key x).0 (key y).0 (key x).1 (key y).1
    ∙ ap (λ n. ((key y).0 == n) && same_set (key y).1 (key x).1) ((Decides-eqb (key x).0 target).0 p.0)
    ∙ ap (λ c. ((key y).0 == target) && same_set (key y).1 c) (same_set_is (key x).1 counts p.1)
