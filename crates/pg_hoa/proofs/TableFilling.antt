-- What one more step does to a table that is being filled.
use Rattle.pg_hoa.proofs.Common.{◌≡◌, ℕ, ◌+◌, ◌*◌, ◌<◌, ◌≤◌, Bool, true, false, ◌==◌, ◌||◌, List, [], ◌∷◌, ◌++◌, length, get_or, set}
use Rattle.pg_hoa.proofs.Common.{Option, Some, None, refl, sym, ap, subst, ◌∙◌, arith, append_assoc, option_map, All, list_any, append-nil}
use Rattle.pg_hoa.proofs.Common.{get_or-set_same, get_or-set_other, length-set, All-nil, All-cons, All-head, All-tail, All-push, All-weaker}
use Rattle.pg_hoa.proofs.Common.{list_any-append, false≢true, Decides-eqb, nat_tests, Shape, Step, deciding, Agree, numbered, Covered, Way}
use Rattle.pg_hoa.proofs.Common.{Stage, same_set, has_key, agree, HasKey, Covers, Leads, Extends, IsFilled, Adds, IsCovered, IsDecided}
use Rattle.pg_hoa.proofs.Common.{when, way_step, at_slot, truth, both_true, some, some_is, none_is_some}

-- ---- steps that agree

abbrev pub SameKey : Shape → Step → Step → Type 0
SameKey shape s t = (s.target ≡ t.target) × (deciding shape s.sets ≡ deciding shape t.sets)

all_but_last : {X : Type 0} (P : X → Type 0) (xs : List X) (x : X) → All P (xs ++ (x ∷ [])) → All P xs
all_but_last P [] x h = All-nil P
all_but_last P (y ∷ xs) x h = All-cons P y xs (All-head P y (xs ++ (x ∷ [])) h) (all_but_last P xs x (All-tail P y (xs ++ (x ∷ [])) h))

last_of_all : {X : Type 0} (P : X → Type 0) (xs : List X) (x : X) → All P (xs ++ (x ∷ [])) → P x
last_of_all P [] x h = All-head P x [] h
last_of_all P (y ∷ xs) x h = last_of_all P xs x (All-tail P y (xs ++ (x ∷ [])) h)

agree_none : (shape : Shape) → Agree shape []
agree_none shape = All-nil (λ s. All (SameKey shape s) [])

agree_one : (shape : Shape) (s : Step) → Agree shape (s ∷ [])
agree_one shape s = All-cons (λ x. All (SameKey shape x) (s ∷ [])) s []
    (All-cons (SameKey shape s) s [] (refl, refl) (All-nil (SameKey shape s))) (All-nil (λ x. All (SameKey shape x) (s ∷ [])))

agree_more : (shape : Shape) (s t : Step) (steps : List Step) → Agree shape (s ∷ steps) → SameKey shape s t
    → Agree shape ((s ∷ steps) ++ (t ∷ []))
agree_more shape s t steps h same =
    let first = All-head (λ x. All (SameKey shape x) (s ∷ steps)) s steps h in
    let P : Step → Type 0 = λ x. All (SameKey shape x) ((s ∷ steps) ++ (t ∷ [])) in
    All-push P (s ∷ steps) t
    (All-weaker (λ x. All (SameKey shape x) (s ∷ steps)) P
    (λ x p. let q = All-head (SameKey shape x) s steps p in All-push (SameKey shape x) (s ∷ steps) t p (q.0 ∙ same.0, q.1 ∙ same.1))
    (s ∷ steps) h)
    (All-push (SameKey shape t) (s ∷ steps) t
    (All-weaker (SameKey shape s) (SameKey shape t) (λ x p. (sym same.0 ∙ p.0, sym same.1 ∙ p.1)) (s ∷ steps) first)
    (refl, refl))

pub agree_less : (shape : Shape) (steps : List Step) (t : Step) → Agree shape (steps ++ (t ∷ [])) → Agree shape steps
agree_less shape steps t h =
    All-weaker (λ x. All (SameKey shape x) (steps ++ (t ∷ []))) (λ x. All (SameKey shape x) steps)
    (λ x p. all_but_last (SameKey shape x) steps t p) steps
    (all_but_last (λ x. All (SameKey shape x) (steps ++ (t ∷ []))) steps t h)

agree_last : (shape : Shape) (s t : Step) (steps : List Step) → Agree shape ((s ∷ steps) ++ (t ∷ [])) → SameKey shape s t
agree_last shape s t steps h = last_of_all (SameKey shape s) (s ∷ steps) t
    (All-head (λ x. All (SameKey shape x) ((s ∷ steps) ++ (t ∷ []))) s (steps ++ (t ∷ [])) h)

same_set_refl : (a : Option ℕ) → same_set a a ≡ true
same_set_refl None = refl
same_set_refl (Some a) = (Decides-eqb a a).1 refl

pub same_set_is : (a b : Option ℕ) → same_set a b ≡ true → a ≡ b
same_set_is None None e = refl
same_set_is (Some a) (Some b) e = ap some ((Decides-eqb a b).0 e)
same_set_is None (Some b) e = absurd (false≢true e)
same_set_is (Some a) None e = absurd (false≢true e)

key_is : (shape : Shape) (target : ℕ) (counts : Option ℕ) (s : Step) → has_key shape target counts s ≡ true
    → (s.target ≡ target) × (deciding shape s.sets ≡ counts)
key_is shape target counts s e =
    let p = both_true (s.target == target) (same_set (deciding shape s.sets) counts) e in
    ((Decides-eqb s.target target).0 p.0, same_set_is (deciding shape s.sets) counts p.1)

pub is_key : (shape : Shape) (target : ℕ) (counts : Option ℕ) (s : Step) → s.target ≡ target → deciding shape s.sets ≡ counts
    → has_key shape target counts s ≡ true
is_key shape target counts s p q = grind (arith, nat_tests, Decides-eqb s.target target, same_set_refl counts)

pub own_key : (shape : Shape) (s : Step) → has_key shape s.target (deciding shape s.sets) s ≡ true
own_key shape s = is_key shape s.target (deciding shape s.sets) s refl refl

-- ---- steps with one of a key

either_left : (a b : Bool) → a ≡ true → (a || b) ≡ true
either_left true b e = refl
either_left false b e = absurd (false≢true e)

either_right : (a b : Bool) → b ≡ true → (a || b) ≡ true
either_right true b e = refl
either_right false b e = e

pub has_more : (shape : Shape) (target : ℕ) (counts : Option ℕ) (xs ys : List Step) → HasKey shape target counts xs
    → HasKey shape target counts (xs ++ ys)
has_more shape target counts xs ys h = list_any-append (has_key shape target counts) xs ys
    ∙ either_left (list_any (has_key shape target counts) xs) (list_any (has_key shape target counts) ys) h

pub has_behind : (shape : Shape) (target : ℕ) (counts : Option ℕ) (xs ys : List Step) → HasKey shape target counts ys
    → HasKey shape target counts (xs ++ ys)
has_behind shape target counts xs ys h = list_any-append (has_key shape target counts) xs ys
    ∙ either_right (list_any (has_key shape target counts) xs) (list_any (has_key shape target counts) ys) h

pub has_first : (shape : Shape) (target : ℕ) (counts : Option ℕ) (x : Step) (xs : List Step) → has_key shape target counts x ≡ true
    → HasKey shape target counts (x ∷ xs)
has_first shape target counts x xs e = either_left (has_key shape target counts x) (list_any (has_key shape target counts) xs) e

pub has_later : (shape : Shape) (target : ℕ) (counts : Option ℕ) (x : Step) (xs : List Step) → HasKey shape target counts xs
    → HasKey shape target counts (x ∷ xs)
has_later shape target counts x xs h = either_right (has_key shape target counts x) (list_any (has_key shape target counts) xs) h

-- where all steps have one key, that is the key
pub only_key : (shape : Shape) (x : Step) (target : ℕ) (counts : Option ℕ) (xs : List Step) → All (SameKey shape x) xs
    → HasKey shape target counts xs
    → (x.target ≡ target) × (deciding shape x.sets ≡ counts)
only_key shape x target counts [] all h = absurd (false≢true h)
only_key shape x target counts (y ∷ ys) all h = go (has_key shape target counts y) refl h
    (λ later. only_key shape x target counts ys (All-tail (SameKey shape x) y ys all) later)
  where
    go : (b : Bool) → has_key shape target counts y ≡ b → (b || list_any (has_key shape target counts) ys) ≡ true
        → (HasKey shape target counts ys → (x.target ≡ target) × (deciding shape x.sets ≡ counts))
        → (x.target ≡ target) × (deciding shape x.sets ≡ counts)
    go true e h rest =
        let k = key_is shape target counts y e in
        let same = All-head (SameKey shape x) y ys all in
        (same.0 ∙ k.0, same.1 ∙ k.1)
    go false e h rest = rest h

covers_more : (shape : Shape) (c d : Covered) (given more : ℕ → List Step) → d ≡ c → Covers shape c given
    → Covers shape d (λ i. given i ++ more i)
covers_more shape c d given more e h = subst (λ x. Covers shape x (λ i. given i ++ more i)) (sym e) (λ b j small bit.
    has_more shape c.target c.counts (given (c.first + (b * 64 + j))) (more (c.first + (b * 64 + j))) (h b j small bit))

-- ---- a slot

leads_extended : (t u : Stage) (n : ℕ) (steps : List Step) → Extends t u → Leads t n steps → Leads u n steps
leads_extended t u n [] x h = h
leads_extended t u n (s ∷ steps) x h = x.numbers n s h

leads_none : (t : Stage) (n : ℕ) (steps : List Step) → Leads t n steps → numbered t.steps t.lists n ≡ None → steps ≡ []
leads_none t n [] h e = refl
leads_none t n (s ∷ steps) h e = absurd (none_is_some s (sym e ∙ h))

-- a slot with a step has a first one
leads_some : (t : Stage) (n : ℕ) (steps : List Step) (x : Step) → Leads t n steps → numbered t.steps t.lists n ≡ Some x
    → (rest : List Step) × (steps ≡ x ∷ rest)
leads_some t n [] x h e = absurd (none_is_some x (sym (ap (numbered t.steps t.lists) h) ∙ e))
leads_some t n (s ∷ steps) x h e = (steps, ap (λ y. y ∷ steps) (some_is s x (sym h ∙ e)))

pub when_cases : (P : List Step → Type 0) (steps : List Step) (b : Bool) (s : Step) → P steps → (b ≡ true → P (steps ++ (s ∷ [])))
    → P (steps ++ when b s)
when_cases P steps true s other same = same refl
when_cases P steps false s other same = subst P (sym (append-nil steps)) other

slot_cases : (P : List Step → Type 0) (steps : List Step) (slot i : ℕ) (s : Step) → ((i ≡ slot → ⊥) → P steps)
    → (i ≡ slot → P (steps ++ (s ∷ []))) → P (steps ++ at_slot slot s i)
slot_cases P steps slot i s other same = grind (arith, nat_tests, Decides-eqb i slot, append-nil steps)

mapped_some : {A B : Type 0} (f : A → B) (o : Option A) (y : B) → option_map f o ≡ Some y → (x : A) × (o ≡ Some x) × (f x ≡ y)
mapped_some f None y e = absurd (none_is_some y e)
mapped_some f (Some x) y e = (x, refl, some_is (f x) y e)

mapped_none : {A B : Type 0} (f : A → B) (o : Option A) → option_map f o ≡ None → o ≡ None
mapped_none f None e = refl
mapped_none f (Some x) e = absurd (none_is_some (f x) (sym e))

-- ---- a full slot

abbrev Compares : Shape → Stage → ℕ → Step → Option Bool → Type 0
Compares shape t slot s answer = option_map (λ x. agree shape x s) (numbered t.steps t.lists (get_or t.slots slot 0)) ≡ answer

-- what was there, with the first that is there
first_there : (shape : Shape) (t : Stage) (given : ℕ → List Step) (slot : ℕ) (s : Step) (answer : Bool) → slot < t.conflict
    → IsFilled shape t given → Compares shape t slot s (Some answer)
    → (x : Step) × (rest : List Step) × (given slot ≡ x ∷ rest) × (agree shape x s ≡ answer)
first_there shape t given slot s answer h f e =
    let x = mapped_some (λ x. agree shape x s) (numbered t.steps t.lists (get_or t.slots slot 0)) answer e in
    let y = leads_some t (get_or t.slots slot 0) (given slot) x.0 (f.leads slot h) x.1 in
    (x.0, y.0, y.1, x.2)

still_not_there : (shape : Shape) (t : Stage) (given : ℕ → List Step) (slot : ℕ) (s : Step) → IsFilled shape t given
    → t.conflict < length t.slots → Agree shape (given t.conflict ++ at_slot slot s t.conflict) → ⊥
still_not_there shape t given slot s f h =
    slot_cases (λ l. Agree shape l → ⊥) (given t.conflict) slot t.conflict s (λ _. f.not_there h)
    (λ _ a. f.not_there h (agree_less shape (given t.conflict) s a))

-- ---- a step that changes nothing

leads_again : (u : Stage) (n : ℕ) (shape : Shape) (s : Step) (steps : List Step) → HasKey shape s.target (deciding shape s.sets) steps
    → Leads u n steps
    → Leads u n (steps ++ (s ∷ []))
leads_again u n shape s [] h leads = absurd (false≢true h)
leads_again u n shape s (x ∷ xs) h leads = leads

agree_again : (shape : Shape) (s : Step) (steps : List Step) → HasKey shape s.target (deciding shape s.sets) steps → Agree shape steps
    → Agree shape (steps ++ (s ∷ []))
agree_again shape s [] h agree = absurd (false≢true h)
agree_again shape s (x ∷ xs) h agree = agree_more shape x s xs agree
    (only_key shape x s.target (deciding shape s.sets) (x ∷ xs) (All-head (λ y. All (SameKey shape y) (x ∷ xs)) x xs agree) h)

-- a step of a key that is there already
adds_again : (shape : Shape) (t : Stage) (b : ℕ → Bool) (s : Step)
    → ((given : ℕ → List Step) → IsFilled shape t given → (i : ℕ) → i < t.conflict → b i ≡ true → HasKey shape s.target
    (deciding shape s.sets) (given i))
    → Adds shape (λ i. when (b i) s) t t
adds_again shape t b s has = record {
  as_many = refl;
  sinks = omega arith;
  lists = λ place list e. e;
  fills = λ given f. record {
    leads = λ i k. when_cases (Leads t (get_or t.slots i 0)) (given i) (b i) s (f.leads i k)
        (λ e. leads_again t (get_or t.slots i 0) shape s (given i) (has given f i k e) (f.leads i k));
    conflict_within = f.conflict_within;
    agree_before = λ i k. when_cases (Agree shape) (given i) (b i) s (f.agree_before i k)
        (λ e. agree_again shape s (given i) (has given f i k e) (f.agree_before i k));
    not_there = λ k. when_cases (λ l. Agree shape l → ⊥) (given t.conflict) (b t.conflict) s (f.not_there k)
        (λ _ a. f.not_there k (agree_less shape (given t.conflict) s a));
    covers = covers_more shape t.covered t.covered given (λ i. when (b i) s) refl f.covers;
  };
}

pub adds_covered : (w : Way) (t : Stage) (b : ℕ → Bool) → IsDecided w → ((i : ℕ) → b i ≡ true → IsCovered w t i)
    → Adds w.shape (λ i. when (b i) (way_step w)) t t
adds_covered w t b d has = adds_again w.shape t b (way_step w)
    (λ given f i k e. subst (λ c. HasKey w.shape w.target c (given i)) d (has i e given f))

pub adds_agreeing : (shape : Shape) (t : Stage) (slot : ℕ) (s : Step) → Compares shape t slot s (Some true)
    → Adds shape (at_slot slot s) t t
adds_agreeing shape t slot s e = adds_again shape t (λ i. i == slot) s (λ given f i k same.
    let is : slot ≡ i = sym ((Decides-eqb i slot).0 same) in
    let x = first_there shape t given slot s true (omega (arith, k, is)) f e in
    subst (λ j. HasKey shape s.target (deciding shape s.sets) (given j)) is
    (subst (HasKey shape s.target (deciding shape s.sets)) (sym x.2) (has_first shape s.target (deciding shape s.sets) x.0 x.1 x.3)))

pub adds_late_clash : (shape : Shape) (t : Stage) (slot : ℕ) (s : Step) → t.conflict ≤ slot → Adds shape (at_slot slot s) t t
adds_late_clash shape t slot s late = record {
  as_many = refl;
  sinks = omega arith;
  lists = λ place list e. e;
  fills = λ given f. record {
    leads = λ i k. slot_cases (Leads t (get_or t.slots i 0)) (given i) slot i s (λ _. f.leads i k) (λ is. absurd (omega arith));
    conflict_within = f.conflict_within;
    agree_before = λ i k. slot_cases (Agree shape) (given i) slot i s (λ _. f.agree_before i k) (λ is. absurd (omega arith));
    not_there = still_not_there shape t given slot s f;
    covers = covers_more shape t.covered t.covered given (at_slot slot s) refl f.covers;
  };
}

pub adds_clash : (shape : Shape) (t u : Stage) (slot : ℕ) (s : Step) → Compares shape t slot s (Some false) → slot < t.conflict
    → u ≡ record t { conflict = slot } → Adds shape (at_slot slot s) t u
adds_clash shape t u slot s e early is = subst (Adds shape (at_slot slot s) t) (sym is) (record {
  as_many = refl;
  sinks = omega arith;
  lists = λ place list e. e;
  fills = λ given f. record {
    leads = λ i k. slot_cases (Leads t (get_or t.slots i 0)) (given i) slot i s (λ _. f.leads i (omega arith)) (λ is. absurd (omega arith));
    conflict_within = omega (arith, f.conflict_within);
    agree_before = λ i k. slot_cases (Agree shape) (given i) slot i s (λ _. f.agree_before i (omega arith)) (λ is. absurd (omega arith));
    not_there = λ _. slot_cases (λ l. Agree shape l → ⊥) (given slot) slot slot s (λ other. absurd (other refl))
        (λ _ a.
        let x = first_there shape t given slot s false early f e in
        let k = agree_last shape x.0 s x.1 (subst (λ (l : List Step). Agree shape (l ++ (s ∷ []))) x.2 a) in
        false≢true (sym x.3 ∙ is_key shape s.target (deciding shape s.sets) x.0 k.0 k.1));
    covers = covers_more shape t.covered t.covered given (at_slot slot s) refl f.covers;
  };
})

-- ---- an empty slot

pub adds_first : (shape : Shape) (t u v : Stage) (slot n : ℕ) (s : Step) → slot < length t.slots → Compares shape t slot s None
    → Extends t u → numbered u.steps u.lists n ≡ Some s → v ≡ record u { slots = set u.slots slot n } → Adds shape (at_slot slot s) t v
adds_first shape t u v slot n s h e x there is = subst (Adds shape (at_slot slot s) t) (sym is) (record {
  as_many = length-set u.slots slot n ∙ ap length x.slots;
  sinks = omega (arith, x.conflict);
  lists = x.lists;
  fills = λ given f.
      let many : length (set u.slots slot n) ≡ length t.slots = length-set u.slots slot n ∙ ap length x.slots in
      let none_yet = λ (k : slot < t.conflict). leads_none t (get_or t.slots slot 0) (given slot) (f.leads slot k) nothing in
      record {
        leads = λ i k.
            slot_cases (Leads u (get_or (set u.slots slot n) i 0)) (given i) slot i s
            (λ other. subst (λ m. Leads u m (given i)) (sym (elsewhere i other))
            (leads_extended t u (get_or t.slots i 0) (given i) x (f.leads i (omega (arith, x.conflict)))))
            (λ same.
            let here : get_or (set u.slots slot n) i 0 ≡ n = ap (λ j. get_or (set u.slots slot n) j 0) same
            ∙ get_or-set_same u.slots slot n 0 (omega (arith, ap length x.slots)) in
            let empty : given i ≡ [] = ap given same ∙ none_yet (omega (arith, x.conflict)) in
            subst (λ (l : List Step). Leads u (get_or (set u.slots slot n) i 0) (l ++ (s ∷ []))) (sym empty)
            (subst (λ m. numbered u.steps u.lists m ≡ Some s) (sym here) there));
        conflict_within = omega (arith, x.conflict, f.conflict_within, many);
        agree_before = λ i k. slot_cases (Agree shape) (given i) slot i s (λ _. f.agree_before i (omega (arith, x.conflict)))
            (λ same. let empty : given i ≡ [] = ap given same ∙ none_yet (omega (arith, x.conflict)) in
            subst (λ (l : List Step). Agree shape (l ++ (s ∷ []))) (sym empty) (agree_one shape s));
        not_there = λ k. let back = still_not_there shape t given slot s f (omega (arith, x.conflict, many)) in
            subst (λ c. Agree shape (given c ++ at_slot slot s c) → ⊥) (sym x.conflict) back;
        covers = covers_more shape t.covered u.covered given (at_slot slot s) x.covered f.covers;
      };
})
  where
    nothing : numbered t.steps t.lists (get_or t.slots slot 0) ≡ None
    nothing = mapped_none (λ x. agree shape x s) (numbered t.steps t.lists (get_or t.slots slot 0)) e

    elsewhere : (i : ℕ) → (i ≡ slot → ⊥) → get_or (set u.slots slot n) i 0 ≡ get_or t.slots i 0
    elsewhere i other = get_or-set_other u.slots slot i n 0 other ∙ ap (λ l. get_or l i 0) x.slots

-- ---- one after another

refilled : (shape : Shape) (t : Stage) (f g : ℕ → List Step) → IsFilled shape t f → ((i : ℕ) → f i ≡ g i) → IsFilled shape t g
refilled shape t f g h e = record {
  leads = λ i k. subst (Leads t (get_or t.slots i 0)) (e i) (h.leads i k);
  conflict_within = h.conflict_within;
  agree_before = λ i k. subst (Agree shape) (e i) (h.agree_before i k);
  not_there = λ k a. h.not_there k (subst (Agree shape) (sym (e t.conflict)) a);
  covers = λ b j small bit. subst (HasKey shape t.covered.target t.covered.counts) (e (t.covered.first + (b * 64 + j)))
      (h.covers b j small bit);
}

pub adds_none : (shape : Shape) (more : ℕ → List Step) (t : Stage) → ((i : ℕ) → more i ≡ []) → Adds shape more t t
adds_none shape more t e = record {
  as_many = refl;
  sinks = omega arith;
  lists = λ place list e. e;
  fills = λ given f. refilled shape t given (λ i. given i ++ more i) f (λ i. sym (ap (λ l. given i ++ l) (e i) ∙ append-nil (given i)));
}

pub adds_extended : (shape : Shape) (t u : Stage) → Extends t u → Adds shape (λ i. []) t u
adds_extended shape t u x = record {
  as_many = ap length x.slots;
  sinks = omega (arith, x.conflict);
  lists = x.lists;
  fills = λ given f. refilled shape u given (λ i. given i ++ []) (record {
    leads = λ i k. subst (λ l. Leads u (get_or l i 0) (given i)) (sym x.slots)
        (leads_extended t u (get_or t.slots i 0) (given i) x (f.leads i (omega (arith, k, x.conflict))));
    conflict_within = omega (arith, x.conflict, f.conflict_within, ap length x.slots);
    agree_before = λ i k. f.agree_before i (omega (arith, k, x.conflict));
    not_there = λ k. subst (λ c. Agree shape (given c) → ⊥) (sym x.conflict)
        (f.not_there (omega (arith, k, x.conflict, ap length x.slots)));
    covers = subst (λ c. Covers shape c given) (sym x.covered) f.covers;
  }) (λ i. sym (append-nil (given i)));
}

pub adds_then : (shape : Shape) (g h k : ℕ → List Step) (t u v : Stage) → Adds shape g t u → Adds shape h u v
    → ((i : ℕ) → g i ++ h i ≡ k i) → Adds shape k t v
adds_then shape g h k t u v a b e = record {
  as_many = b.as_many ∙ a.as_many;
  sinks = omega (arith, a.sinks, b.sinks);
  lists = λ place list e. b.lists place list (a.lists place list e);
  fills = λ given f. refilled shape v (λ i. (given i ++ g i) ++ h i) (λ i. given i ++ k i) (b.fills (λ i. given i ++ g i) (a.fills given f))
      (λ i. append_assoc (given i) (g i) (h i) ∙ ap (λ l. given i ++ l) (e i));
}

pub adds_same : (shape : Shape) (g h : ℕ → List Step) (t u : Stage) → Adds shape g t u → ((i : ℕ) → g i ≡ h i) → Adds shape h t u
adds_same shape g h t u a e = record {
  as_many = a.as_many;
  sinks = a.sinks;
  lists = a.lists;
  fills = λ given f. refilled shape u (λ i. given i ++ g i) (λ i. given i ++ h i) (a.fills given f) (λ i. ap (λ l. given i ++ l) (e i));
}

-- what is given behind the conflict changes nothing
pub adds_wider : (shape : Shape) (b d : ℕ → Bool) (s : Step) (t u : Stage) → Adds shape (λ i. when (b i) s) t u
    → ((i : ℕ) → i < u.conflict → b i ≡ d i) → ((i : ℕ) → b i ≡ true → d i ≡ true) → Adds shape (λ i. when (d i) s) t u
adds_wider shape b d s t u a same more = record {
  as_many = a.as_many;
  sinks = a.sinks;
  lists = a.lists;
  fills = λ given f.
      let g = a.fills given f in
      record {
        leads = λ i k. subst (λ c. Leads u (get_or u.slots i 0) (given i ++ when c s)) (same i k) (g.leads i k);
        conflict_within = g.conflict_within;
        agree_before = λ i k. subst (λ c. Agree shape (given i ++ when c s)) (same i k) (g.agree_before i k);
        not_there = λ k. behind (given u.conflict) (b u.conflict) (d u.conflict) (more u.conflict) (g.not_there k);
        covers = λ c j small bit. there u.covered.target u.covered.counts (given (u.covered.first + (c * 64 + j)))
            (b (u.covered.first + (c * 64 + j)))
            (d (u.covered.first + (c * 64 + j))) (more (u.covered.first + (c * 64 + j))) (g.covers c j small bit);
      };
}
  where
    behind : (steps : List Step) (c e : Bool) → (c ≡ true → e ≡ true) → (Agree shape (steps ++ when c s) → ⊥)
        → Agree shape (steps ++ when e s) → ⊥
    behind steps true e more n = subst (λ x. Agree shape (steps ++ when x s) → ⊥) (sym (more refl)) n
    behind steps false e more n = when_cases (λ l. Agree shape l → ⊥) steps e s (λ a. n (subst (Agree shape) (sym (append-nil steps)) a))
        (λ _ a. n (subst (Agree shape) (sym (append-nil steps)) (agree_less shape steps s a)))

    there : (target : ℕ) (counts : Option ℕ) (steps : List Step) (c e : Bool) → (c ≡ true → e ≡ true)
        → HasKey shape target counts (steps ++ when c s) → HasKey shape target counts (steps ++ when e s)
    there target counts steps true e more h = subst (λ x. HasKey shape target counts (steps ++ when x s)) (sym (more refl)) h
    there target counts steps false e more h = has_more shape target counts steps (when e s)
        (subst (HasKey shape target counts) (append-nil steps) h)

-- ---- letters that are covered

-- the steps behind which the notes stand have the key at each slot that is noted anew
pub adds_noted : (shape : Shape) (more : ℕ → List Step) (t u v : Stage) (c : Covered) → Adds shape more t u → v ≡ record u { covered = c }
    → ((given : ℕ → List Step) → Covers shape u.covered (λ i. given i ++ more i) → Covers shape c (λ i. given i ++ more i))
    → Adds shape more t v
adds_noted shape more t u v c a is new = subst (Adds shape more t) (sym is) (record {
  as_many = a.as_many;
  sinks = a.sinks;
  lists = a.lists;
  fills = λ given f.
      let g = a.fills given f in
      record {
        leads = g.leads;
        conflict_within = g.conflict_within;
        agree_before = g.agree_before;
        not_there = g.not_there;
        covers = new given g.covers;
      };
})

-- ---- the first stage

pub nothing_yet : (shape : Shape) (t : Stage) → ((i : ℕ) → i < length t.slots → get_or t.slots i 0 ≡ 0) → t.conflict ≡ length t.slots
    → ((b j : ℕ) → truth (get_or t.covered.words.items b 0) j ≡ false) → IsFilled shape t (λ i. [])
nothing_yet shape t zeros c none = record {
  leads = λ i k. zeros i (omega (arith, k, c));
  conflict_within = omega (arith, c);
  agree_before = λ i k. agree_none shape;
  not_there = λ k a. absurd (omega (arith, k, c));
  covers = λ b j small bit. absurd (false≢true (sym (none b j) ∙ bit));
}
