-- The map that numbers of updates show.
use Rattle.pg_world.proofs.Common.{◌≡◌, ◌≢◌, ℕ, zero, suc, ◌+◌, ◌<◌, ◌≤◌, List, [], ◌∷◌, ◌++◌, length, get_or, set, replicate, refl, ap}
use Rattle.pg_world.proofs.Common.{sym, ◌∙◌, ◌⊎◌, inl, inr, arith, subst, All, Contains, drop, cases_eq, cases_lt, map-set, get_or_past}
use Rattle.pg_world.proofs.Common.{get_or_append_left, get_or-replicate, get_or-set_other, get_or-set_same, length-replicate, length-append}
use Rattle.pg_world.proofs.Common.{length-map, All-contains, Contains-append_left, Contains-append_right, drop-cons, contains_none}
use Rattle.pg_world.proofs.Common.{BoundList, zeros, zero_map, NO_UPDATE, UpdateValue, update_at, shown, ComeFrom}
use Rattle.pg_world.proofs.Joining.{kept_at}

cons_same : {A : Type 0} (x y : A) (xs ys : List A) → x ≡ y → xs ≡ ys → x ∷ xs ≡ y ∷ ys
cons_same x y xs ys e f = cc

-- the maps are the same where the measures of each number are
shown_same : (bs : BoundList) (us vs : List UpdateValue) (ns : List ℕ)
    → ((v : ℕ) → update_at bs us (get_or ns v NO_UPDATE) ≡ update_at bs vs (get_or ns v NO_UPDATE)) → shown bs us ns ≡ shown bs vs ns
shown_same bs us vs [] e = refl
shown_same bs us vs (n ∷ ns) e = cons_same (update_at bs us n).measure (update_at bs vs n).measure (shown bs us ns) (shown bs vs ns)
    (ap (λ (u : UpdateValue). u.measure) (e zero)) (shown_same bs us vs ns (λ v. e (suc v)))

-- one number is put in its place
pub shown_set : (bs : BoundList) (us : List UpdateValue) (ns : List ℕ) (v n : ℕ) → shown bs us (set ns v n) ≡ set (shown bs us ns) v (update_at bs us n).measure
shown_set bs us ns v n = map-set (λ k. (update_at bs us k).measure) ns v n

pub length-shown : (bs : BoundList) (us : List UpdateValue) (ns : List ℕ) → length (shown bs us ns) ≡ length ns
length-shown bs us ns = length-map ns (λ k. (update_at bs us k).measure)

-- a new update is shown nowhere yet
pub shown_longer : (bs : BoundList) (us : List UpdateValue) (u : UpdateValue) (ks ns : List ℕ) → length us < NO_UPDATE
    → All (λ k. k < length us) ks → ComeFrom us ks ns → shown bs (us ++ u ∷ []) ns ≡ shown bs us ns
shown_longer bs us u ks ns few below from = shown_same bs (us ++ u ∷ []) us ns (λ v. at v (from v))
  where
    at : (v : ℕ)
        → (get_or ns v NO_UPDATE ≡ NO_UPDATE) ⊎ (Contains ks (get_or ns v NO_UPDATE) × ((d : UpdateValue) → (get_or us (get_or ns v NO_UPDATE) d).vertex ≡ v))
        → update_at bs (us ++ u ∷ []) (get_or ns v NO_UPDATE) ≡ update_at bs us (get_or ns v NO_UPDATE)
    at v (inl e) = rw e (get_or_past (us ++ u ∷ []) NO_UPDATE (record { vertex = 0; measure = zeros bs })
        (omega (arith, length-append us (u ∷ [])))
        ∙ sym (get_or_past us NO_UPDATE (record { vertex = 0; measure = zeros bs }) (omega arith)))
    at v (inr c) = kept_at bs us u (get_or ns v NO_UPDATE) (All-contains (λ k. k < length us) ks (get_or ns v NO_UPDATE) below c.0)

zeros_shown : (bs : BoundList) (us : List UpdateValue) (n k : ℕ) → length us ≤ k → shown bs us (replicate n k) ≡ zero_map bs n
zeros_shown bs us n k l = all_zeros n
  where
    here : (update_at bs us k).measure ≡ zeros bs
    here = ap (λ (u : UpdateValue). u.measure) (get_or_past us k (record { vertex = 0; measure = zeros bs }) l)

    all_zeros : (m : ℕ) → shown bs us (replicate m k) ≡ zero_map bs m
    all_zeros zero = refl
    all_zeros (suc m) = cons_same (update_at bs us k).measure (zeros bs) (shown bs us (replicate m k)) (zero_map bs m) here (all_zeros m)

-- where there are no updates zeros are shown
pub nothing_shown : (bs : BoundList) (us : List UpdateValue) (n : ℕ) → length us ≤ NO_UPDATE → shown bs us (replicate n NO_UPDATE) ≡ zero_map bs n
nothing_shown bs us n l = zeros_shown bs us n NO_UPDATE l

pub come_from_none : (us : List UpdateValue) (ks : List ℕ) (n : ℕ) → ComeFrom us ks (replicate n NO_UPDATE)
come_from_none us ks n = λ v. inl (at v (cases_lt v n))
  where
    at : (v : ℕ) → (v < n) ⊎ (n ≤ v) → get_or (replicate n NO_UPDATE) v NO_UPDATE ≡ NO_UPDATE
    at v (inl l) = get_or-replicate n v NO_UPDATE NO_UPDATE l
    at v (inr l) = get_or_past (replicate n NO_UPDATE) v NO_UPDATE (omega (arith, length-replicate n NO_UPDATE))

-- what comes from some comes from more
pub come_from_more : (us : List UpdateValue) (ks ns : List ℕ) (k : ℕ) → ComeFrom us ks ns → ComeFrom us (ks ++ k ∷ []) ns
come_from_more us ks ns k from = λ v. at v (from v)
  where
    at : (v : ℕ)
        → (get_or ns v NO_UPDATE ≡ NO_UPDATE) ⊎ (Contains ks (get_or ns v NO_UPDATE) × ((d : UpdateValue) → (get_or us (get_or ns v NO_UPDATE) d).vertex ≡ v))
        → (get_or ns v NO_UPDATE ≡ NO_UPDATE) ⊎ (Contains (ks ++ k ∷ []) (get_or ns v NO_UPDATE) ×
        ((d : UpdateValue) → (get_or us (get_or ns v NO_UPDATE) d).vertex ≡ v))
    at v (inl e) = inl e
    at v (inr c) = inr (Contains-append_left ks (k ∷ []) (get_or ns v NO_UPDATE) c.0, c.1)

-- a new update comes behind
pub come_from_longer : (us : List UpdateValue) (u : UpdateValue) (ks ns : List ℕ) → All (λ k. k < length us) ks → ComeFrom us ks ns
    → ComeFrom (us ++ u ∷ []) ks ns
come_from_longer us u ks ns below from = λ v. at v (from v)
  where
    at : (v : ℕ)
        → (get_or ns v NO_UPDATE ≡ NO_UPDATE) ⊎ (Contains ks (get_or ns v NO_UPDATE) × ((d : UpdateValue) → (get_or us (get_or ns v NO_UPDATE) d).vertex ≡ v))
        → (get_or ns v NO_UPDATE ≡ NO_UPDATE) ⊎
        (Contains ks (get_or ns v NO_UPDATE) × ((d : UpdateValue) → (get_or (us ++ u ∷ []) (get_or ns v NO_UPDATE) d).vertex ≡ v))
    at v (inl e) = inl e
    at v (inr c) = inr (
      c.0,
      λ d. (ap (λ (x : UpdateValue). x.vertex)
          (get_or_append_left us (u ∷ []) d (get_or ns v NO_UPDATE) (All-contains (λ k. k < length us) ks (get_or ns v NO_UPDATE) below c.0))
          ∙ c.1 d),
    )

-- an update that is taken is put at its vertex
pub come_from_set : (us : List UpdateValue) (ks ns : List ℕ) (v n : ℕ) → ((d : UpdateValue) → (get_or us n d).vertex ≡ v) → v < length ns
    → ComeFrom us ks ns → ComeFrom us (ks ++ n ∷ []) (set ns v n)
come_from_set us ks ns v n own l from = λ u. at u (cases_eq u v)
  where
    last : Contains (ks ++ n ∷ []) n
    last = Contains-append_right ks (n ∷ []) n (0, omega arith, refl)

    at : (u : ℕ) → (u ≡ v) ⊎ (u ≢ v)
        → (get_or (set ns v n) u NO_UPDATE ≡ NO_UPDATE) ⊎ (Contains (ks ++ n ∷ []) (get_or (set ns v n) u NO_UPDATE) ×
        ((d : UpdateValue) → (get_or us (get_or (set ns v n) u NO_UPDATE) d).vertex ≡ u))
    at u (inl e) = rw (e, get_or-set_same ns v n NO_UPDATE l) (inr (last, own))
    at u (inr ne) = rw (get_or-set_other ns v u n NO_UPDATE ne) (come_from_more us ks ns n from u)

-- ---- all updates that were taken are taken away

contains_cons : (k n : ℕ) (ks : List ℕ) → Contains (k ∷ ks) n → (k ≡ n) ⊎ Contains ks n
contains_cons k n ks (zero, l, e) = inl e
contains_cons k n ks (suc j, l, e) = inr (j, omega arith, e)

-- the updates from the place i on are left, and that at i is taken away
pub one_cleared : (us : List UpdateValue) (ks gs : List ℕ) (i v : ℕ) (d : UpdateValue) → i < length ks
    → v ≡ (get_or us (get_or ks i 0) d).vertex → v < length gs → ComeFrom us (drop i ks) gs
    → ComeFrom us (drop (i + 1) ks) (set gs v NO_UPDATE)
one_cleared us ks gs i v d l here within from = let e : suc i ≡ i + 1 = omega arith in
    subst (λ (k : ℕ). ComeFrom us (drop k ks) (set gs v NO_UPDATE)) e (λ u. at u (cases_eq u v))
  where
    rest : (u n : ℕ) → u ≢ v → (get_or us n d).vertex ≡ u → Contains (drop i ks) n → Contains (drop (suc i) ks) n
    rest u n ne own c = either (contains_cons (get_or ks i 0) n (drop (suc i) ks) (subst (λ (xs : List ℕ). Contains xs n) (drop-cons ks i 0 l) c))
      where
        either : (get_or ks i 0 ≡ n) ⊎ Contains (drop (suc i) ks) n → Contains (drop (suc i) ks) n
        either (inl e) = absurd (ne (sym own ∙ (ap (λ (k : ℕ). (get_or us k d).vertex) (sym e) ∙ sym here)))
        either (inr c) = c

    other : (u : ℕ) → u ≢ v
        → (get_or gs u NO_UPDATE ≡ NO_UPDATE) ⊎ (Contains (drop i ks) (get_or gs u NO_UPDATE) ×
        ((x : UpdateValue) → (get_or us (get_or gs u NO_UPDATE) x).vertex ≡ u))
        → (get_or gs u NO_UPDATE ≡ NO_UPDATE) ⊎ (Contains (drop (suc i) ks) (get_or gs u NO_UPDATE) ×
        ((x : UpdateValue) → (get_or us (get_or gs u NO_UPDATE) x).vertex ≡ u))
    other u ne (inl e) = inl e
    other u ne (inr c) = inr (rest u (get_or gs u NO_UPDATE) ne (c.1 d) c.0, c.1)

    at : (u : ℕ) → (u ≡ v) ⊎ (u ≢ v)
        → (get_or (set gs v NO_UPDATE) u NO_UPDATE ≡ NO_UPDATE) ⊎ (Contains (drop (suc i) ks) (get_or (set gs v NO_UPDATE) u NO_UPDATE) ×
        ((x : UpdateValue) → (get_or us (get_or (set gs v NO_UPDATE) u NO_UPDATE) x).vertex ≡ u))
    at u (inl e) = inl (ap (λ (x : ℕ). get_or (set gs v NO_UPDATE) x NO_UPDATE) e ∙ get_or-set_same gs v NO_UPDATE NO_UPDATE within)
    at u (inr ne) = rw (get_or-set_other gs v u NO_UPDATE NO_UPDATE ne) (other u ne (from u))

all_same : (k : ℕ) (gs : List ℕ) → ((v : ℕ) → get_or gs v k ≡ k) → gs ≡ replicate (length gs) k
all_same k [] e = refl
all_same k (g ∷ gs) e = cons_same g k gs (replicate (length gs) k) (e zero) (all_same k gs (λ v. e (suc v)))

-- none are left
pub all_cleared : (us : List UpdateValue) (gs : List ℕ) → ComeFrom us [] gs → gs ≡ replicate (length gs) NO_UPDATE
all_cleared us gs from = all_same NO_UPDATE gs (λ v. at v (from v))
  where
    at : (v : ℕ)
        → (get_or gs v NO_UPDATE ≡ NO_UPDATE) ⊎ (Contains [] (get_or gs v NO_UPDATE) × ((x : UpdateValue) → (get_or us (get_or gs v NO_UPDATE) x).vertex ≡ v))
        → get_or gs v NO_UPDATE ≡ NO_UPDATE
    at v (inl e) = e
    at v (inr c) = absurd (contains_none (get_or gs v NO_UPDATE) c.0)
