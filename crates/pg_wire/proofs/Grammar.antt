-- What a format reads is spelled so and fits, and what fits and is spelled so is read.
use Rattle.pg_wire.proofs.Common.{◌≡◌, ℕ, zero, suc, ◌+◌, ◌%◌, ◌^◌, ◌<◌, ◌≤◌, Bool, true, false, cond, ltb, List, [], ◌∷◌, ◌++◌, length}
use Rattle.pg_wire.proofs.Common.{get_or, take, drop, Option, Some, None, Result, Ok, Err, refl, sym, ap, subst, ◌∙◌, append_assoc, arith}
use Rattle.pg_wire.proofs.Common.{inl, inr, IfSome, nat_le, nat_lt, ◌&&◌, ◌==◌, ⊤, flat_map, w32, from_be_bytes, cases_lt, ltb-false}
use Rattle.pg_wire.proofs.Common.{le-ltb, ltb-true, lt-ltb, leb-true, le-leb, eqb-true, eq-eqb, take_at, drop_at, take-append-drop}
use Rattle.pg_wire.proofs.Common.{length-append, length-take, get_or-drop, get_or-take, get_or_past, flat_map-cons, be_bytes_4}
use Rattle.pg_wire.proofs.Common.{from_be_bytes-to_be_bytes_4, FieldFault, At, Version, word, IsWord, Steps, ◌>>=◌, made, number_at}
use Rattle.pg_wire.proofs.Common.{within_at, odd_at, byte_at, version_at, items_at, headed_at, counted_at, Format, Kind, and_then, seen}
use Rattle.pg_wire.proofs.Common.{said, within, number, odd, byte, version, nothing, headed, placed, so_many, listed, rising}
use Rattle.pg_wire.specs.Spelling as spelling
use Rattle.pg_wire.specs.Mirrors.Ordered as order
use Rattle.pg_wire.proofs.Orders.{Follow, ordered, follow}

abbrev pub IsBytes : List ℕ → Type 0
IsBytes bytes = (i : ℕ) → get_or bytes i 0 < 256

pub IsBytes-drop : (n : ℕ) (bytes : List ℕ) → IsBytes bytes → IsBytes (drop n bytes)
IsBytes-drop n bytes h i = rw get_or-drop (h (n + i))

pub IsBytes-take : (n : ℕ) (bytes : List ℕ) → IsBytes bytes → IsBytes (take n bytes)
IsBytes-take n bytes h i =
    elim (cases_lt i n) [
      | inl lt ↦ rw (get_or-take n bytes i 0 lt) (h i)
      | inr le ↦ rw (get_or_past (take n bytes) i 0 (omega (arith, length-take n bytes))) (omega arith)
    ]

pub bind_ok : {A B : Type 0} (r : Result A FieldFault) (f : A → Result B FieldFault) (y : B) → (r >>= f) ≡ Ok y → (x : A) × (r ≡ Ok x) × (f x ≡ Ok y)
bind_ok (Ok x) f y e = (x, refl, e)
bind_ok (Err d) f y e = absurd cc

guard_ok : {A : Type 0} (b : Bool) (d : FieldFault) (x y : A) → cond b (Err d) (Ok x) ≡ Ok y → (b ≡ false) × (x ≡ y)
guard_ok true d x y e = absurd cc
guard_ok false d x y e = (refl, cc)

pub test_ok : {A : Type 0} (b : Bool) (d : FieldFault) (x y : A) → cond b (Ok x) (Err d) ≡ Ok y → (b ≡ true) × (x ≡ y)
test_ok true d x y e = (refl, cc)
test_ok false d x y e = absurd cc

abbrev done : {A : Type 0} → A → Result A FieldFault
done x = Ok x

pub ok_is : {A : Type 0} (x y : A) → done x ≡ done y → x ≡ y
ok_is x y e = cc

-- the bytes are a text and the rest
pub record Begins (bytes text rest : List ℕ) : Type 0 where
  pub parts : bytes ≡ text ++ rest
  pub rest_fits : IsBytes rest

Begins-then : (a x b y c : List ℕ) → Begins a x b → Begins b y c → Begins a (x ++ y) c
Begins-then a x b y c p q = record { parts = p.parts ∙ ap (λ (t : List ℕ). x ++ t) q.parts ∙ sym (append_assoc x y c); rest_fits = q.rest_fits }

-- a format takes no more than what it spells, and reads it back
pub record IsForm {A : Type 0} (f : Format A) : Type 0 where
  pub reads_only : (bytes : List ℕ) (x : A × List ℕ) → IsBytes bytes → f.read bytes ≡ Ok x → Begins bytes (f.spelled x.0) x.1 × f.Fits x.0
  pub reads_back : (x : A) (rest : List ℕ) → f.Fits x → f.read (f.spelled x ++ rest) ≡ Ok (x, rest)

-- ---- from formats to formats

pub then_is : {A B : Type 0} {f : Format A} {g : A → Format B} → IsForm f → ((a : A) → f.Fits a → IsForm (g a)) → IsForm (and_then f g)
then_is {A} {B} {f} {g} fa fb = record {
  reads_only = λ bytes x h e.
      let p = bind_ok (f.read bytes) (λ a. (g a.0).read a.1 >>= λ b. Ok ((a.0, b.0), b.1)) x e in
      let t = fa.reads_only bytes p.0 h p.1 in
      let q = bind_ok ((g p.0.0).read p.0.1) (λ b. Ok ((p.0.0, b.0), b.1)) x p.2 in
      let u = (fb p.0.0 t.1).reads_only p.0.1 q.0 t.0.rest_fits q.1 in
      let made_is : (A × B) × List ℕ = ((p.0.0, q.0.0), q.0.1) in
      let P : (A × B) × List ℕ → Type 0 = λ y. Begins bytes (f.spelled y.0.0 ++ (g y.0.0).spelled y.0.1) y.1 × (f.Fits y.0.0 × (g y.0.0).Fits y.0.1) in
      subst P (ok_is made_is x q.2) (Begins-then bytes (f.spelled p.0.0) p.0.1 ((g p.0.0).spelled q.0.0) q.0.1 t.0 u.0, (t.1, u.1));
  reads_back = λ x rest h.
      let more : List ℕ = (g x.0).spelled x.1 ++ rest in
      let first : f.read ((f.spelled x.0 ++ (g x.0).spelled x.1) ++ rest) ≡ Ok (x.0, more) =
      ap f.read (append_assoc (f.spelled x.0) ((g x.0).spelled x.1) rest) ∙ fa.reads_back x.0 more h.0 in
      rw (first, (fb x.0 h.0).reads_back x.1 rest h.1) refl;
}

pub seen_is : {A B : Type 0} {f : Format A} {make : A → B} {parts : B → A} {Fits : B → Type 0} → IsForm f
    → ((a : A) → f.Fits a → parts (make a) ≡ a) → ((b : B) → Fits b → make (parts b) ≡ b)
    → ((a : A) → f.Fits a → Fits (make a)) → ((b : B) → Fits b → f.Fits (parts b)) → IsForm (seen make parts Fits f)
seen_is {A} {B} {f} {make} {parts} {Fits} fa there back up down = record {
  reads_only = λ bytes x h e.
      let p = bind_ok (f.read bytes) (λ a. Ok (make a.0, a.1)) x e in
      let t = fa.reads_only bytes p.0 h p.1 in
      let made_is : B × List ℕ = (make p.0.0, p.0.1) in
      let P : B × List ℕ → Type 0 = λ y. Begins bytes (f.spelled (parts y.0)) y.1 × Fits y.0 in
      subst P (ok_is made_is x p.2) (subst (λ (a : A). Begins bytes (f.spelled a) p.0.1) (sym (there p.0.0 t.1)) t.0, up p.0.0 t.1);
  reads_back = λ b rest h. rw (fa.reads_back (parts b) rest (down b h), back b h) refl;
}

pub said_is : {A : Type 0} {f : Format A} {Fits : A → Type 0} → IsForm f → ((a : A) → f.Fits a → Fits a) → ((a : A) → Fits a → f.Fits a) → IsForm (said Fits f)
said_is fa up down = record {
  reads_only = λ bytes x h e. let t = fa.reads_only bytes x h e in (t.0, up x.0 t.1);
  reads_back = λ a rest h. fa.reads_back a rest (down a h);
}

-- ---- numbers

number_reads_only : (bytes : List ℕ) (x : ℕ × List ℕ) → IsBytes bytes → number_at bytes ≡ Ok x → Begins bytes (word x.0) x.1 × IsWord x.0
number_reads_only bytes x fits e =
    let g = guard_ok (ltb (length bytes) 4) (At (length bytes)) (from_be_bytes w32 (take 4 bytes), drop 4 bytes) x e in
    let long : 4 ≤ length bytes = ltb-false _ _ g.0 in
    let len : length (take 4 bytes) ≡ 4 = omega (arith, length-take 4 bytes) in
    let front : word (from_be_bytes w32 (take 4 bytes)) ≡ take 4 bytes = be_bytes_4 (take 4 bytes) _ len (IsBytes-take 4 bytes fits) refl in
    let small : IsBytes (take 4 bytes) = IsBytes-take 4 bytes fits in
    subst (λ (y : ℕ × List ℕ). Begins bytes (word y.0) y.1 × IsWord y.0) g.1 (
      record { parts = sym (take-append-drop 4 bytes) ∙ ap (λ (t : List ℕ). t ++ drop 4 bytes) (sym front); rest_fits = IsBytes-drop 4 bytes fits },
      omega (arith, small 0, small 1, small 2, small 3),
    )

number_front : (front rest : List ℕ) → length front ≡ 4 → number_at (front ++ rest) ≡ Ok (from_be_bytes w32 front, rest)
number_front front rest len =
    let long : ltb (length (front ++ rest)) 4 ≡ false = le-ltb _ _ (omega (arith, length-append front rest)) in
    rw (long, take_at front rest 4 len, drop_at front rest 4 len) refl

number_reads_back : (n : ℕ) (rest : List ℕ) → IsWord n → number_at (word n ++ rest) ≡ Ok (n, rest)
number_reads_back n rest lt = number_front (word n) rest refl ∙ ap (λ (k : ℕ). Ok (k, rest)) (from_be_bytes-to_be_bytes_4 n lt)

pub and_both : (a b : Bool) → (a && b) ≡ true → (a ≡ true) × (b ≡ true)
and_both true b e = (refl, e)
and_both false b e = absurd cc

pub within_is : (low high : ℕ) → IsForm (within low high)
unfolding within_at
within_is low high = record {
  reads_only = λ bytes x h e.
      let p = bind_ok (number_at bytes) (λ n. cond (nat_le low n.0 && nat_lt n.0 high) (Ok n) (Err (At (length bytes)))) x e in
      let t = number_reads_only bytes p.0 h p.1 in
      let g = test_ok (nat_le low p.0.0 && nat_lt p.0.0 high) (At (length bytes)) p.0 x p.2 in
      let k = and_both (nat_le low p.0.0) (nat_lt p.0.0 high) g.0 in
      subst (λ (y : ℕ × List ℕ). Begins bytes (word y.0) y.1 × ((low ≤ y.0) × (y.0 < high) × IsWord y.0)) g.1 (t.0, (leb-true _ _ k.0, ltb-true _ _ k.1, t.1));
  reads_back = λ n rest h.
      let a : nat_le low n ≡ true = le-leb _ _ h.0 in
      let b : nat_lt n high ≡ true = lt-ltb _ _ h.1 in
      rw (number_reads_back n rest h.2, a, b) refl;
}

pub number_is : (low : ℕ) → IsForm (number low)
number_is low = said_is (within_is low (2 ^ 32)) (λ n h. (h.0, h.2)) (λ n h. (h.0, h.1, h.1))

pub odd_is : (high : ℕ) → IsForm (odd high)
unfolding odd_at
odd_is high = record {
  reads_only = λ bytes x h e.
      let p = bind_ok (within_at 1 high bytes) (λ n. cond (n.0 % 2 == 1) (Ok n) (Err (At (length bytes)))) x e in
      let t = (within_is 1 high).reads_only bytes p.0 h p.1 in
      let g = test_ok (p.0.0 % 2 == 1) (At (length bytes)) p.0 x p.2 in
      subst (λ (y : ℕ × List ℕ). Begins bytes (word y.0) y.1 × ((y.0 < high) × IsWord y.0 × (y.0 % 2 ≡ 1))) g.1 (t.0, (t.1.1, t.1.2, eqb-true _ _ g.0));
  reads_back = λ n rest h. rw ((within_is 1 high).reads_back n rest (omega (arith, h.2), h.0, h.1), eq-eqb _ _ h.2) refl;
}

byte_reads_only : (high : ℕ) (bytes : List ℕ) (x : ℕ × List ℕ) → IsBytes bytes → byte_at high bytes ≡ Ok x → Begins bytes (x.0 ∷ []) x.1 × (x.0 < high)
unfolding byte_at
byte_reads_only high [] x h e = absurd cc
byte_reads_only high (b ∷ rest) x h e =
    let g = test_ok (nat_lt b high) (At (suc (length rest))) (b, rest) x e in
    subst (λ (y : ℕ × List ℕ). Begins (b ∷ rest) (y.0 ∷ []) y.1 × (y.0 < high)) g.1 (record { parts = refl; rest_fits = λ i. h (suc i) }, ltb-true _ _ g.0)

pub byte_is : (high : ℕ) → IsForm (byte high)
unfolding byte_at
byte_is high = record { reads_only = byte_reads_only high; reads_back = λ b rest h. rw (lt-ltb _ _ h) refl }

version_reads_only : (bytes : List ℕ) (x : ℕ × List ℕ) → IsBytes bytes → version_at bytes ≡ Ok x → Begins bytes (x.0 ∷ []) x.1 × ((1 ≤ x.0) × (x.0 < 3))
unfolding version_at
version_reads_only [] x h e = absurd cc
version_reads_only (b ∷ rest) x h e =
    let g = test_ok (nat_le 1 b && nat_lt b 3) Version (b, rest) x e in
    let k = and_both (nat_le 1 b) (nat_lt b 3) g.0 in
    subst (λ (y : ℕ × List ℕ). Begins (b ∷ rest) (y.0 ∷ []) y.1 × ((1 ≤ y.0) × (y.0 < 3))) g.1
    (record { parts = refl; rest_fits = λ i. h (suc i) }, (leb-true _ _ k.0, ltb-true _ _ k.1))

pub version_is : IsForm version
unfolding version_at
version_is = record {
  reads_only = version_reads_only;
  reads_back = λ b rest h.
      let low : nat_le 1 b ≡ true = le-leb _ _ h.0 in
      let high : nat_lt b 3 ≡ true = lt-ltb _ _ h.1 in
      rw (low, high) refl;
}

pub nothing_is : IsForm nothing
nothing_is = record {
  reads_only = λ bytes x h e. let none : ⊤ × List ℕ = (tt, bytes) in
      subst (λ (y : ⊤ × List ℕ). Begins bytes [] y.1 × ⊤) (ok_is none x e) (record { parts = refl; rest_fits = h }, tt);
  reads_back = λ x rest h. refl;
}

headed_reads_only : {A : Type 0} {f : Format A} → IsForm f → (v : ℕ)
    → (t : ℕ × List ℕ) (x : (ℕ × Option A) × List ℕ) → IsBytes t.1 → t.0 < 2 → cond (t.0 == 0) (made (λ a. (v, Some a)) f.read t.1) (Ok ((v, None), t.1)) ≡ Ok x
    → Begins (word v ++ t.0 ∷ t.1) (word x.0.0 ++ spelling.tagged f.spelled x.0.1) x.1 × (v ≡ x.0.0) × IfSome x.0.1 f.Fits
headed_reads_only {A} {f} is v (zero, bytes) x h lt e =
    let p = bind_ok (f.read bytes) (λ a. Ok ((v, Some a.0), a.1)) x e in
    let t = is.reads_only bytes p.0 h p.1 in
    let some : (ℕ × Option A) × List ℕ = ((v, Some p.0.0), p.0.1) in
    let P : (ℕ × Option A) × List ℕ → Type 0 = λ y. Begins (word v ++ 0 ∷ bytes) (word y.0.0 ++ spelling.tagged f.spelled y.0.1) y.1 × (v ≡ y.0.0) × IfSome y.0.1 f.Fits in
    subst P (ok_is some x p.2) (record { parts = ap (λ (s : List ℕ). word v ++ 0 ∷ s) t.0.parts; rest_fits = t.0.rest_fits }, refl, t.1)
headed_reads_only {A} {f} is v (suc n, bytes) x h lt e =
    let none : (ℕ × Option A) × List ℕ = ((v, None), bytes) in
    let one : n ≡ 0 = omega arith in
    let P : (ℕ × Option A) × List ℕ → Type 0 = λ y. Begins (word v ++ suc n ∷ bytes) (word y.0.0 ++ spelling.tagged f.spelled y.0.1) y.1 × (v ≡ y.0.0) × IfSome y.0.1 f.Fits in
    subst P (ok_is none x (rw one at e)) (record { parts = rw one refl; rest_fits = h }, refl, tt)

pub head_is : (low : ℕ) → IsForm (and_then (number low) (λ _. byte 2))
head_is low = then_is (number_is low) (λ _ _. byte_is 2)

headed_reads_back : {A : Type 0} {f : Format A} → IsForm f → (low : ℕ)
    → (x : ℕ × Option A) (rest : List ℕ) → (headed low f).Fits x → headed_at low f.read ((headed low f).spelled x ++ rest) ≡ Ok (x, rest)
unfolding headed_at
headed_reads_back is low (v, None) rest h = rw ((head_is low).reads_back (v, 1) rest (h.0, omega arith)) refl
headed_reads_back {A} {f} is low (v, Some x) rest h =
    rw ((head_is low).reads_back (v, 0) (f.spelled x ++ rest) (h.0, omega arith), is.reads_back x rest h.1) refl

pub headed_is : {A : Type 0} {f : Format A} → IsForm f → (low : ℕ) → IsForm (headed low f)
unfolding headed_at
headed_is {A} {f} is low = record {
  reads_only = λ bytes x h e.
      let p = bind_ok ((and_then (number low) (λ _. byte 2)).read bytes)
      (λ t. cond (t.0.1 == 0) (made (λ a. (t.0.0, Some a)) f.read t.1) (Ok ((t.0.0, None), t.1))) x e in
      let t = (head_is low).reads_only bytes p.0 h p.1 in
      let u = headed_reads_only is p.0.0.0 (p.0.0.1, p.0.1) x t.0.rest_fits t.1.1 p.2 in
      (record { parts = t.0.parts ∙ u.0.parts; rest_fits = u.0.rest_fits }, (subst (λ (n : ℕ). (low ≤ n) × IsWord n) u.1 t.1.0, u.2));
  reads_back = headed_reads_back is low;
}

-- ---- lists

pub record IsKind {A : Type 0} (k : Kind A) (limit : ℕ) : Type 0 where
  pub form : (at : ℕ) → at ≤ limit → IsForm (placed k at)
  pub steps : Steps k.Stands k.Precedes k.next
  pub low : (x : A) → k.IsItem x → k.next x ≤ limit

items_read_only : {A : Type 0} {k : Kind A} {limit : ℕ} → IsKind k limit → (n at : ℕ) → at ≤ limit → (bytes : List ℕ) (x : List A × List ℕ)
    → IsBytes bytes → items_at k.read k.next n at bytes ≡ Ok x → Begins bytes (flat_map k.spelled x.0) x.1 × (length x.0 ≡ n) × Follow k at x.0
unfolding items_at
items_read_only {A} {k} {limit} is zero at le bytes x h e =
    let none : List A × List ℕ = ([], bytes) in
    let P : List A × List ℕ → Type 0 = λ y. Begins bytes (flat_map k.spelled y.0) y.1 × (length y.0 ≡ 0) × Follow k at y.0 in
    subst P (ok_is none x e) (record { parts = refl; rest_fits = h }, refl, tt)
items_read_only {A} {k} {limit} is (suc n) at le bytes x h e =
    let p = bind_ok (k.read at bytes) (λ a. items_at k.read k.next n (k.next a.0) a.1 >>= λ xs. Ok (a.0 ∷ xs.0, xs.1)) x e in
    let t = (is.form at le).reads_only bytes p.0 h p.1 in
    let q = bind_ok (items_at k.read k.next n (k.next p.0.0) p.0.1) (λ xs. Ok (p.0.0 ∷ xs.0, xs.1)) x p.2 in
    let u = items_read_only is n (k.next p.0.0) (is.low p.0.0 t.1.1) p.0.1 q.0 t.0.rest_fits q.1 in
    let text : Begins bytes (k.spelled p.0.0 ++ flat_map k.spelled q.0.0) q.0.1 = Begins-then bytes (k.spelled p.0.0) p.0.1 (flat_map k.spelled q.0.0) q.0.1 t.0 u.0 in
    let made_is : List A × List ℕ = (p.0.0 ∷ q.0.0, q.0.1) in
    let P : List A × List ℕ → Type 0 = λ y. Begins bytes (flat_map k.spelled y.0) y.1 × (length y.0 ≡ suc n) × Follow k at y.0 in
    subst P (ok_is made_is x q.2) (rw flat_map-cons text, ap suc u.1, (t.1, u.2))

items_read_back : {A : Type 0} {k : Kind A} {limit : ℕ} → IsKind k limit → (at : ℕ) → at ≤ limit → (xs : List A) (rest : List ℕ) → Follow k at xs
    → items_at k.read k.next (length xs) at (flat_map k.spelled xs ++ rest) ≡ Ok (xs, rest)
unfolding items_at
items_read_back is at le [] rest h = refl
items_read_back {A} {k} {limit} is at le (x ∷ xs) rest h =
    let regrouped : flat_map k.spelled (x ∷ xs) ++ rest ≡ k.spelled x ++ (flat_map k.spelled xs ++ rest) =
    ap (λ (s : List ℕ). s ++ rest) (flat_map-cons k.spelled x xs) ∙ append_assoc (k.spelled x) (flat_map k.spelled xs) rest in
    ap (items_at k.read k.next (suc (length xs)) at) regrouped ∙ rw (
      (is.form at le).reads_back x (flat_map k.spelled xs ++ rest) h.0,
      items_read_back is (k.next x) (is.low x h.0.1) xs rest h.1,
    ) refl

pub so_many_is : {A : Type 0} {k : Kind A} {limit : ℕ} → IsKind k limit → (n at : ℕ) → at ≤ limit → IsForm (so_many k n at)
so_many_is {A} {k} {limit} is n at le = record {
  reads_only = λ bytes x h e. let r = items_read_only is n at le bytes x h e in (r.0, (r.1, ordered k is.steps at x.0 r.2));
  reads_back = λ xs rest h. ap (λ (m : ℕ). items_at k.read k.next m at (flat_map k.spelled xs ++ rest)) (sym h.0)
      ∙ items_read_back is at le xs rest (follow k is.steps at xs h.1);
}

pub listed_is : {A : Type 0} {k : Kind A} {limit : ℕ} → IsKind k limit → (least high at : ℕ) → at ≤ limit → IsForm (listed k least high at)
unfolding counted_at
listed_is {A} {k} {limit} is least high at le = record {
  reads_only = λ bytes x h e.
      let p = bind_ok (within_at least high bytes) (λ n. items_at k.read k.next n.0 at n.1) x e in
      let t = (within_is least high).reads_only bytes p.0 h p.1 in
      let u = (so_many_is is p.0.0 at le).reads_only p.0.1 x t.0.rest_fits p.2 in
      let text : Begins bytes (word p.0.0 ++ flat_map k.spelled x.0) x.1 = Begins-then bytes (word p.0.0) p.0.1 (flat_map k.spelled x.0) x.1 t.0 u.0 in
      let P : ℕ → Type 0 = λ n. Begins bytes (word n ++ flat_map k.spelled x.0) x.1 × ((least ≤ n) × (n < high) × IsWord n) in
      let whole = subst P (sym u.1.0) (text, t.1) in
      (whole.0, (whole.1, u.1.1));
  reads_back = λ xs rest h.
      let first : within_at least high ((word (length xs) ++ flat_map k.spelled xs) ++ rest) ≡ Ok (length xs, flat_map k.spelled xs ++ rest) =
      ap (within_at least high) (append_assoc (word (length xs)) (flat_map k.spelled xs) rest)
      ∙ (within_is least high).reads_back (length xs) (flat_map k.spelled xs ++ rest) h.0 in
      rw first ((so_many_is is (length xs) at le).reads_back xs rest (refl, h.1));
}

pub rising_is : {A : Type 0} {key : A → ℕ} {spelled : A → List ℕ} {IsItem : A → Type 0} {f : ℕ → Format A}
    → ((low : ℕ) → IsForm (f low)) → ((low : ℕ) (x : A) → (f low).spelled x ≡ spelled x)
    → ((low : ℕ) (x : A) → (f low).Fits x → (low ≤ key x) × IsItem x) → ((low : ℕ) (x : A) → (low ≤ key x) × IsItem x → (f low).Fits x)
    → ((x : A) → IsItem x → IsWord (key x)) → IsKind (rising key spelled IsItem (λ low. (f low).read)) (2 ^ 32)
rising_is {A} {key} {spelled} {IsItem} {f} is spelt up down small = record {
  form = λ at le. record {
    reads_only = λ bytes x h e. let t = (is at).reads_only bytes x h e in (subst (λ (s : List ℕ). Begins bytes s x.1) (spelt at x.0) t.0, up at x.0 t.1);
    reads_back = λ x rest h. ap (λ (s : List ℕ). (f at).read (s ++ rest)) (sym (spelt at x)) ∙ (is at).reads_back x rest (down at x h);
  };
  steps = order.rising key;
  low = λ x h. omega (arith, small x h);
}
