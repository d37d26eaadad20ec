-- The places of a table.
use Rattle.pg_aiger.proofs.Common.{◌≡◌, ℕ, zero, suc, ◌+◌, ◌*◌, ◌/◌, ◌%◌, ◌^◌, ◌<◌, ◌≤◌, inl, inr, Bool, true, false, ◌&&◌, ◌||◌, List, []}
use Rattle.pg_aiger.proofs.Common.{◌∷◌, ◌++◌, length, get_or, length-append, arith, refl, sym, subst, ap, ◌∙◌, add-one, pow-add}
use Rattle.pg_aiger.proofs.Common.{slice_index, cases_lt, cases_eq, eq-eqb, ne_eqb, mod-eq_of_lt, div-lt_iff_lt-mul, mul-le-mul_left}
use Rattle.pg_aiger.proofs.Common.{Valuation, value, bit, Drafted, IsLiteral, Extends, Means, any_below, MeanEach, get_or-append}
use Rattle.pg_aiger.proofs.Common.{get_or-append_seam}
use Rattle.pg_aiger.proofs.Matches.{extends_more}

pub whole_quotient : (n k b : ℕ) → n < 2 ^ (k + b) → n / 2 ^ k % 2 ^ b ≡ n / 2 ^ k
whole_quotient n k b h = mod-eq_of_lt (grind (arith, div-lt_iff_lt-mul, pow-add, h))

pub wider : (m k : ℕ) (a b : Drafted) → m ≤ k → Extends m a b → Extends k a b
wider m k a b le x = record { base = x.base; kept = x.kept; longer = x.longer; shorter = (let s = x.shorter in omega (arith, s)) }

-- the or of one more place
pub more_set : (v : Valuation) (literals values : List ℕ) (which place lit old : ℕ) → slice_index values place / 2 ^ which % 2 ≡ 1
    → value v old ≡ any_below v literals values which place
    → value v lit ≡ (value v old || value v (slice_index literals place))
    → value v lit ≡ any_below v literals values which (place + 1)
more_set v literals values which place lit old set h e =
    e ∙ ap (λ q. q || value v (slice_index literals place)) h
    ∙ ap (λ q. any_below v literals values which place || (q && value v (slice_index literals place)))
    (sym (eq-eqb (slice_index values place / 2 ^ which % 2) 1 set))
    ∙ ap (any_below v literals values which) (sym (add-one place))

or_false : (q : Bool) → q ≡ (q || false)
or_false true = refl
or_false false = refl

pub more_clear : (v : Valuation) (literals values : List ℕ) (which place lit : ℕ) → (slice_index values place / 2 ^ which % 2 ≡ 1 → ⊥)
    → value v lit ≡ any_below v literals values which place → value v lit ≡ any_below v literals values which (place + 1)
more_clear v literals values which place lit clear h =
    h ∙ or_false (any_below v literals values which place)
    ∙ ap (λ q. any_below v literals values which place || (q && value v (slice_index literals place)))
    (sym (ne_eqb (slice_index values place / 2 ^ which % 2) 1 clear))
    ∙ ap (any_below v literals values which) (sym (add-one place))

-- where the valuation is of one place, the disjunction is that place's which
pub any_at : (v : Valuation) (literals values : List ℕ) (which place count : ℕ) → place < count
    → value v (slice_index literals place) ≡ true
    → ((other : ℕ) → other < count → ¬ (other ≡ place) → value v (slice_index literals other) ≡ false)
    → any_below v literals values which count ≡ bit (slice_index values place) which
any_at v literals values which place zero l t f = absurd (omega arith)
any_at v literals values which place (suc count) l t f = elim (cases_eq place count) [
  | inl e ↦
      let none : any_below v literals values which count ≡ false = none_below count (λ other h. f other (omega arith) (λ g. omega arith)) in
      ap (λ q. q || (bit (slice_index values count) which && value v (slice_index literals count))) none
      ∙ ap (λ i. bit (slice_index values i) which && value v (slice_index literals i)) (sym e)
      ∙ ap (λ q. bit (slice_index values place) which && q) t ∙ and_true (bit (slice_index values place) which)
  | inr ne ↦
      let later : value v (slice_index literals count) ≡ false = f count (omega arith) (λ e. ne (sym e)) in
      ap (λ q. any_below v literals values which count || (bit (slice_index values count) which && q)) later
      ∙ drop_last (any_below v literals values which count) (bit (slice_index values count) which)
      ∙ any_at v literals values which place count (omega arith) t (λ other h. f other (omega arith))
]
  where
    and_true : (q : Bool) → (q && true) ≡ q
    and_true true = refl
    and_true false = refl

    drop_last : (p q : Bool) → (p || (q && false)) ≡ p
    drop_last true q = refl
    drop_last false true = refl
    drop_last false false = refl

    clear : (q : Bool) → (q && false) ≡ false
    clear true = refl
    clear false = refl

    none_below : (n : ℕ) → ((other : ℕ) → other < n → value v (slice_index literals other) ≡ false) → any_below v literals values which n ≡ false
    none_below zero h = refl
    none_below (suc n) h =
        ap (λ q. q || (bit (slice_index values n) which && value v (slice_index literals n))) (none_below n (λ other l. h other (omega arith)))
        ∙ ap (λ q. bit (slice_index values n) which && q) (h n (omega arith)) ∙ clear (bit (slice_index values n) which)

-- one more literal of a list

pub extends_times : (n w : ℕ) (a b c : Drafted) → Extends (n * w) a b → Extends w b c → Extends ((n + 1) * w) a c
extends_times n w a b c x y = extends_more (n * w) w ((n + 1) * w) a b c (grind arith) x y

pub extends_within : (n w count : ℕ) (a b c : Drafted) → n < count → Extends (n * w) a b → Extends w b c → Extends (count * w) a c
extends_within n w count a b c lt x y =
    wider ((n + 1) * w) (count * w) a c (let h : w * (n + 1) ≤ w * count = mul-le-mul_left w (omega arith) in grind (arith, h)) (extends_times n w a b c x y)

pub means_more : (n : ℕ) (a b : Drafted) (l : ℕ) (meaning : Valuation → Bool) → Extends n a b → Means a l meaning → Means b l meaning
means_more n a b l meaning x m v constant s = m v constant (x.kept v s)

pub literal_more : (n : ℕ) (a b : Drafted) (l : ℕ) → Extends n a b → IsLiteral a l → IsLiteral b l
literal_more n a b l x h = let e = x.base in let g = x.longer in omega (arith, e, g, h)

pub mean_push : (n : ℕ) (a b : Drafted) (meanings : ℕ → Valuation → Bool) (old new : List ℕ) (place l : ℕ) → Extends n a b
    → new ≡ old ++ l ∷ [] → length old ≡ place → MeanEach a meanings old → IsLiteral b l → Means b l (meanings place) → MeanEach b meanings new
mean_push n a b meanings old new place l x e len m lit mean = subst (MeanEach b meanings) (sym e) (record {
  literal = λ i h. elim (cases_lt i (length old)) [
    | inl k ↦ subst (IsLiteral b) (sym (get_or-append old (l ∷ []) 0 i k)) (literal_more n a b (get_or old i 0) x (m.literal i k))
    | inr k ↦ subst (IsLiteral b) (sym (at_end i k h)) lit
  ];
  meaning = λ i h. elim (cases_lt i (length old)) [
    | inl k ↦ subst (λ y. Means b y (meanings i)) (sym (get_or-append old (l ∷ []) 0 i k)) (means_more n a b (get_or old i 0) (meanings i) x (m.meaning i k))
    | inr k ↦
        let f : place ≡ i = (let z = is_end i k h in omega (arith, z, len)) in
        subst (λ y. Means b y (meanings i)) (sym (at_end i k h)) (subst (λ j. Means b l (meanings j)) f mean)
  ];
})
  where
    is_end : (i : ℕ) → length old ≤ i → i < length (old ++ l ∷ []) → i ≡ length old
    is_end i k h = let h' : i < length old + 1 = rw (length-append old (l ∷ [])) at h in omega arith

    at_end : (i : ℕ) → length old ≤ i → i < length (old ++ l ∷ []) → get_or (old ++ l ∷ []) i 0 ≡ l
    at_end i k h = subst (λ j. get_or (old ++ l ∷ []) j 0 ≡ l) (sym (is_end i k h)) (get_or-append_seam old l [] 0)
