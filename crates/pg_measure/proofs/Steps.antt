-- What a step of one row leaves.
use Rattle.pg_measure.proofs.Common.{◌≡◌, ℕ, zero, suc, ◌+◌, ◌-◌, ◌<◌, ◌≤◌, Bool, true, false, Some, None, List, [], ◌∷◌, length, get_or}
use Rattle.pg_measure.proofs.Common.{take, drop, set, replicate, refl, sym, ◌∙◌, arith, add-one, subst, ap, append-nil, length-take}
use Rattle.pg_measure.proofs.Common.{length-drop, inl, inr, ◌⊎◌, common_steps, cases_lt, BoundList, MeasureValue, Fits, ListFits, AtMost}
use Rattle.pg_measure.proofs.Common.{CoversFront, IsLeastCover, measure_of, cleared}
use borrow.Rule.Slice.PartMut.{put_mid}
use Rattle.pg_measure.proofs.Rows.{cleared-is, raised, raised-is, same_length, cleared_fits, raised_fits, cleared_covers, raised_covers}
use Rattle.pg_measure.proofs.Rows.{cleared_least, raised_least, none_above}

pub clear_put : (a : ℕ) (xs ys : List ℕ) → a ≤ length xs → ys ≡ replicate (length (take (length xs - a) (drop a xs))) 0
    → put_mid a (length xs - a) xs ys ≡ cleared a xs
clear_put a xs ys h e =
    let l : length (take (length xs - a) (drop a xs)) ≡ length xs - a = simp (length-take, length-drop) (omega arith) in
    let f : ys ≡ replicate (length xs - a) 0 = rw l at e in
    let none : drop (length xs - a) (drop a xs) ≡ [] = grind (arith, common_steps) in
    rw (f, none, append-nil) (cleared-is a xs)

-- where nothing is behind it, nothing is cleared
pub clear_none : (a : ℕ) (xs : List ℕ) → length xs ≤ a → xs ≡ cleared a xs
clear_none a [] h = refl
clear_none zero (x ∷ xs) h = absurd (omega arith)
clear_none (suc a) (x ∷ xs) h = ap (λ t. x ∷ t) (clear_none a xs (omega arith))

none_least : (bs : BoundList) (strict : Bool) (w : ℕ) (n : MeasureValue) → CoversFront strict w n None → AtMost None n
none_least bs strict w None h = tt
none_least bs strict w (Some ys) h = absurd h

pub top_stays : (bs : BoundList) (strict : Bool) (w : ℕ) → IsLeastCover bs strict w None None
top_stays bs strict w = record { fits = tt; covers = tt; least = λ n f h. none_least bs strict w n h }

still_least : (bs : BoundList) (w : ℕ) (xs : List ℕ) → ListFits bs xs → (n : MeasureValue) → Fits bs n → CoversFront false w n (Some xs)
    → AtMost (Some (cleared w xs)) n
still_least bs w xs f None g h = tt
still_least bs w xs f (Some ys) g h = cleared_least w xs ys (same_length bs xs f ∙ sym (same_length bs ys g)) h

pub still : (bs : BoundList) (w : ℕ) (xs : List ℕ) → ListFits bs xs → IsLeastCover bs false w (Some xs) (Some (cleared w xs))
still bs w xs f = record { fits = cleared_fits bs w xs f; covers = cleared_covers w xs; least = still_least bs w xs f }

up_least : (bs : BoundList) (j w : ℕ) (xs : List ℕ) → ListFits bs xs → ((i : ℕ) → j < i → i < w → (get_or bs i (0, 0)).1 ≤ get_or xs i 0)
    → (n : MeasureValue) → Fits bs n → CoversFront true w n (Some xs) → AtMost (Some (raised j xs)) n
up_least bs j w xs f full None g h = tt
up_least bs j w xs f full (Some ys) g h = raised_least j w bs xs ys f g full h

-- there is room at j, and none behind it
pub up : (bs : BoundList) (j w : ℕ) (xs : List ℕ) → ListFits bs xs → j < w → j < length xs → get_or xs j 0 < (get_or bs j (0, 0)).1
    → ((i : ℕ) → j < i → i < w → (get_or bs i (0, 0)).1 ≤ get_or xs i 0) → IsLeastCover bs true w (Some xs) (Some (raised j xs))
up bs j w xs f p q room full = record { fits = raised_fits bs j xs f room; covers = raised_covers j w xs p q; least = up_least bs j w xs f full }

over_least : (bs : BoundList) (w : ℕ) (xs : List ℕ) → ListFits bs xs → ((i : ℕ) → i < w → (get_or bs i (0, 0)).1 ≤ get_or xs i 0)
    → (n : MeasureValue) → Fits bs n → CoversFront true w n (Some xs) → AtMost None n
over_least bs w xs f full None g h = tt
over_least bs w xs f full (Some ys) g h = none_above w bs xs ys f g full h

-- there is no room
pub over : (bs : BoundList) (w : ℕ) (xs : List ℕ) → ListFits bs xs → ((i : ℕ) → i < w → (get_or bs i (0, 0)).1 ≤ get_or xs i 0)
    → IsLeastCover bs true w (Some xs) None
over bs w xs f full = record { fits = tt; covers = tt; least = over_least bs w xs f full }

-- the same of rows
pub still_row : (bs : BoundList) (w : ℕ) (row : List ℕ) → length row ≡ length bs + 1 → Fits bs (measure_of row) → get_or row 0 0 ≡ 0
    → IsLeastCover bs false w (measure_of row) (measure_of (cleared (w + 1) row))
still_row bs w [] l f z = absurd (omega arith)
still_row bs w (zero ∷ xs) l f z = rw add-one (still bs w xs f)
still_row bs w (suc k ∷ xs) l f z = absurd (omega arith)

up_at : (bs : BoundList) (w at : ℕ) (xs : List ℕ) → length xs ≡ length bs → ListFits bs xs → at ≤ w → w ≤ length bs
    → ((i : ℕ) → at ≤ i → i < w → (get_or bs i (0, 0)).1 ≤ get_or xs i 0) → ((j : ℕ) → at ≡ suc j → get_or xs j 0 < (get_or bs j (0, 0)).1)
    → IsLeastCover bs true w (Some xs) (measure_of (cleared (suc at) (set (0 ∷ xs) at (get_or (0 ∷ xs) at 0 + 1))))
up_at bs w zero xs l f p q full room = over bs w xs f (λ i m. full i (omega arith) m)
up_at bs w (suc j) xs l f p q full room =
    subst (λ t. IsLeastCover bs true w (Some xs) (Some t)) (sym (raised-is j xs))
    (up bs j w xs f (omega arith) (omega arith) (room j refl) (λ i m n. full i (omega arith) n))

pub up_row : (bs : BoundList) (w at : ℕ) (row : List ℕ) → length row ≡ length bs + 1 → Fits bs (measure_of row) → get_or row 0 0 ≡ 0
    → at ≤ w → w ≤ length bs → ((i : ℕ) → at ≤ i → i < w → (get_or bs i (0, 0)).1 ≤ get_or row (i + 1) 0)
    → (0 < at → get_or row at 0 < (get_or bs (at - 1) (0, 0)).1)
    → IsLeastCover bs true w (measure_of row) (measure_of (cleared (at + 1) (set row at (get_or row at 0 + 1))))
up_row bs w at [] l f z p q full room = absurd (omega arith)
up_row bs w at (suc k ∷ xs) l f z p q full room = absurd (omega arith)
up_row bs w at (zero ∷ xs) l f z p q full room =
    rw add-one (up_at bs w at xs (omega arith) f p q (λ i m n. rw add-one at (full i m n)) (λ j e.
    let r : 0 < at → get_or (0 ∷ xs) at 0 < (get_or bs (at - 1) (0, 0)).1 = room in
    let s : suc j - 1 ≡ j = omega arith in
    rw s at ((rw e at r) (omega arith))))

pub row_length : (bs : BoundList) (row : List ℕ) (m : MeasureValue) (n : ℕ) → measure_of row ≡ m → Fits bs m → 0 < length row
    → n ≡ get_or row 0 n → n ≡ 0 → length row ≡ length bs + 1
row_length bs [] m n e f l a b = absurd (omega arith)
row_length bs (zero ∷ xs) m n e f l a b =
    let g : ListFits bs xs = rw (← e) at f in
    let s = same_length bs xs g in omega arith
row_length bs (suc k ∷ xs) m n e f l a b = absurd (omega arith)

-- the last of the first w components that has room, or none has

abbrev HasRoom : BoundList → List ℕ → ℕ → Type 0
HasRoom bs xs j = get_or xs j 0 < (get_or bs j (0, 0)).1

abbrev IsFull : BoundList → List ℕ → ℕ → Type 0
IsFull bs xs j = (get_or bs j (0, 0)).1 ≤ get_or xs j 0

room_or_full : (bs : BoundList) (xs : List ℕ) (w : ℕ)
    → ((j : ℕ) × (j < w) × HasRoom bs xs j × ((i : ℕ) → j < i → i < w → IsFull bs xs i)) ⊎ ((i : ℕ) → i < w → IsFull bs xs i)
room_or_full bs xs zero = inr (λ i l. absurd (omega arith))
room_or_full bs xs (suc w) = go (cases_lt (get_or xs w 0) (get_or bs w (0, 0)).1) (room_or_full bs xs w)
  where
    last : IsFull bs xs w → (i : ℕ) → w ≤ i → i < suc w → IsFull bs xs i
    last full i le lt = let e : w ≡ i = omega arith in subst (IsFull bs xs) e full

    go : HasRoom bs xs w ⊎ IsFull bs xs w
        → ((j : ℕ) × (j < w) × HasRoom bs xs j × ((i : ℕ) → j < i → i < w → IsFull bs xs i)) ⊎ ((i : ℕ) → i < w → IsFull bs xs i)
        → ((j : ℕ) × (j < suc w) × HasRoom bs xs j × ((i : ℕ) → j < i → i < suc w → IsFull bs xs i)) ⊎ ((i : ℕ) → i < suc w → IsFull bs xs i)
    go (inl here) r = inl (w, omega arith, here, λ i more lt. absurd (omega arith))
    go (inr full) (inl (j, lt, here, above)) =
        inl (j, omega arith, here, λ i more l. elim (cases_lt i w) [ inl less ↦ above i more less | inr le ↦ last full i le l ])
    go (inr full) (inr all) = inr (λ i l. elim (cases_lt i w) [ inl less ↦ all i less | inr le ↦ last full i le l ])

-- each measure has a least cover
pub least_cover : (bs : BoundList) (strict : Bool) (w : ℕ) (m : MeasureValue) → Fits bs m → w ≤ length bs → (r : MeasureValue) × IsLeastCover bs strict w m r
least_cover bs strict w None f le = (None, top_stays bs strict w)
least_cover bs false w (Some xs) f le = (Some (cleared w xs), still bs w xs f)
least_cover bs true w (Some xs) f le = elim (room_or_full bs xs w) [
  | inl (j, lt, here, full) ↦ (Some (raised j xs), up bs j w xs f lt (let same = same_length bs xs f in omega arith) here full)
  | inr full ↦ (None, over bs w xs f full)
]
