-- A game has one list of bounds: two lists that fall and have the same members are equal.
use Rattle.pg_measure.proofs.Common.{◌≡◌, ℕ, zero, suc, ◌<◌, [], ◌∷◌, get_or, AllPairs, Contains, refl, sym, arith, BoundList}
use Rattle.pg_measure.proofs.Common.{OneListOfBounds}

abbrev pub Falls : BoundList → Type 0
Falls bs = AllPairs (λ b c. c.0 < b.0) bs

pub falls_after : (b : ℕ × ℕ) (bs : BoundList) → Falls (b ∷ bs) → Falls bs
falls_after b bs f = λ i j d l m. f (suc i) (suc j) d (omega arith) (omega arith)

later : (b : ℕ × ℕ) (bs : BoundList) (x : ℕ × ℕ) → Contains bs x → Contains (b ∷ bs) x
later b bs x (k, l, e) = (suc k, omega arith, e)

-- what stands behind the first is less
less_behind : (b : ℕ × ℕ) (bs : BoundList) (x : ℕ × ℕ) → Falls (b ∷ bs) → Contains bs x → x.0 < b.0
less_behind b bs x f (k, l, e) =
    let below : (get_or bs k x).0 < b.0 = f 0 (suc k) x (omega arith) (omega arith) in
    rw e at below

-- what isn't behind the first is the first
is_first : (b : ℕ × ℕ) (bs : BoundList) (x : ℕ × ℕ) → Contains (b ∷ bs) x → (Contains bs x → ⊥) → b ≡ x
is_first b bs x (zero, l, e) none = e
is_first b bs x (suc k, l, e) none = absurd (none (k, omega arith, e))

same_first : (b c : ℕ × ℕ) (bs cs : BoundList) → Falls (b ∷ bs) → Falls (c ∷ cs)
    → Contains (c ∷ cs) b → Contains (b ∷ bs) c → b ≡ c
same_first b c bs cs f g in_second in_first =
    is_first b bs c in_first (λ behind.
    let less : c.0 < b.0 = less_behind b bs c f behind in
    let same : c ≡ b = is_first c cs b in_second (λ other. let more : b.0 < c.0 = less_behind c cs b g other in omega arith) in
    let zeros : c.0 ≡ b.0 = cc in
    omega arith)

behind_too : (b c : ℕ × ℕ) (bs cs : BoundList) (x : ℕ × ℕ) → Falls (b ∷ bs) → b ≡ c
    → Contains bs x → Contains (c ∷ cs) x → Contains cs x
behind_too b c bs cs x f same behind (suc k, l, e) = (k, omega arith, e)
behind_too b c bs cs x f same behind (zero, l, e) =
    let less : x.0 < b.0 = less_behind b bs x f behind in
    let first : b.0 ≡ x.0 = cc in
    absurd (omega arith)

cons_same : (b c : ℕ × ℕ) (bs cs : BoundList) → b ≡ c → bs ≡ cs → b ∷ bs ≡ c ∷ cs
cons_same b c bs cs e h = cc

same_members : (bs cs : BoundList) → Falls bs → Falls cs
    → ((x : ℕ × ℕ) → Contains bs x → Contains cs x) → ((x : ℕ × ℕ) → Contains cs x → Contains bs x) → bs ≡ cs
same_members [] [] f g to from = refl
same_members [] (c ∷ cs) f g to from = let none = from c (0, omega arith, refl) in let l : none.0 < 0 = none.1 in absurd (omega arith)
same_members (b ∷ bs) [] f g to from = let none = to b (0, omega arith, refl) in let l : none.0 < 0 = none.1 in absurd (omega arith)
same_members (b ∷ bs) (c ∷ cs) f g to from =
    let same = same_first b c bs cs f g (to b (0, omega arith, refl)) (from c (0, omega arith, refl)) in
    cons_same b c bs cs same
    (same_members bs cs (falls_after b bs f) (falls_after c cs g)
    (λ x h. behind_too b c bs cs x f same h (to x (later b bs x h)))
    (λ x h. behind_too c b cs bs x g (sym same) h (from x (later c cs x h))))

pub one_list_of_bounds : OneListOfBounds
one_list_of_bounds game first second h k =
    same_members first second h.falling k.falling
    (λ x c. (k.exact x.0 x.1).1 ((h.exact x.0 x.1).0 c))
    (λ x c. (h.exact x.0 x.1).1 ((k.exact x.0 x.1).0 c))
