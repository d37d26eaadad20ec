-- Facts carried forward and back along a path from v to u, and endless walks.
use Rattle.pg_check_determined.proofs.Common.{◌≡◌, ℕ, zero, suc, List, [], ◌∷◌, ◌++◌, sym, subst, refl, add-one, IsPath, IsPlay}

pub forward : (Step Next : ℕ → ℕ → Type 0) (P : ℕ → Type 0) → ((x y : ℕ) → P x → Step x y → Next x y × P y)
    → (v : ℕ) (rest : List ℕ) (u : ℕ) → IsPath Step v (rest ++ u ∷ []) → P v → IsPath Next v (rest ++ u ∷ []) × P u
forward Step Next P keeps v [] u h p = let s = keeps v u p h.0 in ((s.0, tt), s.1)
forward Step Next P keeps v (x ∷ rest) u h p =
    let s = keeps v x p h.0 in
    let later = forward Step Next P keeps x rest u h.1 s.1 in
    ((s.0, later.0), later.1)

pub back : (Step Next : ℕ → ℕ → Type 0) (P : ℕ → Type 0) → ((x y : ℕ) → P y → Step x y → Next x y × P x)
    → (v : ℕ) (rest : List ℕ) (u : ℕ) → IsPath Step v (rest ++ u ∷ []) → P u → IsPath Next v (rest ++ u ∷ []) × P v
back Step Next P keeps v [] u h p = let s = keeps v u p h.0 in ((s.0, tt), s.1)
back Step Next P keeps v (x ∷ rest) u h p =
    let later = back Step Next P keeps x rest u h.1 p in
    let s = keeps v x later.1 h.0 in
    ((s.0, later.0), s.1)

-- what the first step brings about and later steps keep
pub after : (Step : ℕ → ℕ → Type 0) (P : ℕ → Type 0) (v : ℕ) → ((y : ℕ) → Step v y → P y) → ((x y : ℕ) → P x → Step x y → P y)
    → (rest : List ℕ) (u : ℕ) → IsPath Step v (rest ++ u ∷ []) → P u
after Step P v first keeps [] u h = first u h.0
after Step P v first keeps (x ∷ rest) u h =
    (forward Step Step P (λ a b p s. (s, keeps a b p s)) x rest u h.1 (first x h.0)).1

pub starts : (Step : ℕ → ℕ → Type 0) (v : ℕ) (rest : List ℕ) (u : ℕ) → IsPath Step v (rest ++ u ∷ []) → (y : ℕ) × Step v y
starts Step v [] u h = (u, h.0)
starts Step v (x ∷ rest) u h = (x, h.0)

-- an endless walk by a step from each vertex of which P holds
module _ (Step : ℕ → ℕ → Type 0) (P : ℕ → Type 0) (next : (v : ℕ) → P v → (w : ℕ) × Step v w × P w) where
  trace : (v : ℕ) → P v → ℕ → (u : ℕ) × P u
  trace v p zero = (v, p)
  trace v p (suc t) = let n = next (trace v p t).0 (trace v p t).1 in (n.0, n.2)

  pub walk : (v : ℕ) → P v → ℕ → ℕ
  walk v p t = (trace v p t).0

  pub walk_starts : (v : ℕ) (p : P v) → walk v p 0 ≡ v
  unfolding walk trace
  walk_starts v p = refl

  pub walk_goes : (v : ℕ) (p : P v) → IsPlay Step (walk v p)
  unfolding walk trace
  walk_goes v p t =
      subst (λ s. Step (walk v p t) (walk v p s)) (sym (add-one t)) (next (trace v p t).0 (trace v p t).1).1
