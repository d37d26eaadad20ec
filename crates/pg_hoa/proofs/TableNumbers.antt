-- Steps by their numbers, while more are stored.
use Rattle.pg_hoa.proofs.Common.{◌≡◌, ℕ, suc, zero, ◌<◌, List, [], ◌∷◌, ◌++◌, Some, refl, ap, ◌∙◌, arith, nat_tests, slice_get, Stored}
use Rattle.pg_hoa.proofs.Common.{Step, step, ◌>>=◌, numbered, Stage, Extends, MayNumber, bind_some, some, none_is_some}

slice_get_more : {X : Type 0} (xs ys : List X) (k : ℕ) (x : X) → slice_get xs k ≡ Some x → slice_get (xs ++ ys) k ≡ Some x
slice_get_more [] ys k x e = absurd (none_is_some x e)
slice_get_more (z ∷ xs) ys zero x e = e
slice_get_more (z ∷ xs) ys (suc k) x e = slice_get_more xs ys k x e

-- what a number stands for, from its parts
pub numbered_is : (steps : List Stored) (lists : List (List ℕ)) (k : ℕ) (s : Stored) (sets : List ℕ) → slice_get steps k ≡ Some s
    → slice_get lists s.list ≡ Some sets → numbered steps lists (suc k) ≡ Some (step s.target sets)
numbered_is steps lists k s sets a b = grind (arith, nat_tests)

pub numbered_more : (steps : List Stored) (lists : List (List ℕ)) (new_steps : List Stored) (new_lists : List (List ℕ)) (n : ℕ) (s : Step)
    → numbered steps lists n ≡ Some s → numbered (steps ++ new_steps) (lists ++ new_lists) n ≡ Some s
numbered_more steps lists new_steps new_lists zero s e = absurd (none_is_some s e)
numbered_more steps lists new_steps new_lists (suc k) s e =
    let a = bind_some (slice_get steps k) (λ s. slice_get lists s.list >>= λ sets. Some (step s.target sets)) s e in
    let b = bind_some (slice_get lists a.0.list) (λ sets. some (step a.0.target sets)) s a.2 in
    numbered_is (steps ++ new_steps) (lists ++ new_lists) k a.0 b.0 (slice_get_more steps new_steps k a.0 a.1)
    (slice_get_more lists new_lists a.0.list b.0 b.1) ∙ b.2

pub extends_refl : (t : Stage) → Extends t t
extends_refl t = record { slots = refl; conflict = refl; covered = refl; numbers = λ n s e. e; lists = λ place list e. e }

pub extends_by : (t u : Stage) (new_steps : List Stored) (new_lists : List (List ℕ)) → u.slots ≡ t.slots → u.conflict ≡ t.conflict
    → u.covered ≡ t.covered → u.steps ≡ t.steps ++ new_steps → u.lists ≡ t.lists ++ new_lists → Extends t u
extends_by t u new_steps new_lists a b h c d = record {
  slots = a;
  conflict = b;
  covered = h;
  numbers = λ n s e. ap (λ l. numbered l u.lists n) c ∙ ap (λ l. numbered (t.steps ++ new_steps) l n) d
      ∙ numbered_more t.steps t.lists new_steps new_lists n s e;
  lists = λ place list e. ap (λ l. slice_get l place) d ∙ slice_get_more t.lists new_lists place list e;
}

pub numbers_more : (t : Stage) (n : ℕ) (s : Step) → 0 < n → MayNumber t n s → numbered t.steps t.lists n ≡ Some s
numbers_more t zero s h m = absurd (omega arith)
numbers_more t (suc n) s h m = m
