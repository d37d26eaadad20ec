-- Steps by their numbers, while more are stored.
use Rattle.std.proofs.Common.{◌≡◌, ℕ, suc, zero, List, [], ◌∷◌, ◌++◌, ◌+◌, length, Option, Some, None, refl, ap, ◌∙◌, arith}
use Rattle.std.specs.Prelude.{slice_get}
use Rattle.std.proofs.lemmas.Bool.Decides.{nat_tests}
use Rattle.pg_hoa_automaton.specs.Automata.{Step, step}
use Rattle.pg_hoa_automaton.specs.Mirrors.Steps.{◌>>=◌}
use Rattle.pg_hoa_automaton.specs.Mirrors.Tables.{numbered}
use Rattle.pg_hoa_automaton.specs.declared.table.Stored.{Stored}
use Rattle.pg_verify.specs.Mirrors.Products.{Extends}

none_is_some : {X : Type 0} (x : X) → None ≡ Some x → ⊥
none_is_some x e = cc e

bind_some : {A B : Type 0} (o : Option A) (f : A → Option B) (y : B) → (o >>= f) ≡ Some y → (x : A) × (o ≡ Some x) × (f x ≡ Some y)
bind_some None f y e = absurd (none_is_some y e)
bind_some (Some x) f y e = (x, refl, e)

pub slice_get_more : {X : Type 0} (xs ys : List X) (k : ℕ) (x : X) → slice_get xs k ≡ Some x → slice_get (xs ++ ys) k ≡ Some x
slice_get_more [] ys k x e = absurd (none_is_some x e)
slice_get_more (z ∷ xs) ys zero x e = e
slice_get_more (z ∷ xs) ys (suc k) x e = slice_get_more xs ys k x e

-- what a number stands for, from its parts
pub numbered_is : (steps : List Stored) (lists : List (List ℕ)) (k : ℕ) (s : Stored) (sets : List ℕ) → slice_get steps k ≡ Some s
    → slice_get lists s.list ≡ Some sets → numbered steps lists (suc k) ≡ Some (step s.target sets)
numbered_is steps lists k s sets a b = grind (arith, nat_tests)

pub numbered_more : (steps : List Stored) (lists : List (List ℕ)) (new_steps : List Stored) (new_lists : List (List ℕ)) (n : ℕ) (s : Step)
    → numbered steps lists n ≡ Some s → numbered (steps ++ new_steps) (lists ++ new_lists) n ≡ Some s
numbered_more steps lists new_steps new_lists zero s e = absurd (none_is_some s e)
numbered_more steps lists new_steps new_lists (suc k) s e =
    let a = bind_some (slice_get steps k) (λ (s : Stored). slice_get lists s.list >>= λ (sets : List ℕ). Some (step s.target sets)) s e in
    let b = bind_some (slice_get lists a.0.list) (λ (sets : List ℕ). Some (step a.0.target sets)) s a.2 in
    numbered_is (steps ++ new_steps) (lists ++ new_lists) k a.0 b.0 (slice_get_more steps new_steps k a.0 a.1)
    (slice_get_more lists new_lists a.0.list b.0 b.1) ∙ b.2

slice_get_end : {X : Type 0} (xs : List X) (x : X) → slice_get (xs ++ x ∷ []) (length xs) ≡ Some x
slice_get_end [] x = refl
slice_get_end (y ∷ xs) x = slice_get_end xs x

-- the number of the last step
pub stored_last : (steps more : List Stored) (lists : List (List ℕ)) (s : Stored) (n : ℕ) (sets : List ℕ) → more ≡ steps ++ s ∷ []
    → n ≡ length steps + 1 → slice_get lists s.list ≡ Some sets → numbered more lists n ≡ Some (step s.target sets)
stored_last steps more lists s n sets e f h =
    let at : n ≡ suc (length steps) = omega arith in
    ap (λ l. numbered l lists n) e ∙ ap (numbered (steps ++ s ∷ []) lists) at
    ∙ numbered_is (steps ++ s ∷ []) lists (length steps) s sets (slice_get_end steps s) h

pub numbered_along : (steps more_steps : List Stored) (lists more_lists : List (List ℕ)) (n : ℕ) (s : Step) → Extends steps more_steps
    → Extends lists more_lists → numbered steps lists n ≡ Some s → numbered more_steps more_lists n ≡ Some s
numbered_along steps more_steps lists more_lists n s (x, e) (y, f) h =
    ap (λ l. numbered l more_lists n) e ∙ ap (λ l. numbered (steps ++ x) l n) f ∙ numbered_more steps lists x y n s h
