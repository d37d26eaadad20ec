-- The run of an automaton on letters one after another.
use Rattle.std.proofs.Common.{◌≡◌, ◌≢◌, ℕ, suc, ◌+◌, ◌<◌, List, [], ◌∷◌, ◌++◌, length, Option, arith, refl, ap, ◌∙◌, get_or}
use Rattle.pg_hoa_automaton.specs.Automata.{Automaton}
use Rattle.pg_hoa_automaton.specs.Words.{state_after, step_at, step_from, target_of}
use Rattle.pg_verify.specs.Mirrors.Lassos.{after}

-- the word goes on with these letters from step n
abbrev pub GoesBy : (ℕ → ℕ) → ℕ → List ℕ → Type 0
GoesBy word n ls = (j : ℕ) → j < length ls → word (n + j) ≡ get_or ls j 0

rest_by : (word : ℕ → ℕ) (n l : ℕ) (ls : List ℕ) → GoesBy word n (l ∷ ls) → GoesBy word (suc n) ls
rest_by word n l ls by j lt = let e : suc n + j ≡ n + suc j = omega arith in ap word e ∙ by (suc j) (omega arith)

first_by : (word : ℕ → ℕ) (n l : ℕ) (ls : List ℕ) → GoesBy word n (l ∷ ls) → word n ≡ l
first_by word n l ls by = let e : n ≡ n + 0 = omega arith in ap word e ∙ by 0 (omega arith)

first_step : (p : Automaton) (word : ℕ → ℕ) (n l : ℕ) (ls : List ℕ) → GoesBy word n (l ∷ ls)
    → step_at p word n ≡ step_from p (state_after p word n) l
first_step p word n l ls by = ap (step_from p (state_after p word n)) (first_by word n l ls by)

pub walked : (p : Automaton) (word : ℕ → ℕ) (n : ℕ) (ls : List ℕ) → GoesBy word n ls
    → state_after p word (n + length ls) ≡ after p (state_after p word n) ls
walked p word n [] by = let e : n + 0 ≡ n = omega arith in ap (state_after p word) e
walked p word n (l ∷ ls) by =
    let e : n + suc (length ls) ≡ suc n + length ls = omega arith in
    ap (state_after p word) e ∙ walked p word (suc n) ls (rest_by word n l ls by)
    ∙ ap (λ o. after p (target_of o) ls) (first_step p word n l ls by)

pub long : (loop : List ℕ) → loop ≢ [] → 0 < length loop
long [] h = absurd (h refl)
long (x ∷ xs) h = omega arith

-- one letter more
pub after_more : (p : Automaton) (state : Option ℕ) (ls : List ℕ) (l : ℕ) → after p state (ls ++ l ∷ [])
    ≡ target_of (step_from p (after p state ls) l)
after_more p state [] l = refl
after_more p state (x ∷ ls) l = after_more p (target_of (step_from p state x)) ls l
