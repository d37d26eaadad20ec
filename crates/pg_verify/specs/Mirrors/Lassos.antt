-- Evidence about a product.
use Rattle.std.specs.Prelude.{◌≡◌, ◌≢◌, ℕ, ◌<◌, List, [], ◌∷◌, Option, Some, None, All}
use Rattle.pg_hoa_automaton.specs.Automata.{Automaton, letters}
use Rattle.pg_hoa_automaton.specs.Formulas.{Formula}
use Rattle.pg_hoa_automaton.specs.Shapes.{FitsShape}
use Rattle.pg_hoa_automaton.specs.Words.{step_from, target_of, IsWord, IsAccepted}
use Rattle.pg_verify.specs.Verdicts.{lasso}

-- the state to which the letters lead
abbrev pub after : Automaton → Option ℕ → List ℕ → Option ℕ
after p state [] = state
after p state (l ∷ ls) = after p (target_of (step_from p state l)) ls

-- each word is accepted
abbrev pub AcceptsEach : Automaton → Type 0
AcceptsEach p =
    (condition : Formula) → FitsShape condition p.sets p.shape → (word : ℕ → ℕ) → IsWord p word → IsAccepted p condition word

-- the letters lead nowhere
pub record IsDeadEnd (p : Automaton) (word : List ℕ) : Type 0 where
  pub letters_in : All (λ i. i < letters p) word
  pub ends : after p (Some p.start) word ≡ None

-- the word of the lasso isn't accepted
pub record IsRefuted (p : Automaton) (stem loop : List ℕ) : Type 0 where
  pub stem_in : All (λ i. i < letters p) stem
  pub loop_in : All (λ i. i < letters p) loop
  pub repeats : loop ≢ []
  pub rejects : (condition : Formula) → FitsShape condition p.sets p.shape → ¬ IsAccepted p condition (lasso stem loop)
