-- Runs of two automata that meet the same sets are accepted alike.
use Rattle.std.proofs.Common.{◌≡◌, ℕ, ◌<◌, sym, subst, ◌∙◌}
use Rattle.std.specs.Prelude.{List, Contains, is_some}
use Rattle.pg_hoa_automaton.specs.Automata.{Automaton}
use Rattle.pg_hoa_automaton.specs.Formulas.{Formula}
use Rattle.pg_hoa_automaton.specs.Words.{state_after, step_at, sets_of, SetRecurs, IsAccepted}

pub record RunsAlike (a b : Automaton) (u v : ℕ → ℕ) : Type 0 where
  pub sets : a.sets ≡ b.sets
  pub met : (t : ℕ) → sets_of (step_at a u t) ≡ sets_of (step_at b v t)
  pub goes_on : (t : ℕ) → is_some (state_after a u t) ≡ is_some (state_after b v t)

recurs_alike : (a b : Automaton) (u v : ℕ → ℕ) (set : ℕ) → ((t : ℕ) → sets_of (step_at a u t) ≡ sets_of (step_at b v t))
    → SetRecurs a u set → SetRecurs b v set
recurs_alike a b u v set met rec (t, absent) =
    rec (t, λ x le has. absent x le (subst (λ (xs : List ℕ). Contains xs set) (met x) has))

pub accepted_alike : (a b : Automaton) (u v : ℕ → ℕ) (condition : Formula) → RunsAlike a b u v → IsAccepted a condition u
    → IsAccepted b condition v
accepted_alike a b u v condition r acc = record {
  endless = λ t. sym (r.goes_on t) ∙ acc.endless t;
  satisfied = λ recurs just. acc.satisfied recurs (λ set below.
      let h = just set (subst (λ (n : ℕ). set < n) r.sets below) in (
        λ yes. recurs_alike b a v u set (λ t. sym (r.met t)) (h.0 yes),
        λ again. h.1 (recurs_alike a b u v set r.met again),
      ));
}

pub alike_back : (a b : Automaton) (u v : ℕ → ℕ) → RunsAlike a b u v → RunsAlike b a v u
alike_back a b u v r = record { sets = sym r.sets; met = λ t. sym (r.met t); goes_on = λ t. sym (r.goes_on t) }
