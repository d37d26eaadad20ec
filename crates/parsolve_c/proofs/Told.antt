-- Verdicts that are told.
use Rattle.std.proofs.Common.{◌≡◌, ◌≢◌, ◌↔◌, ℕ, ◌≤◌, List, length, sym, ap, subst, ◌∙◌, arith}
use Rattle.pg_arena.specs.Games.{GameVertex}
use Rattle.pg_text.specs.declared.answer.Answer.{Answer}
use Rattle.pg_check.specs.declared.verdict.Verdict.{Verdict}
use Rattle.pg_check.specs.declared.verdict.Verdict.TheVariants.{Wins, Leaves, BadCycle}
use Rattle.pg_check.specs.Soundness.{IsSound, NoneLeaves}
use Rattle.pg_check.specs.Verdicts.{IsWins, Refutes, IsLeastLeaving, IsSimpleBadCycle}
use Rattle.parsolve_c_csr.specs.Games.{GameArrays, game_of}
use Rattle.parsolve_c_csr.specs.Solutions.{SpellsSolution, KeepsCycle, solution_of}
use Rattle.parsolve_c.specs.declared.checking.ParsolveFound.{ParsolveFound}
use Rattle.parsolve_c.specs.Answers as answers
use Rattle.parsolve_c.specs.Answers.{IsFoundSound, IsFoundUnsound, IsHanded, HasCycle}
use Rattle.parsolve_c.specs.Mirrors.Verdicts.{Tells}

differs : (code m n : ℕ) → code ≡ m → code ≡ n → m ≢ n → ⊥
differs code m n e h d = d (sym e ∙ h)

-- ---- by cases, with small conclusions

wins_told : (verdict : Verdict) (code : ℕ) (before after : ParsolveFound) (old new : List ℕ) → Tells verdict code before after old new
    → code ≡ 0
    → IsWins verdict
wins_told Wins code before after old new told h = tt
wins_told (Leaves v w) code before after old new told h = absurd (differs code 14 0 told.0 h (λ e. omega (arith, e)))
wins_told (BadCycle vertices) code before after old new told h = absurd (differs code 15 0 told.0 h (λ e. omega (arith, e)))

record IsEdgeOf (game : List GameVertex) (solution : List Answer) (verdict : Verdict) (found : ParsolveFound) : Type 0 where
  against : ¬ IsWins verdict
  least : IsLeastLeaving game solution found.vertex found.to

edge_told : (game : List GameVertex) (solution : List Answer) (verdict : Verdict) (code : ℕ) (before after : ParsolveFound)
    (old new : List ℕ)
    → Refutes game solution verdict → Tells verdict code before after old new → code ≡ 14 → IsEdgeOf game solution verdict after
edge_told game solution Wins code before after old new refutes told h = absurd (differs code 0 14 told.0 h (λ e. omega (arith, e)))
edge_told game solution (Leaves v w) code before after old new refutes told h = record {
  against = λ n. n;
  least = subst (λ (found : ParsolveFound). IsLeastLeaving game solution found.vertex found.to) (sym told.1) refutes;
}
edge_told game solution (BadCycle vertices) code before after old new refutes told h =
    absurd (differs code 15 14 told.0 h (λ e. omega (arith, e)))

record IsCycleOf (game : List GameVertex) (solution : List Answer) (most : ℕ) (verdict : Verdict) (found : ParsolveFound)
    (old new : List ℕ) : Type 0 where
  against : ¬ IsWins verdict
  none_leaves : NoneLeaves game solution
  cycle : List ℕ
  bad : IsSimpleBadCycle game solution cycle
  few : length cycle ≤ most
  told : found.length ≡ length cycle
  handed : IsHanded cycle old new

cycle_told : (game : List GameVertex) (solution : List Answer) (most : ℕ) (verdict : Verdict) (code : ℕ) (before after : ParsolveFound)
    (old new : List ℕ) → Refutes game solution verdict → KeepsCycle most verdict → Tells verdict code before after old new → code ≡ 15
    → IsCycleOf game solution most verdict after old new
cycle_told game solution most Wins code before after old new refutes keeps told h =
    absurd (differs code 0 15 told.0 h (λ e. omega (arith, e)))
cycle_told game solution most (Leaves v w) code before after old new refutes keeps told h =
    absurd (differs code 14 15 told.0 h (λ e. omega (arith, e)))
cycle_told game solution most (BadCycle vertices) code before after old new refutes keeps told h = record {
  against = λ n. n;
  none_leaves = refutes.0;
  cycle = vertices.items;
  bad = refutes.1;
  few = keeps;
  told = ap (λ (found : ParsolveFound). found.length) told.1;
  handed = told.2;
}

-- ---- as the export says them

pub sound_told : (a : GameArrays) (winners strategy : List ℕ) (verdict : Verdict) (code : ℕ) (before after : ParsolveFound)
    (old new : List ℕ)
    → SpellsSolution a winners strategy → (IsWins verdict ↔ IsSound (game_of a) (solution_of winners strategy))
    → Tells verdict code before after old new → code ≡ 0 → IsFoundSound a winners strategy
sound_told a winners strategy verdict code before after old new spelled wins told h =
    record { spelled = spelled; sound = wins.0 (wins_told verdict code before after old new told h) }

unsound : (a : GameArrays) (winners strategy : List ℕ) (verdict : Verdict) → SpellsSolution a winners strategy
    → (IsWins verdict ↔ IsSound (game_of a) (solution_of winners strategy)) → ¬ IsWins verdict → IsFoundUnsound a winners strategy
unsound a winners strategy verdict spelled wins against = record { spelled = spelled; unsound = λ s. against (wins.1 s) }

pub leaves_told : (a : GameArrays) (winners strategy : List ℕ) (verdict : Verdict) (code : ℕ) (before after : ParsolveFound)
    (old new : List ℕ)
    → SpellsSolution a winners strategy → (IsWins verdict ↔ IsSound (game_of a) (solution_of winners strategy))
    → Refutes (game_of a) (solution_of winners strategy) verdict → Tells verdict code before after old new → code ≡ 14
    → answers.Leaves a winners strategy after
leaves_told a winners strategy verdict code before after old new spelled wins refutes told h =
    let e = edge_told (game_of a) (solution_of winners strategy) verdict code before after old new refutes told h in
    record { against = unsound a winners strategy verdict spelled wins e.against; least = e.least }

pub has_cycle : (a : GameArrays) (winners strategy : List ℕ) (verdict : Verdict) (code : ℕ) (before after : ParsolveFound)
    (old new : List ℕ)
    → SpellsSolution a winners strategy → (IsWins verdict ↔ IsSound (game_of a) (solution_of winners strategy))
    → Refutes (game_of a) (solution_of winners strategy) verdict → KeepsCycle (length a.priorities) verdict
    → Tells verdict code before after old new → code ≡ 15 → HasCycle a winners strategy after old new
has_cycle a winners strategy verdict code before after old new spelled wins refutes keeps told h =
    let c = cycle_told (game_of a) (solution_of winners strategy) (length a.priorities) verdict code before after old new
    refutes keeps told h in
    record {
      against = unsound a winners strategy verdict spelled wins c.against;
      none_leaves = c.none_leaves;
      cycle = c.cycle;
      bad = c.bad;
      few = c.few;
      told = c.told;
      handed = c.handed;
    }
