-- A cycle that names no vertex twice has at most as many vertices as the game.
use Rattle.std.proofs.Common.{ℕ, ◌<◌, ◌≤◌, List, [], ◌∷◌, ◌++◌, length, subst, All}
use Rattle.std.proofs.lemmas.Bool.{eqb-true}
use Rattle.std.proofs.lemmas.Bool.Decides.{Decides-eqb}
use Rattle.std.proofs.lemmas.List.Elements.{All-nil, All-cons, All-head, All-contains}
use Rattle.std.proofs.lemmas.List.FromFn.{length-map-range_with_len}
use Rattle.std.proofs.lemmas.Map.Made.{IsDistinct-from_AllPairs}
use Rattle.std.proofs.lemmas.Map.Steps.{length-le_from_distinct_below}
use Rattle.std.proofs.lemmas.Map.Views.{Contains-from_any}
use Rattle.pg_arena.specs.Games.{GameVertex, IsGame, IsPath}
use Rattle.pg_map.proofs.Paths.{all_front, all_later}
use Rattle.pg_text.specs.declared.answer.Answer.{Answer}
use Rattle.pg_check.specs.Soundness.{Counts}
use Rattle.pg_check.specs.Verdicts.{Refutes, IsSimpleBadCycle}
use Rattle.pg_check.specs.declared.verdict.Verdict.{Verdict}
use Rattle.pg_check.specs.declared.verdict.Verdict.TheVariants.{Wins, Leaves, BadCycle}
use Rattle.parsolve_c_csr.specs.Games.{GameArrays, SpellsGame, vertex_of, game_of}
use Rattle.parsolve_c_csr.specs.Solutions.{KeepsCycle}
use Rattle.parsolve_c_csr.proofs.Built.{game_of_is_game}

-- what edges lead to is a vertex
within : (game : List GameVertex) (solution : List Answer) (v : ℕ) (path : List ℕ) → IsGame game → IsPath (Counts game solution) v path
    → All (λ w. w < length game) path
within game solution v [] well steps = All-nil (λ w. w < length game)
within game solution v (w ∷ path) well steps =
    All-cons (λ w. w < length game) w path (well.in_range v w steps.0.0) (within game solution w path well steps.1)

few_on_cycle : (game : List GameVertex) (solution : List Answer) (cycle : List ℕ) → IsGame game → IsSimpleBadCycle game solution cycle
    → length cycle ≤ length game
few_on_cycle game solution [] well is = absurd is
few_on_cycle game solution (v ∷ rest) well is =
    let all = within game solution v (rest ++ v ∷ []) well is.1.closes in
    let first : v < length game = All-head (λ w. w < length game) v [] (all_later (λ w. w < length game) rest (v ∷ []) all) in
    let both = All-cons (λ w. w < length game) v rest first (all_front (λ w. w < length game) rest (v ∷ []) all) in
    length-le_from_distinct_below (v ∷ rest) (length game) (IsDistinct-from_AllPairs Decides-eqb (v ∷ rest) is.0)
    (λ q e. All-contains (λ w. w < length game) (v ∷ rest) q both (Contains-from_any eqb-true q (v ∷ rest) e))

few_found : (game : List GameVertex) (solution : List Answer) (verdict : Verdict) → IsGame game → Refutes game solution verdict
    → KeepsCycle (length game) verdict
few_found game solution Wins well refutes = tt
few_found game solution (Leaves v w) well refutes = tt
few_found game solution (BadCycle cycle) well refutes = few_on_cycle game solution cycle.items well refutes.1

pub keeps_cycle : (a : GameArrays) (solution : List Answer) (verdict : Verdict) → SpellsGame a → Refutes (game_of a) solution verdict
    → KeepsCycle (length a.priorities) verdict
keeps_cycle a solution verdict spelled refutes =
    subst (λ n. KeepsCycle n verdict) (length-map-range_with_len (vertex_of a) 0 (length a.priorities))
    (few_found (game_of a) solution verdict (game_of_is_game a spelled) refutes)
