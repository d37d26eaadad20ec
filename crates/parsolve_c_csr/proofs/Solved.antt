-- Solutions in arrays: what is written is read back, and choices are numbers of vertices.
use Rattle.std.proofs.Common.{◌≡◌, ℕ, ◌<◌, ◌≤◌, ◌⊎◌, inl, inr, List, length, Option, None, refl, sym, ap, subst, arith, All}
use Rattle.std.specs.Prelude.{IfSome}
use Rattle.std.proofs.lemmas.List.Elements.{All-from_get_or}
use Rattle.std.proofs.lemmas.List.FromFn.{fill_by_all, length-map-range_with_len}
use Rattle.pg_arena.specs.declared.player.Player.{Player}
use Rattle.pg_arena.specs.declared.player.Player.TheVariants.{Even, Odd}
use Rattle.pg_arena.specs.Games.{GameVertex, IsGame, IsWithinLimits, opponent, owner}
use Rattle.pg_text.specs.declared.answer.Answer.{Answer}
use Rattle.pg_text.specs.Solutions.{IsSolution, unanswered, winner, loser, choice}
use Rattle.parsolve_c_csr.specs.Games.{GameArrays, vertex_of, game_of}
use Rattle.parsolve_c_csr.specs.Solutions.{answer_of, solution_of}
use Rattle.parsolve_c_csr.specs.Mirrors.Writes.{AreWritten, AreRead}

pub written_all : (solution : List Answer) (winners strategy : List ℕ) (n : ℕ) → AreWritten solution winners strategy n
    → length solution ≤ n
    → solution_of winners strategy ≡ solution
written_all solution winners strategy n is all =
    sym (fill_by_all (answer_of winners strategy) solution (length winners) unanswered (sym is.winners_long)
    (λ k lt. sym (is.answers k (omega (arith, is.winners_long)))))

pub players_all : (solution : List Answer) (winners strategy : List ℕ) (n : ℕ) → AreWritten solution winners strategy n
    → length solution ≤ n
    → All (λ w. w ≤ 1) winners
players_all solution winners strategy n is all =
    All-from_get_or (λ w. w ≤ 1) winners 0 (λ k lt. is.players k (omega (arith, is.winners_long)))

own_or_other : (p q : Player) → (p ≡ q) ⊎ (p ≡ opponent q)
own_or_other Even Even = inl refl
own_or_other Even Odd = inr refl
own_or_other Odd Even = inr refl
own_or_other Odd Odd = inl refl

pub small_choices : (game : List GameVertex) (solution : List Answer) → IsGame game → IsWithinLimits game → IsSolution game solution
    → ((v : ℕ) → v < length game → owner game v ≡ loser solution v → choice solution v ≡ None)
    → (v : ℕ) → v < length solution → IfSome (choice solution v) (λ w. w < 4294967295)
small_choices game solution well limits is elsewhere v lt =
    let below : v < length game = omega (arith, is.whole) in
    elim (own_or_other (owner game v) (winner solution v)) [
      | inl own ↦
          let c = is.chosen v below own in
          let within : c.0 < 4294967295 = omega (arith, well.in_range v c.0 c.2, limits.vertices) in
          subst (λ (o : Option ℕ). IfSome o (λ w. w < 4294967295)) (sym c.1) within
      | inr other ↦ subst (λ (o : Option ℕ). IfSome o (λ w. w < 4294967295)) (sym (elsewhere v below other)) tt
    ]

pub read_all : (solution : List Answer) (winners strategy : List ℕ) (n : ℕ) → AreRead solution winners strategy n → length winners ≤ n
    → solution ≡ solution_of winners strategy
read_all solution winners strategy n is all =
    fill_by_all (answer_of winners strategy) solution (length winners) unanswered is.long (λ k lt. is.answers k (omega arith))

-- as many as there are priorities are as many as there are vertices
pub as_long : (a : GameArrays) (game : List GameVertex) (n : ℕ) → game ≡ game_of a → n ≡ length a.priorities → n ≡ length game
as_long a game n g h = omega (arith, h, ap length g, length-map-range_with_len (vertex_of a) 0 (length a.priorities))
