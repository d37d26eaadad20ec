-- At most one player wins from a vertex, whatever the solutions by which they win.
use Rattle.pg_check_determined.proofs.Common.{◌≡◌, ℕ, zero, suc, ◌<◌, ◌≤◌, inl, inr, List, length, get_or, arith, sym, subst, refl, ap, ◌∙◌}
use Rattle.pg_check_determined.proofs.Common.{add-one, Contains-get_or, Player, Even, Odd, GameVertex, IsGame, opponent, priority, owner}
use Rattle.pg_check_determined.proofs.Common.{successors, Answer, IsSolution, winner, priority_bound, IsPlay, IsGreatestRecurring, Loses}
use Rattle.pg_check_determined.proofs.Common.{WinsPlay, Counts, Wins, one_loser, player_cases, WinsFrom}
use Rattle.pg_check_determined.proofs.Walks.{walk, walk_starts, walk_goes}

-- v, and then the play
before : ℕ → (ℕ → ℕ) → ℕ → ℕ
before v play zero = v
before v play (suc t) = play t

before_goes : (Step : ℕ → ℕ → Type 0) (v : ℕ) (play : ℕ → ℕ) → Step v (play 0) → IsPlay Step play
    → IsPlay Step (before v play)
unfolding before
before_goes Step v play first goes t = subst (λ s. Step (before v play t) (before v play s)) (sym (add-one t)) (step t)
  where
    step : (t : ℕ) → Step (before v play t) (before v play (suc t))
    step zero = first
    step (suc t) = subst (λ s. Step (play t) (play s)) (add-one t) (goes t)

-- what is met before doesn't matter
recurs_before : (met : ℕ → ℕ) (p : ℕ) → IsGreatestRecurring (λ t. met (suc t)) p → IsGreatestRecurring met p
recurs_before met p g = record {
  recurs = λ (t, absent). g.recurs (t, λ s le. absent (suc s) (omega arith));
  bounds = (suc g.bounds.0, bound);
}
  where
    bound : (s : ℕ) → suc g.bounds.0 ≤ s → met s ≤ p
    bound zero le = absurd (omega arith)
    bound (suc s) le = g.bounds.1 s (omega arith)

-- The solution gives v to the player, who wins from v by it.
record IsWonBy (game : List GameVertex) (solution : List Answer) (player : Player) (v : ℕ) : Type 0 where
  pub wins : Wins game solution v
  pub given : winner solution v ≡ player

module _ (game : List GameVertex) (s : List Answer) (is_game : IsGame game) (is_s : IsSolution game s) where
  -- an edge that counts leaves each vertex
  goes_on : (v : ℕ) → v < length game → (w : ℕ) × Counts game s v w × (w < length game)
  goes_on v lt = elim (player_cases (owner game v) (winner s v)) [
    | inl e ↦ let c = is_s.chosen v lt e in (c.0, (c.2, inr c.1), is_game.in_range v c.0 c.2)
    | inr e ↦
        let edge = Contains-get_or (successors game v) 0 0 (is_game.goes_on v lt) in
        let w = get_or (successors game v) 0 0 in
        (w, (edge, inl e), is_game.in_range v w edge)
  ]

  -- who wins from v wins from where an edge leads that counts
  still_won : (player : Player) (v w : ℕ) → Counts game s v w → IsWonBy game s player v → IsWonBy game s player w
  unfolding before
  still_won player v w counts won = record { wins = wins; given = stays ∙ won.given }
    where
      Step : ℕ → ℕ → Type 0
      Step = Counts game s

      on : (play : ℕ → ℕ) → play 0 ≡ w → IsPlay Step play → IsPlay Step (before v play)
      on play e goes = before_goes Step v play (subst (Step v) (sym e) counts) goes

      stays : winner s w ≡ winner s v
      stays =
          let lt : w < length game = is_game.in_range v w counts.0 in
          let play = walk Step (λ u. u < length game) goes_on w lt in
          let start : play 0 ≡ w = walk_starts Step (λ u. u < length game) goes_on w lt in
          let goes = walk_goes Step (λ u. u < length game) goes_on w lt in
          ap (winner s) (sym start) ∙ (won.wins (before v play) refl (on play start goes)).0 1

      wins : Wins game s w
      wins play e goes =
          let all = won.wins (before v play) refl (on play e goes) in (
            λ t. all.0 (suc t) ∙ sym stays,
            λ (p, recurring, parity). all.1 (subst (λ player. Loses player (λ t. priority game (before v play t))) stays
                (p, recurs_before (λ t. priority game (before v play t)) p recurring, parity)),
          )

-- Even wins from v by s, and Odd by t
module _ (game : List GameVertex) (s t : List Answer)
    (is_game : IsGame game) (is_s : IsSolution game s) (is_t : IsSolution game t) where
  record WonByBoth (v : ℕ) : Type 0 where
    pub in_game : v < length game
    pub even : IsWonBy game s Even v
    pub odd : IsWonBy game t Odd v

  Both : ℕ → ℕ → Type 0
  Both v w = Counts game s v w × Counts game t v w

  -- an edge that counts by both: the choice of the owner
  next : (v : ℕ) → WonByBoth v → (w : ℕ) × Both v w × WonByBoth w
  unfolding Both
  next v b = go (owner game v) refl
    where
      on : (w : ℕ) → Counts game s v w → Counts game t v w → (w : ℕ) × Both v w × WonByBoth w
      on w by_s by_t = (
        w,
        (by_s, by_t),
        record {
          in_game = is_game.in_range v w by_s.0;
          even = still_won game s is_game is_s Even v w by_s b.even;
          odd = still_won game t is_game is_t Odd v w by_t b.odd;
        },
      )

      go : (o : Player) → owner game v ≡ o → (w : ℕ) × Both v w × WonByBoth w
      go Even e =
          let c = is_s.chosen v b.in_game (e ∙ sym b.even.given) in
          on c.0 (c.2, inr c.1) (c.2, inl (e ∙ sym (ap opponent b.odd.given)))
      go Odd e =
          let c = is_t.chosen v b.in_game (e ∙ sym b.odd.given) in
          on c.0 (c.2, inl (e ∙ sym (ap opponent b.even.given))) (c.2, inr c.1)

  not_both : (v : ℕ) → ¬ WonByBoth v
  unfolding Both
  not_both v b =
      let play = walk Both WonByBoth next v b in
      let start : play 0 ≡ v = walk_starts Both WonByBoth next v b in
      let goes : IsPlay Both play = walk_goes Both WonByBoth next v b in
      let met : ℕ → ℕ = λ k. priority game (play k) in
      let even_wins : WinsPlay Even met =
      subst (λ p. WinsPlay p met) b.even.given (b.even.wins play start (λ k. (goes k).0)).1 in
      let odd_wins : WinsPlay Odd met =
      subst (λ p. WinsPlay p met) b.odd.given (b.odd.wins play start (λ k. (goes k).1)).1 in
      let bound = priority_bound game in
      (one_loser met bound.0 (λ k. bound.1 (play k))).not_neither (even_wins, odd_wins)

pub one_player : (game : List GameVertex) → IsGame game → (v : ℕ) → v < length game
    → (a b : Player) → WinsFrom game a v → WinsFrom game b v → a ≡ b
one_player game is_game v lt = go
  where
    clash : WinsFrom game Even v → WinsFrom game Odd v → ⊥
    clash e o = not_both game e.solution o.solution is_game e.is_solution o.is_solution v record {
      in_game = lt;
      even = record { wins = e.wins; given = e.given };
      odd = record { wins = o.wins; given = o.given };
    }

    go : (a b : Player) → WinsFrom game a v → WinsFrom game b v → a ≡ b
    go Even Even f g = refl
    go Even Odd f g = absurd (clash f g)
    go Odd Even f g = absurd (clash g f)
    go Odd Odd f g = refl
