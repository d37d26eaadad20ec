-- Each vertex has one winner, and least progress measures tell it.
use Rattle.pg_check_determined.proofs.Common.{◌≡◌, ◌≢◌, ℕ, ◌<◌, ◌⊎◌, inl, inr, List, length, Some, None, arith, sym, subst, refl, ap, ◌∙◌, IsSome}
use Rattle.pg_check_determined.proofs.Common.{Player, Even, Odd, GameVertex, IsGame, opponent, priority, owner, dual, length_dual, game_dual}
use Rattle.pg_check_determined.proofs.Common.{Answer, IsSolution, winner, BoundList, MeasureValue, AtMost, IsBoundsOf, game_line, MapValue, IsMap}
use Rattle.pg_check_determined.proofs.Common.{IsClosed, IsLeastProgressMeasure, measure_at, IsPlay, WinsPlay, Counts, IsSound, IsSafe, GoesServed}
use Rattle.pg_check_determined.proofs.Common.{priority_bound, one_loser, sound_from_safe, safe_from_sound, wins, player_cases, same_winner}
use Rattle.pg_check_determined.proofs.Common.{lists_win, falls, WinsFrom, HasSoundSolution, EachHasOneWinner, LeastTellsWinners, NeverUndecided}
use Rattle.pg_check_determined.proofs.Heights.{winners_have_lists}
use Rattle.pg_check_determined.proofs.Swapped.{swapped, dual_solutions, winner_swapped}
use Rattle.pg_check_determined.proofs.Walks.{walk, walk_starts, walk_goes}
use Rattle.pg_check_determined.proofs.OnePlayer.{one_player}
use Rattle.pg_check_determined.proofs.Positional.{solution, is_solution, is_safe}

is_sound : (game : List GameVertex) (is_game : IsGame game) → IsSound game (solution game is_game)
is_sound game is_game = sound_from_safe game (solution game is_game) is_game (is_safe game is_game)

pub has_sound_solution : HasSoundSolution
has_sound_solution game is_game = (solution game is_game, is_solution game is_game, is_sound game is_game)

-- a sound solution gives each vertex to a player who wins from it
gives : (game : List GameVertex) (s : List Answer) → IsGame game → IsSolution game s → IsSound game s
    → (v : ℕ) (player : Player) → winner s v ≡ player → WinsFrom game player v
gives game s is_game is_s sound v player e = record {
  solution = s;
  is_solution = is_s;
  wins = wins game s is_game sound v;
  given = e;
}

pub each_has_one_winner : EachHasOneWinner
each_has_one_winner game is_game v lt =
    let s = solution game is_game in
    let is_s = is_solution game is_game in
    let sound = is_sound game is_game in
    record {
      player = winner s v;
      wins = gives game s is_game is_s sound v (winner s v) refl;
      only = λ other w. one_player game is_game v lt other (winner s v) w
          (gives game s is_game is_s sound v (winner s v) refl);
      given = λ other is_other other_sound. same_winner game other s is_game is_other is_s other_sound sound v lt;
    }

-- the least progress measure has a list where Even wins

top_above : (m n : MeasureValue) → AtMost m n → m ≡ None → IsSome n → ⊥
top_above None None h e s = cc
top_above None (Some ys) h e s = h
top_above (Some xs) n h e s = cc

least_has_list : (game : List GameVertex) (s : List Answer) (bounds : BoundList) (f : List MeasureValue)
    → IsGame game → IsSolution game s → IsSound game s → IsBoundsOf game bounds
    → IsLeastProgressMeasure bounds (length game) (game_line game) f
    → (v : ℕ) → v < length game → winner s v ≡ Even → measure_at f v ≢ None
least_has_list game s bounds f is_game is_s sound is_bounds least v lt e top =
    winners_have_lists game s bounds is_game is_s (safe_from_sound game s sound) is_bounds (λ (h, is_map, closed, lists).
    let is_map' : IsMap bounds (length f) h = subst (λ n. IsMap bounds n h) (sym least.map.size) is_map in
    top_above (measure_at f v) (measure_at h v) (least.least h is_map' closed v) top (lists v lt e))

-- a closed map has no list where Odd wins

module _ (game : List GameVertex) (s : List Answer) (f : MapValue) (is_game : IsGame game) (is_s : IsSolution game s) (sound : IsSound game s)
    (closed : IsClosed f.bounds (game_line game) f.measures) where
  -- Odd wins at v, and the map has a list there
  record Contested (v : ℕ) : Type 0 where
    pub in_game : v < length game
    pub odd : winner s v ≡ Odd
    pub listed : IsSome (measure_at f.measures v)

  safe : IsSafe game s
  safe = safe_from_sound game s sound

  -- by the solution and by the map
  FollowsBoth : ℕ → ℕ → Type 0
  FollowsBoth v w = Counts game s v w × GoesServed game f v w

  -- an edge that counts by the solution and serves in the map
  next : (v : ℕ) → Contested v → (w : ℕ) × FollowsBoth v w × Contested w
  unfolding FollowsBoth
  next v c = go (owner game v) refl
    where
      on : (w : ℕ) → Counts game s v w → GoesServed game f v w → (w : ℕ) × FollowsBoth v w × Contested w
      on w counts goes = (
        w,
        (counts, goes),
        record {
          in_game = is_game.in_range v w counts.0;
          odd = safe.none_leaves v w counts ∙ c.odd;
          listed = (falls game f is_game closed v w c.listed goes).0;
        },
      )

      go : (o : Player) → owner game v ≡ o → (w : ℕ) × FollowsBoth v w × Contested w
      go Even e =
          let some = (lists_win game f is_game closed).goes_on v c.in_game in
          on some.0 (some.1.0, inl (e ∙ sym (ap opponent c.odd))) some.1
      go Odd e =
          let chosen = is_s.chosen v c.in_game (e ∙ sym c.odd) in
          on chosen.0 (chosen.2, inr chosen.1) (chosen.2, λ even. absurd (cc (e, even)))

  not_contested : (v : ℕ) → Contested v → ⊥
  unfolding FollowsBoth
  not_contested v c =
      let play = walk FollowsBoth Contested next v c in
      let start : play 0 ≡ v = walk_starts FollowsBoth Contested next v c in
      let goes : IsPlay FollowsBoth play = walk_goes FollowsBoth Contested next v c in
      let met : ℕ → ℕ = λ t. priority game (play t) in
      let listed = subst (λ u. IsSome (measure_at f.measures u)) (sym start) c.listed in
      let even_wins : WinsPlay Even met = (lists_win game f is_game closed).wins play (λ t. (goes t).1) listed in
      let odd_wins : WinsPlay Odd met =
      subst (λ p. WinsPlay p met) c.odd (wins game s is_game sound v play start (λ t. (goes t).0)).1 in
      let bound = priority_bound game in
      (one_loser met bound.0 (λ t. bound.1 (play t))).not_neither (even_wins, odd_wins)

-- which player a measure tells

list_or_top : (m : MeasureValue) → IsSome m ⊎ (m ≡ None)
list_or_top None = inr refl
list_or_top (Some xs) = inl refl

pub least_tells_winners : LeastTellsWinners
least_tells_winners game f is_game is_bounds least = record {
  even = λ v lt. (
    λ listed. elim (player_cases (winner s v) Even) [
      | inl e ↦ gives game s is_game is_s sound v Even e
      | inr e ↦ absurd (no_list s is_s sound v lt e listed)
    ],
    λ w. elim (list_or_top (measure_at f.measures v)) [
      | inl listed ↦ listed
      | inr top ↦ absurd (no_top s is_s sound v lt (given v lt Even w) top)
    ],
  );
  odd = λ v lt. (
    λ top. elim (player_cases (winner s v) Even) [
      | inl e ↦ absurd (no_top s is_s sound v lt e top)
      | inr e ↦ gives game s is_game is_s sound v Odd e
    ],
    λ w. elim (list_or_top (measure_at f.measures v)) [
      | inl listed ↦ absurd (no_list s is_s sound v lt (given v lt Odd w) listed)
      | inr top ↦ top
    ],
  );
}
  where
    s : List Answer
    s = solution game is_game

    is_s : IsSolution game s
    is_s = is_solution game is_game

    sound : IsSound game s
    sound = is_sound game is_game

    -- who wins is the winner that this solution gives
    given : (v : ℕ) → v < length game → (player : Player) → WinsFrom game player v → winner s v ≡ player
    given v lt player w =
        one_player game is_game v lt (winner s v) player (gives game s is_game is_s sound v (winner s v) refl) w

    no_top : (s : List Answer) → IsSolution game s → IsSound game s → (v : ℕ) → v < length game → winner s v ≡ Even → measure_at f.measures v ≢ None
    no_top s is_s sound v lt e = least_has_list game s f.bounds f.measures is_game is_s sound is_bounds least v lt e

    no_list : (s : List Answer) → IsSolution game s → IsSound game s → (v : ℕ) → v < length game → winner s v ≡ Odd → IsSome (measure_at f.measures v) → ⊥
    no_list s is_s sound v lt e listed =
        not_contested game s f is_game is_s sound least.closed v record { in_game = lt; odd = e; listed = listed }

pub never_undecided : NeverUndecided
never_undecided game f g is_game bounds_f bounds_g least_f least_g v undecided =
    elim (player_cases (winner s v) Even) [
      | inl e ↦ least_has_list game s f.bounds f.measures is_game (is_solution game is_game) (is_sound game is_game) bounds_f least_f
          v undecided.within e undecided.game_map
      | inr e ↦
          let d = dual_solutions game s is_game (is_solution game is_game) (is_safe game is_game) in
          let whole = (is_solution game is_game).whole in
          let lt : v < length game = undecided.within in
          least_has_list (dual game) (swapped s) g.bounds g.measures (game_dual game is_game) d.0
          (sound_from_safe (dual game) (swapped s) (game_dual game is_game) d.1) bounds_g least_g
          v (omega (arith, length_dual game)) (winner_swapped s v (omega (arith, whole)) ∙ ap opponent e) undecided.dual_map
    ]
  where
    s : List Answer
    s = solution game is_game
