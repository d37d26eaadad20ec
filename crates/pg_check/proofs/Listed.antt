-- In a closed map Even wins from each vertex with a list.
use Rattle.pg_check.proofs.Common.{◌≡◌, ℕ, zero, suc, ◌+◌, ◌%◌, ◌<◌, ◌≤◌, inl, inr, eqb, List, ◌∷◌, ◌++◌, length, map, get_or, arith, subst}
use Rattle.pg_check.proofs.Common.{refl, All, IsSome, eqb-true, All-map, Contains-get_or, Player, Even, Odd, GameVertex, IsGame, priority}
use Rattle.pg_check.proofs.Common.{owner, successors, IsGreatest, game_line, MapValue, measure_at, IsServedBy, IsClosed, IsPlay, WinsPlay}
use Rattle.pg_check.proofs.Common.{stretch, KeepsCount, GoesServed, ListsWin, IsWay, way_later, path_upto, all_front, all_later, Repeat}
use Rattle.pg_check.proofs.Common.{repeat_or_few, Falls, all_unmap, lists, no_odd_cycle}
use Rattle.pg_check.proofs.Cycles.{edge_from}
use Rattle.pg_check.proofs.Wins.{all_stretch, stretch_path, play_keeps, not_lost}
use Rattle.pg_check.proofs.Certified.{map_falls, some_edge_serves, each_edge_serves}

module _ (game : List GameVertex) (f : MapValue) (is_game : IsGame game) (closed : IsClosed f.bounds (game_line game) f.measures) where
  abbrev pub HasListAt : ℕ → Type 0
  HasListAt v = IsSome (measure_at f.measures v)

  abbrev pub FallsHere : ℕ → ℕ → Type 0
  FallsHere = Falls f.bounds (priority game) (lists f.measures)

  -- whoever owns the vertex, the edge serves it
  serves : (v w : ℕ) → GoesServed game f v w → IsServedBy f.bounds (game_line game) f.measures v w
  serves v w goes = go (owner game v) refl
    where
      go : (o : Player) → owner game v ≡ o → IsServedBy f.bounds (game_line game) f.measures v w
      go Even e = goes.1 e
      go Odd e = each_edge_serves game f closed v w (edge_from game v w goes.0) e goes.0

  pub falls : (v w : ℕ) → HasListAt v → GoesServed game f v w → HasListAt w × FallsHere v w
  falls v w s goes = map_falls game f v w s (serves v w goes)

  goes_on : (v : ℕ) → v < length game → (w : ℕ) × GoesServed game f v w
  goes_on v lt = go (owner game v) refl
    where
      go : (o : Player) → owner game v ≡ o → (w : ℕ) × GoesServed game f v w
      go Even e = let some = some_edge_serves game f closed v lt e in (some.0, (some.1, λ _. some.2))
      go Odd e =
          let edge = Contains-get_or (successors game v) 0 0 (is_game.goes_on v lt) in
          (get_or (successors game v) 0 0, (edge, λ even. absurd (cc)))

  module _ (play : ℕ → ℕ) (goes : IsPlay (GoesServed game f) play) (start : HasListAt (play 0)) where
    listed : (t : ℕ) → HasListAt (play t)
    listed = play_keeps (GoesServed game f) HasListAt play (λ v w s g. (falls v w s g).0) goes start

    play_falls : IsPlay FallsHere play
    play_falls t = (falls (play t) (play (t + 1)) (listed t) (goes t)).1

    -- a priority that is met twice in a part, with none greater between
    no_repeat : (p : ℕ) (part : List ℕ) → IsWay FallsHere part → All (λ x. priority game x ≤ p) part → p % 2 ≡ 1
        → Repeat (λ x. eqb (priority game x) p) part → ⊥
    no_repeat p part way above odd r =
        let cycle = r.twice ∷ (r.between ++ r.twice ∷ r.after) in
        let is_p : priority game r.twice ≡ p = eqb-true (priority game r.twice) p r.passes in
        let above_cycle : All (λ x. priority game x ≤ p) cycle =
        all_later (λ x. priority game x ≤ p) r.before cycle (subst (All (λ x. priority game x ≤ p)) r.splits above) in
        let greatest : IsGreatest p (map (priority game) (r.twice ∷ r.between)) = record {
          occurs = (0, omega arith, is_p);
          above_all = All-map (λ q. q ≤ p) (priority game) (r.twice ∷ r.between)
              (all_front (λ x. priority game x ≤ p) (r.twice ∷ r.between) (r.twice ∷ r.after) above_cycle);
        } in
        no_odd_cycle f.bounds (priority game) (lists f.measures) r.twice r.between p
        (path_upto FallsHere r.twice r.between r.twice r.after (way_later FallsHere r.before cycle (subst (IsWay FallsHere) r.splits way)))
        greatest odd

    keeps : (from count : ℕ) → KeepsCount game Even (stretch play from count)
    keeps from zero p greatest odd = omega arith
    keeps from (suc count) p greatest odd =
        let part = stretch play from (suc count) in
        let inside : All (λ v. v < length game) part =
        all_stretch (λ v. v < length game) play from (suc count) (λ s le. edge_from game (play s) (play (s + 1)) (goes s).0) in
        elim (repeat_or_few (length game) (λ x. eqb (priority game x) p) part inside) [
          | inl r ↦ absurd (no_repeat p part (stretch_path FallsHere play play_falls from count)
              (all_unmap (priority game) (λ q. q ≤ p) part greatest.above_all) odd r)
          | inr le ↦ le
        ]

    won : WinsPlay Even (λ t. priority game (play t))
    won = not_lost game Even play keeps

pub lists_win : ListsWin
lists_win game f is_game closed = record { goes_on = goes_on game f is_game closed; wins = won game f is_game closed }
