-- Closed maps that leave no vertex undecided have a solution.
use Rattle.pg_check.proofs.Common.{◌≡◌, ℕ, zero, suc, ◌+◌, ◌<◌, ◌≤◌, ◌⊎◌, inl, inr, List, Option, Some, None, length, get_or, slice_set}
use Rattle.pg_check.proofs.Common.{replicate, arith, sym, subst, refl, below_more, Contains, IsStrictlyIncreasing, IsSome, IfSome, IfNone}
use Rattle.pg_check.proofs.Common.{get_or_default, length-replicate, Player, Even, Odd, GameVertex, IsGame, owner, Answer, unanswered}
use Rattle.pg_check.proofs.Common.{BoundList, MeasureValue, is_odd, width_from, covers_or, Line, line_at, game_line, MapValue, measure_at}
use Rattle.pg_check.proofs.Common.{IsServedBy, IsFirstServing, all_passed, first_serving_at, game_of, map_of, HasList, AreClosed}
use Rattle.pg_check.proofs.Common.{IsAnswerOf, IsUndecided, DecidedMapsSolve}
use Rattle.pg_check.proofs.Wins.{player_cases}
use Rattle.pg_check.proofs.Chosen.{lines_rise, answer_with, answer_without, AnswersUpto, answers_more, solution_from_upto, not_both}

-- the first successor that serves, or none does

module _ (bounds : BoundList) (lines : ℕ → Option Line) (f : List MeasureValue) (v : ℕ) where
  abbrev Serves : ℕ → Type 0
  Serves w = IsServedBy bounds lines f v w

  abbrev items : List ℕ
  items = (line_at lines v).successors

  record Found : Type 0 where
    pub found : Option ℕ
    pub some : IfSome found (IsFirstServing bounds lines f v)
    pub none : IfNone found ((w : ℕ) → Contains items w → ¬ Serves w)

  serves_or : (w : ℕ) → Serves w ⊎ ¬ Serves w
  serves_or w = covers_or (is_odd (line_at lines v).priority) (width_from bounds (line_at lines v).priority) (measure_at f v) (measure_at f w)

  find : IsStrictlyIncreasing items → (left k : ℕ) → k + left ≡ length items → ((j d : ℕ) → j < k → ¬ Serves (get_or items j d)) → Found
  find rising zero k e passed = record {
    found = None;
    some = tt;
    none = λ w among. all_passed (λ x. ¬ Serves x) items k w (omega arith) passed among;
  }
  find rising (suc left) k e passed = elim (serves_or (get_or items k 0)) [
    | inl serves ↦ record {
      found = Some (get_or items k 0);
      some = first_serving_at bounds lines f v (get_or items k 0) k items refl rising passed (omega arith)
          (get_or_default items k (get_or items k 0) 0 (omega arith)) serves;
      none = tt;
    }
    | inr not ↦ find rising left (k + 1) (omega arith) (λ j d.
        below_more (λ j. ¬ Serves (get_or items j d)) k (λ j lt. passed j d lt)
        (let same : get_or items k 0 ≡ get_or items k d = get_or_default items k 0 d (omega arith) in subst (λ w. ¬ Serves w) same not) j)
  ]

module _ (game : List GameVertex) (f g : MapValue) (is_game : IsGame game) (closed : AreClosed game f g)
    (decided : (v : ℕ) → ¬ IsUndecided game f g v) where
  winner_at : (v : ℕ) → v < length game → (player : Player) × HasList player f g v
  winner_at v lt = go (measure_at f.measures v) refl (measure_at g.measures v) refl
    where
      go : (m : MeasureValue) → measure_at f.measures v ≡ m → (n : MeasureValue) → measure_at g.measures v ≡ n
          → (player : Player) × HasList player f g v
      go (Some xs) e n d = (Even, subst IsSome (sym e) refl)
      go None e (Some ys) d = (Odd, subst IsSome (sym d) refl)
      go None e None d = absurd (decided v (record { within = lt; game_map = e; dual_map = d }))

  answer_at_vertex : (v : ℕ) → v < length game → (answer : Answer) × IsAnswerOf game f g v answer
  answer_at_vertex v lt = go (winner_at v lt)
    where
      go : (player : Player) × HasList player f g v → (answer : Answer) × IsAnswerOf game f g v answer
      go (player, list) =
          let m = map_of player f g in
          let lines = game_line (game_of player game) in
          let found = find m.bounds lines m.measures v (lines_rise player game is_game v lt) (length (line_at lines v).successors) 0
          (omega arith) (λ j d none. absurd (omega arith)) in
          elim (player_cases (owner game v) player) [
            | inl own ↦ (_, answer_with game f g is_game closed v lt player list own found.found found.some found.none)
            | inr own ↦ (_, answer_without game f g is_game closed v lt player list (λ same. not_both (owner game v) player same own))
          ]

  answered : (n : ℕ) → n ≤ length game → (solution : List Answer) × AnswersUpto game (IsAnswerOf game f g) solution n
  answered zero le = (
    replicate (length game) unanswered,
    record { whole = length-replicate (length game) unanswered; answers = λ u lt. absurd (omega arith) },
  )
  answered (suc n) le =
      let before = answered n (omega arith) in
      let here = answer_at_vertex n (omega arith) in
      let more = answers_more game (IsAnswerOf game f g) before.0 n here.0 (omega arith) before.1 here.1 in
      let e : n + 1 ≡ suc n = omega arith in
      (slice_set before.0 n here.0, subst (AnswersUpto game (IsAnswerOf game f g) (slice_set before.0 n here.0)) e more)

pub decided_maps_solve : DecidedMapsSolve
decided_maps_solve game f g is_game closed decided =
    let all = answered game f g is_game closed decided (length game) (omega arith) in
    (all.0, solution_from_upto game f g all.0 (length game) (omega arith) all.1)
