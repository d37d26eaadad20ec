-- The solution of two maps, vertex by vertex.
use Rattle.pg_check.proofs.Common.{◌≡◌, ◌≢◌, ◌↔◌, ℕ, zero, suc, ◌+◌, ◌<◌, ◌≤◌, inl, inr, List, [], ◌∷◌, Option, Some, None, length, get_or}
use Rattle.pg_check.proofs.Common.{slice_set, arith, sym, subst, refl, ◌∙◌, get_or-set_other, get_or-set_same, length-set, ap, Bool, false}
use Rattle.pg_check.proofs.Common.{IsTrue, All, Contains, IsStrictlyIncreasing, IsSome, IfSome, IfNone, cases_lt, Contains-get_or, Player}
use Rattle.pg_check.proofs.Common.{Even, Odd, GameVertex, IsGame, opponent, owner, identifier, successors, length_dual, Answer, answer_at}
use Rattle.pg_check.proofs.Common.{unanswered, winner, IsSolution, MeasureValue, Line, line_at, game_line, AreWithin, MapValue, measure_at}
use Rattle.pg_check.proofs.Common.{IsServedBy, IsClosed, IsFirstServing, game_of, map_of, HasList, AreClosed, IsChoiceFor, IsAnswerOf}
use Rattle.pg_check.proofs.Common.{IsSolutionOf, IsUndecided, IsLeastUndecided, game_line_at}
use Rattle.pg_check.proofs.Wins.{player_cases}
use Rattle.pg_check.proofs.Certified.{owner_is, owner_isn't, closed_for, some_serves, line_edges, no_both}

-- the lines of a player's game are those of vertices of the game
pub lines_within : (player : Player) (game : List GameVertex) (n : ℕ) → IsGame game → n ≡ length game → AreWithin n (game_line (game_of player game))
lines_within player game n is_game e = record {
  numbers = λ v some. let lt = below v some in omega arith;
  successors = λ v some.
      subst (λ ws. All (λ w. w < n) ws) (sym (line_edges player game v))
      (λ k d lt. let h = is_game.in_range v (get_or (successors game v) k d) (Contains-get_or (successors game v) k d lt) in omega (arith, h));
  nonempty = λ v some. subst (λ ws. 0 < length ws) (sym (line_edges player game v)) (is_game.goes_on v (below v some));
}
  where
    below : (v : ℕ) → IsSome (game_line (game_of player game) v) → v < length game
    below v some = subst (λ m. v < m) (same_length player) (go (game_of player game) v some)
      where
        same_length : (player : Player) → length (game_of player game) ≡ length game
        same_length Even = refl
        same_length Odd = length_dual game

        go : (xs : List GameVertex) (v : ℕ) → IsSome (game_line xs v) → v < length xs
        go [] v some = absurd (cc some)
        go (x ∷ xs) zero some = omega arith
        go (x ∷ xs) (suc v) some = let h = go xs v some in omega (arith, h)

-- the choice is found: some successor serves the vertex
pub choice_found : (player : Player) (game : List GameVertex) (m : MapValue) → IsClosed m.bounds (game_line (game_of player game)) m.measures
    → (v : ℕ) → v < length game → owner game v ≡ player
    → (found : Option ℕ) → IfSome found (IsFirstServing m.bounds (game_line (game_of player game)) m.measures v)
    → IfNone found ((w : ℕ) → Contains (line_at (game_line (game_of player game)) v).successors w
    → ¬ IsServedBy m.bounds (game_line (game_of player game)) m.measures v w)
    → (w : ℕ) × (found ≡ Some w) × IsFirstServing m.bounds (game_line (game_of player game)) m.measures v w
choice_found player game m closed v lt e None some none =
    let any = some_serves player game m closed v lt e in absurd (none any.1 (any.0, any.2, any.3) any.4)
choice_found player game m closed v lt e (Some w) some none = (w, refl, some)

-- the player with a list wins, and no other
pub wins_exactly : (game : List GameVertex) (f g : MapValue) → IsGame game → AreClosed game f g → (v : ℕ) → v < length game
    → (winner : Player) → HasList winner f g v → (player : Player) → (winner ≡ player) ↔ HasList player f g v
wins_exactly game f g is_game closed v lt winner list player = (
  λ e. subst (λ p. HasList p f g v) e list,
  λ other. elim (player_cases winner player) [
    | inl e ↦ e
    | inr e ↦ absurd (no_both game f g is_game closed v (record { within = lt; lists = each player e other }))
  ],
)
  where
    each : (player : Player) → winner ≡ opponent player → HasList player f g v → (p : Player) → HasList p f g v
    each Even e other Even = other
    each Even e other Odd = subst (λ p. HasList p f g v) e list
    each Odd e other Even = subst (λ p. HasList p f g v) e list
    each Odd e other Odd = other

pub not_both : (p q : Player) → p ≡ q → p ≡ opponent q → ⊥
not_both Even Even e h = cc h
not_both Even Odd e h = cc e
not_both Odd Even e h = cc e
not_both Odd Odd e h = cc h

pub answer_without : (game : List GameVertex) (f g : MapValue) → IsGame game → AreClosed game f g → (v : ℕ) → v < length game
    → (player : Player) → HasList player f g v → owner game v ≢ player → IsAnswerOf game f g v (record { winner = player; choice = None })
answer_without game f g is_game closed v lt player list not_owner = record {
  wins = wins_exactly game f g is_game closed v lt player list;
  chosen = λ e. absurd (not_owner e);
  elsewhere = λ e. refl;
}

pub answer_with : (game : List GameVertex) (f g : MapValue) → IsGame game → AreClosed game f g → (v : ℕ) → v < length game
    → (player : Player) → HasList player f g v → owner game v ≡ player → (found : Option ℕ) → IfSome found (IsChoiceFor player game f g v)
    → IfNone found ((w : ℕ) → Contains (line_at (game_line (game_of player game)) v).successors w
    → ¬ IsServedBy (map_of player f g).bounds (game_line (game_of player game)) (map_of player f g).measures v w)
    → IsAnswerOf game f g v (record { winner = player; choice = found })
answer_with game f g is_game closed v lt player list is_owner found some none = record {
  wins = wins_exactly game f g is_game closed v lt player list;
  chosen = λ e. choice_found player game (map_of player f g) (closed_for player game f g closed) v lt is_owner found some none;
  elsewhere = λ e. absurd (not_both (owner game v) player is_owner e);
}

-- the vertices below i have the answers that are theirs
pub record AnswersUpto (game : List GameVertex) (IsOf : ℕ → Answer → Type 0) (solution : List Answer) (i : ℕ) : Type 0 where
  pub whole : length solution ≡ length game
  pub answers : (u : ℕ) → u < i → IsOf u (answer_at solution u)

pub answers_more : (game : List GameVertex) (IsOf : ℕ → Answer → Type 0) (solution : List Answer) (v : ℕ) (answer : Answer) → v < length game
    → AnswersUpto game IsOf solution v → IsOf v answer → AnswersUpto game IsOf (slice_set solution v answer) (v + 1)
answers_more game IsOf solution v answer lt upto here = record {
  whole = length-set solution v answer ∙ upto.whole;
  answers = λ u below. elim (cases_lt u v) [
    | inl earlier ↦
        let ne : u ≢ v = omega arith in
        let same : answer_at (slice_set solution v answer) u ≡ answer_at solution u = get_or-set_other solution v u answer unanswered ne in
        subst (IsOf u) (sym same) (upto.answers u earlier)
    | inr later ↦
        let e : v ≡ u = omega arith in
        let inside : v < length solution = let w = upto.whole in omega arith in
        let same : answer_at (slice_set solution v answer) v ≡ answer = get_or-set_same solution v answer unanswered inside in
        subst (λ x. IsOf x (answer_at (slice_set solution v answer) x)) e (subst (IsOf v) (sym same) here)
  ];
}

pub lines_rise : (player : Player) (game : List GameVertex) → IsGame game → (v : ℕ) → v < length game
    → IsStrictlyIncreasing (line_at (game_line (game_of player game)) v).successors
lines_rise player game is_game v lt = subst IsStrictlyIncreasing (sym (line_edges player game v)) (is_game.successors_rise v)

pub solution_from_upto : (game : List GameVertex) (f g : MapValue) (solution : List Answer) (i : ℕ) → length game ≤ i
    → AnswersUpto game (IsAnswerOf game f g) solution i → IsSolutionOf game f g solution
solution_from_upto game f g solution i done upto = record {
  whole = upto.whole;
  answers = λ v lt. upto.answers v (omega arith);
}

-- a vertex with an answer isn't undecided
pub not_undecided : (game : List GameVertex) (f g : MapValue) (v : ℕ) (answer : Answer) → IsAnswerOf game f g v answer → ¬ IsUndecided game f g v
not_undecided game f g v answer is undecided = go answer.winner ((is.wins answer.winner).0 refl)
  where
    go : (player : Player) → HasList player f g v → ⊥
    go Even list = cc (undecided.game_map, list)
    go Odd list = cc (undecided.dual_map, list)

-- the winner has a choice on each vertex that it owns
pub is_solution : (game : List GameVertex) (f g : MapValue) (solution : List Answer) → IsSolutionOf game f g solution → IsSolution game solution
is_solution game f g solution of = record {
  whole = of.whole;
  chosen = λ v lt own.
      let c = (of.answers v lt).chosen own in
      (c.0, c.1, subst (λ ws. Contains ws c.0) (line_edges (winner solution v) game v) c.2.follows);
}

-- a vertex that is answered by what its player's lines say of it

line_owner : (player : Player) (game : List GameVertex) (v : ℕ) → (line_at (game_line (game_of player game)) v).owner ≡ owner (game_of player game) v
line_owner player game v = ap Line.owner (game_line_at (game_of player game) v)

module _ (game : List GameVertex) (f g : MapValue) (is_game : IsGame game) (closed : AreClosed game f g) (v : ℕ) (lt : v < length game)
    (player : Player) (list : HasList player f g v) (found : Option ℕ) where
  abbrev pub line : Line
  line = line_at (game_line (game_of player game)) v

  abbrev pub NoneServes : Type 0
  NoneServes = (w : ℕ) → Contains line.successors w
      → ¬ IsServedBy (map_of player f g).bounds (game_line (game_of player game)) (map_of player f g).measures v w

  pub answer_by : IfSome found (IsChoiceFor player game f g v) → IfNone found (line.owner ≡ Even → NoneServes)
      → (line.owner ≡ Odd → found ≡ None) → IsAnswerOf game f g v (record { winner = player; choice = found })
  answer_by some none elsewhere = elim (player_cases (owner game v) player) [
    | inl own ↦
        answer_with game f g is_game closed v lt player list own found some
        (none_if found (line_owner player game v ∙ owner_is player game v lt own) none)
    | inr own ↦
        subst (λ choice. IsAnswerOf game f g v (record { winner = player; choice = choice }))
        (sym (elsewhere (line_owner player game v ∙ owner_isn't player game v lt own)))
        (answer_without game f g is_game closed v lt player list (λ same. not_both (owner game v) player same own))
  ]
    where
      none_if : (found : Option ℕ) → line.owner ≡ Even → IfNone found (line.owner ≡ Even → NoneServes) → IfNone found NoneServes
      none_if None e none = none e
      none_if (Some w) e none = tt

-- the first vertex with no list is the least undecided one
pub least_from_upto : (game : List GameVertex) (f g : MapValue) (solution : List Answer) (v id : ℕ) → v < length game
    → AnswersUpto game (IsAnswerOf game f g) solution v → measure_at f.measures v ≡ None → measure_at g.measures v ≡ None
    → id ≡ identifier game v → IsLeastUndecided game f g id
least_from_upto game f g solution v id lt upto top other named = record {
  vertex = v;
  undecided = record { within = lt; game_map = top; dual_map = other };
  named = named;
  least = λ u undecided. elim (cases_lt u v) [
    | inl below ↦ absurd (not_undecided game f g u _ (upto.answers u below) undecided)
    | inr past ↦ past
  ];
}

-- a vertex that isn't at top has a list
pub has_list : (is_top : Bool) (m : MeasureValue) → (m ≡ None → IsTrue is_top) → is_top ≡ false → IsSome m
has_list is_top None at_top not = absurd (cc (at_top refl, not))
has_list is_top (Some xs) at_top not = refl

pub answered_more : (game : List GameVertex) (f g : MapValue) (before after : List Answer) (v : ℕ) (answer : Answer) → v < length game
    → AnswersUpto game (IsAnswerOf game f g) before v → after ≡ slice_set before v answer → IsAnswerOf game f g v answer
    → AnswersUpto game (IsAnswerOf game f g) after (v + 1)
answered_more game f g before after v answer lt upto is here =
    subst (λ s. AnswersUpto game (IsAnswerOf game f g) s (v + 1)) (sym is) (answers_more game (IsAnswerOf game f g) before v answer lt upto here)
