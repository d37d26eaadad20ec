-- What two maps certify is sound; so is the solution of closed maps, of which none has a list where the other has one.
use Rattle.pg_check.proofs.Common.{◌≡◌, ℕ, ◌+◌, ◌%◌, ◌<◌, ◌⊎◌, inl, inr, List, [], ◌∷◌, ◌++◌, Some, length, map, get_or, arith, sym, subst}
use Rattle.pg_check.proofs.Common.{refl, ap, ◌∙◌, All, Any, Contains, IsSome, Player, Even, Odd, GameVertex, IsGame, IsEdge, IsPath}
use Rattle.pg_check.proofs.Common.{HasParityOf, opponent, priority, owner, successors, vertex_at, dual, IsGreatest, length_dual}
use Rattle.pg_check.proofs.Common.{successors_dual, priority_dual, owner_dual, Answer, winner, loser, choice, Covers, Line, vertex_line}
use Rattle.pg_check.proofs.Common.{game_line, line_at, MapValue, measure_at, IsServedBy, IsClosed, SomeOrAll, Counts, IsSound, game_of}
use Rattle.pg_check.proofs.Common.{map_of, HasList, IsServedFor, AreClosed, IsSolutionOf, IsCertifiedFor, Certifies, game_line_at}
use Rattle.pg_check.proofs.Common.{game_line_some, path_keeps, all_front, Falls, lists, covers_falls, no_odd_cycle, path_map}
use Rattle.pg_check.proofs.Common.{greatest_raised, none_both}
use Rattle.pg_check.proofs.Cycles.{edge_from, sound_from_safe}
use Rattle.pg_check.proofs.Wins.{player_cases}

-- lines of a game and of its dual

same_edges : (player : Player) (game : List GameVertex) (v : ℕ) → successors (game_of player game) v ≡ successors game v
same_edges Even game v = refl
same_edges Odd game v = successors_dual game v

-- in the player's game Even owns what the player owns
pub owner_is : (player : Player) (game : List GameVertex) (v : ℕ) → v < length game → owner game v ≡ player → owner (game_of player game) v ≡ Even
owner_is Even game v lt e = e
owner_is Odd game v lt e = owner_dual game v lt ∙ ap opponent e

pub owner_isn't : (player : Player) (game : List GameVertex) (v : ℕ) → v < length game → owner game v ≡ opponent player → owner (game_of player game) v ≡ Odd
owner_isn't Even game v lt e = e
owner_isn't Odd game v lt e = owner_dual game v lt ∙ ap opponent e

some_served : (o : Player) (P : ℕ → Type 0) (successors : List ℕ) → o ≡ Even → SomeOrAll o P successors → Any P successors
some_served Even P successors e h = h
some_served Odd P successors e h = absurd (cc e)

all_served : (o : Player) (P : ℕ → Type 0) (successors : List ℕ) → o ≡ Odd → SomeOrAll o P successors → All P successors
all_served Even P successors e h = absurd (cc e)
all_served Odd P successors e h = h

-- steps that a player's map serves

abbrev pub FallsFor : Player → List GameVertex → MapValue → MapValue → ℕ → ℕ → Type 0
FallsFor player game f g = let m = map_of player f g in Falls m.bounds (priority (game_of player game)) (lists m.measures)

pub map_falls : (game : List GameVertex) (m : MapValue) (v w : ℕ) → IsSome (measure_at m.measures v)
    → IsServedBy m.bounds (game_line game) m.measures v w
    → IsSome (measure_at m.measures w) × Falls m.bounds (priority game) (lists m.measures) v w
map_falls game m v w s h =
    covers_falls m.bounds (priority game v) (measure_at m.measures v) (measure_at m.measures w) s
    (subst (λ (l : Line). Covers m.bounds l.priority (measure_at m.measures v) (measure_at m.measures w)) (game_line_at game v) h)

pub served_falls : (player : Player) (game : List GameVertex) (f g : MapValue) (v w : ℕ) → HasList player f g v
    → IsServedFor player game f g v w → HasList player f g w × FallsFor player game f g v w
served_falls player game f g v w s h = map_falls (game_of player game) (map_of player f g) v w s h

-- a priority of the opponent's parity is odd in the player's game
odd_greatest : (player : Player) (game : List GameVertex) (p : ℕ) (xs : List ℕ) → All (λ v. v < length game) xs
    → IsGreatest p (map (priority game) xs) → HasParityOf (opponent player) p
    → (q : ℕ) × IsGreatest q (map (priority (game_of player game)) xs) × (q % 2 ≡ 1)
odd_greatest Even game p xs within greatest parity = (p, greatest, parity)
odd_greatest Odd game p xs within greatest parity = (
  p + 1,
  greatest_raised (priority game) (priority (dual game)) p xs raised greatest,
  (let even : p % 2 ≡ 0 = parity in omega arith),
)
  where
    raised : All (λ v. priority (dual game) v ≡ priority game v + 1) xs
    raised k d lt = priority_dual game (get_or xs k d) (within k d lt)

-- no cycle of steps that the player's map serves is lost by the player
pub no_lost_cycle : (player : Player) (game : List GameVertex) (f g : MapValue) (v : ℕ) (rest : List ℕ) (p : ℕ)
    → All (λ u. u < length game) (v ∷ rest) → IsPath (FallsFor player game f g) v (rest ++ v ∷ [])
    → IsGreatest p (map (priority game) (v ∷ rest)) → HasParityOf (opponent player) p → ⊥
no_lost_cycle player game f g v rest p within path greatest parity =
    let o = odd_greatest player game p (v ∷ rest) within greatest parity in
    no_odd_cycle (map_of player f g).bounds (priority (game_of player game)) (lists (map_of player f g).measures) v rest o.0 path o.1 o.2

-- closed maps serve the winner, by some edge where it owns the vertex and by all where it doesn't

pub closed_for : (player : Player) (game : List GameVertex) (f g : MapValue) → AreClosed game f g
    → IsClosed (map_of player f g).bounds (game_line (game_of player game)) (map_of player f g).measures
closed_for Even game f g closed = closed.game_map
closed_for Odd game f g closed = closed.dual_map

same_length : (player : Player) (game : List GameVertex) (v : ℕ) → v < length game → v < length (game_of player game)
same_length Even game v lt = lt
same_length Odd game v lt = omega (arith, length_dual game, lt)

pub has_line : (player : Player) (game : List GameVertex) (v : ℕ) → v < length game → IsSome (game_line (game_of player game) v)
has_line player game v lt = game_line_some (game_of player game) v (same_length player game v lt)

pub some_serves : (player : Player) (game : List GameVertex) (m : MapValue) → IsClosed m.bounds (game_line (game_of player game)) m.measures
    → (v : ℕ) → v < length game → owner game v ≡ player
    → Any (IsServedBy m.bounds (game_line (game_of player game)) m.measures v) (line_at (game_line (game_of player game)) v).successors
some_serves player game m closed v lt e =
    let line : Line = line_at (game_line (game_of player game)) v in
    let is : line ≡ vertex_line (vertex_at (game_of player game) v) = game_line_at (game_of player game) v in
    some_served line.owner (IsServedBy m.bounds (game_line (game_of player game)) m.measures v) line.successors
    (ap Line.owner is ∙ owner_is player game v lt e) (closed v (has_line player game v lt))

pub line_edges : (player : Player) (game : List GameVertex) (v : ℕ) → (line_at (game_line (game_of player game)) v).successors ≡ successors game v
line_edges player game v = ap Line.successors (game_line_at (game_of player game) v) ∙ same_edges player game v

-- in a closed map some edge from a vertex of Even serves it, and each edge from a vertex of Odd does

pub some_edge_serves : (game : List GameVertex) (m : MapValue) → IsClosed m.bounds (game_line game) m.measures → (v : ℕ) → v < length game
    → owner game v ≡ Even → (w : ℕ) × IsEdge game v w × IsServedBy m.bounds (game_line game) m.measures v w
some_edge_serves game m closed v lt e =
    let line : Line = line_at (game_line game) v in
    let is : line ≡ vertex_line (vertex_at game v) = game_line_at game v in
    let any = some_served line.owner (IsServedBy m.bounds (game_line game) m.measures v) line.successors (ap Line.owner is ∙ e)
    (closed v (game_line_some game v lt)) in
    (any.1, subst (λ ws. Contains ws any.1) (ap Line.successors is) (any.0, any.2, any.3), any.4)

pub each_edge_serves : (game : List GameVertex) (m : MapValue) → IsClosed m.bounds (game_line game) m.measures → (v w : ℕ) → v < length game
    → owner game v ≡ Odd → IsEdge game v w → IsServedBy m.bounds (game_line game) m.measures v w
each_edge_serves game m closed v w lt e edge =
    let line : Line = line_at (game_line game) v in
    let is : line ≡ vertex_line (vertex_at game v) = game_line_at game v in
    let all = all_served line.owner (IsServedBy m.bounds (game_line game) m.measures v) line.successors (ap Line.owner is ∙ e)
    (closed v (game_line_some game v lt)) in
    let edge' : Contains line.successors w = subst (λ ws. Contains ws w) (sym (ap Line.successors is)) edge in
    subst (λ u. IsServedBy m.bounds (game_line game) m.measures v u) edge'.2 (all edge'.0 w edge'.1)

closed_some : (player : Player) (game : List GameVertex) (f g : MapValue) → AreClosed game f g → (v : ℕ) → v < length game
    → owner game v ≡ player → (w : ℕ) × IsEdge game v w × IsServedFor player game f g v w
closed_some player game f g closed v lt e =
    let some = some_edge_serves (game_of player game) (map_of player f g) (closed_for player game f g closed) v
    (same_length player game v lt) (owner_is player game v lt e) in
    (some.0, subst (λ ws. Contains ws some.0) (same_edges player game v) some.1, some.2)

closed_all : (player : Player) (game : List GameVertex) (f g : MapValue) → AreClosed game f g → (v w : ℕ) → v < length game
    → owner game v ≡ opponent player → IsEdge game v w → IsServedFor player game f g v w
closed_all player game f g closed v w lt e edge =
    each_edge_serves (game_of player game) (map_of player f g) (closed_for player game f g closed) v w
    (same_length player game v lt) (owner_isn't player game v lt e) (subst (λ ws. Contains ws w) (sym (same_edges player game v)) edge)

-- what is certified is safe

module _ (game : List GameVertex) (f g : MapValue) (solution : List Answer) (certifies : Certifies game f g solution) where
  at : (v w : ℕ) → Counts game solution v w → IsCertifiedFor (winner solution v) game f g solution v
  at v w counts = certifies v (edge_from game v w counts.0)

  certified_step : (player : Player) (v w : ℕ) → winner solution v ≡ player → Counts game solution v w
      → FallsFor player game f g v w × (winner solution w ≡ player)
  certified_step player v w e counts = (
    subst (λ p. FallsFor p game f g v w) e
        (served_falls (winner solution v) game f g v w (at v w counts).listed ((at v w counts).served w counts)).1,
    (at v w counts).stays w counts ∙ e,
  )

  pub sound_from_certificate : IsGame game → IsSound game solution
  sound_from_certificate is_game = sound_from_safe game solution is_game (record {
    none_leaves = λ v w counts. (at v w counts).stays w counts;
    no_bad_cycle = λ v rest bad.
        no_lost_cycle (winner solution v) game f g v rest bad.lost.0 (within v rest bad.closes)
        (path_map (Counts game solution) (FallsFor (winner solution v) game f g) (λ u. winner solution u ≡ winner solution v)
        (certified_step (winner solution v)) v (rest ++ v ∷ []) refl bad.closes)
        bad.lost.1 bad.lost.2;
  })
    where
      starts : (v : ℕ) (rest : List ℕ) → IsPath (Counts game solution) v (rest ++ v ∷ []) → v < length game
      starts v [] h = edge_from game v v h.0.0
      starts v (w ∷ rest) h = edge_from game v w h.0.0

      within : (v : ℕ) (rest : List ℕ) → IsPath (Counts game solution) v (rest ++ v ∷ []) → All (λ u. u < length game) (v ∷ rest)
      within v rest h =
          all_front (λ u. u < length game) (v ∷ rest) (v ∷ [])
          (path_keeps (Counts game solution) (λ u. u < length game) (λ u w lt s. is_game.in_range u w s.0) v (rest ++ v ∷ []) h (starts v rest h))

-- the solution of closed maps is certified

pub certifies_from_closed : (game : List GameVertex) (f g : MapValue) (solution : List Answer) → IsGame game → AreClosed game f g
    → IsSolutionOf game f g solution → Certifies game f g solution
certifies_from_closed game f g solution is_game closed is v lt = record { listed = listed v lt; stays = stays v; served = served v }
  where
    listed : (v : ℕ) → v < length game → HasList (winner solution v) f g v
    listed v lt = ((is.answers v lt).wins (winner solution v)).0 refl

    by_choice : (v w : ℕ) → v < length game → owner game v ≡ winner solution v
        → ((owner game v ≡ loser solution v) ⊎ (choice solution v ≡ Some w)) → IsServedFor (winner solution v) game f g v w
    by_choice v w lt e (inl o) = absurd (not_both (winner solution v) (sym e ∙ o))
      where
        not_both : (p : Player) → p ≡ opponent p → ⊥
        not_both Even h = cc h
        not_both Odd h = cc h
    by_choice v w lt e (inr o) =
        let c = (is.answers v lt).chosen e in
        let same : c.0 ≡ w = same_choice c.0 c.1 in
        subst (λ u. IsServedFor (winner solution v) game f g v u) same c.2.serves
      where
        same_choice : (u : ℕ) → choice solution v ≡ Some u → u ≡ w
        same_choice u h = cc

    served : (v w : ℕ) → Counts game solution v w → IsServedFor (winner solution v) game f g v w
    served v w counts =
        let lt = edge_from game v w counts.0 in
        elim (player_cases (owner game v) (winner solution v)) [
          | inl e ↦ by_choice v w lt e counts.1
          | inr e ↦ closed_all (winner solution v) game f g closed v w lt e counts.0
        ]

    stays : (v w : ℕ) → Counts game solution v w → winner solution w ≡ winner solution v
    stays v w counts =
        ((is.answers w (is_game.in_range v w counts.0)).wins (winner solution v)).1
        (served_falls (winner solution v) game f g v w (listed v (edge_from game v w counts.0)) (served v w counts)).0

-- no vertex has two lists

module _ (game : List GameVertex) (f g : MapValue) (is_game : IsGame game) (closed : AreClosed game f g) where
  pub record HasBoth (v : ℕ) : Type 0 where
    pub within : v < length game
    pub lists : (player : Player) → HasList player f g v

  -- whoever owns the vertex, one edge serves it in both maps
  serve : (v : ℕ) → v < length game → (w : ℕ) × (w < length game)
      × Covers f.bounds (priority game v) (measure_at f.measures v) (measure_at f.measures w)
      × Covers g.bounds (priority game v + 1) (measure_at g.measures v) (measure_at g.measures w)
  serve v lt =
      let c = closed_some (owner game v) game f g closed v lt refl in
      let w = c.0 in
      let each : (player : Player) → IsServedFor player game f g v w = λ player.
      elim (player_cases (owner game v) player) [
        | inl e ↦ subst (λ p. IsServedFor p game f g v w) e c.2
        | inr e ↦ closed_all player game f g closed v w lt e c.1
      ]
      in (
        w,
        is_game.in_range v w c.1,
        subst (λ p. Covers f.bounds p (measure_at f.measures v) (measure_at f.measures w)) (ap Line.priority (game_line_at game v)) (each Even),
        subst (λ p. Covers g.bounds p (measure_at g.measures v) (measure_at g.measures w))
            (ap Line.priority (game_line_at (dual game) v) ∙ priority_dual game v lt) (each Odd),
      )

  pub no_both : (v : ℕ) → HasBoth v → ⊥
  no_both v d =
      none_both f.bounds g.bounds (priority game) f.measures g.measures (length game) (λ u. u < length game) (λ u lt. lt) serve v
      (record { held = d.within; first = d.lists Even; second = d.lists Odd })
