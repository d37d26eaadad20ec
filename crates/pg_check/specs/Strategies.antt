-- Solutions of two maps, one of the game and one of its dual, and what they certify.
use Rattle.std.specs.Prelude.{◌≡◌, ◌↔◌, ℕ, ◌<◌, ◌≤◌, List, length, Option, Some, None, IsSome}
use Rattle.pg_arena.specs.declared.player.Player.{Player}
use Rattle.pg_arena.specs.declared.player.Player.TheVariants.{Even, Odd}
use Rattle.pg_arena.specs.Games.{GameVertex, IsGame, IsEdge, opponent, owner, priority, identifier, dual}
use Rattle.pg_text.specs.declared.answer.Answer.{Answer}
use Rattle.pg_text.specs.Solutions.{answer_at, winner}
use Rattle.pg_measure.specs.Measures.{BoundList, MeasureValue}
use Rattle.pg_map.specs.Lines.{Line, game_line}
use Rattle.pg_map.specs.Maps.{MapValue, measure_at, IsServedBy, IsClosed, IsFirstServing}
use Rattle.pg_check.specs.declared.fault.CheckFault.{CheckFault}
use Rattle.pg_check.specs.declared.fault.CheckFault.TheVariants.{OutOfMemory, Undecided}
use Rattle.pg_check.specs.Plays.{IsPlay, WinsPlay}
use Rattle.pg_check.specs.Soundness.{Counts, IsSound}

-- Even plays the game, Odd its dual
abbrev pub game_of : Player → List GameVertex → List GameVertex
game_of Even game = game
game_of Odd game = dual game

-- Even has the first map, Odd the second
abbrev pub map_of : Player → MapValue → MapValue → MapValue
map_of Even f g = f
map_of Odd f g = g

-- the player's map has a list at v
abbrev pub HasList : Player → MapValue → MapValue → ℕ → Type 0
HasList player f g v = let m = map_of player f g in IsSome (measure_at m.measures v)

-- v is served by w in the player's map, by the player's game
abbrev pub IsServedFor : Player → List GameVertex → MapValue → MapValue → ℕ → ℕ → Type 0
IsServedFor player game f g v w =
    let m = map_of player f g in IsServedBy m.bounds (game_line (game_of player game)) m.measures v w

-- f is closed for the game and g for its dual
pub record AreClosed (game : List GameVertex) (f g : MapValue) : Type 0 where
  pub game_map : IsClosed f.bounds (game_line game) f.measures
  pub dual_map : IsClosed g.bounds (game_line (dual game)) g.measures

-- w is the first successor of v that serves it in the player's map, by the player's game
abbrev pub IsChoiceFor : Player → List GameVertex → MapValue → MapValue → ℕ → ℕ → Type 0
IsChoiceFor player game f g v w =
    let m = map_of player f g in IsFirstServing m.bounds (game_line (game_of player game)) m.measures v w

-- A player wins at v exactly where its map has a list. If the winner owns v, its choice is the first successor that
-- serves v in its map; otherwise there is no choice.
pub record IsAnswerOf (game : List GameVertex) (f g : MapValue) (v : ℕ) (answer : Answer) : Type 0 where
  pub wins : (player : Player) → (answer.winner ≡ player) ↔ HasList player f g v
  pub chosen : owner game v ≡ answer.winner → (w : ℕ) × (answer.choice ≡ Some w)
      × IsChoiceFor answer.winner game f g v w
  pub elsewhere : owner game v ≡ opponent answer.winner → answer.choice ≡ None

-- the solution of a map of the game and one of its dual
pub record IsSolutionOf (game : List GameVertex) (f g : MapValue) (solution : List Answer) : Type 0 where
  pub whole : length solution ≡ length game
  pub answers : (v : ℕ) → v < length game → IsAnswerOf game f g v (answer_at solution v)

-- neither map has a list at v
pub record IsUndecided (game : List GameVertex) (f g : MapValue) (v : ℕ) : Type 0 where
  pub within : v < length game
  pub game_map : measure_at f.measures v ≡ None
  pub dual_map : measure_at g.measures v ≡ None

-- the vertex with this identifier is the least one at which neither map has a list
pub record IsLeastUndecided (game : List GameVertex) (f g : MapValue) (id : ℕ) : Type 0 where
  pub vertex : ℕ
  pub undecided : IsUndecided game f g vertex
  pub named : id ≡ identifier game vertex
  pub least : (u : ℕ) → IsUndecided game f g u → vertex ≤ u

-- why two maps give no solution: apart from memory, neither map has a list at some vertex, and the least such vertex is named
abbrev pub StrategiesFail : List GameVertex → MapValue → MapValue → CheckFault → Type 0
StrategiesFail game f g OutOfMemory = Unit {0}
StrategiesFail game f g (Undecided id) = IsLeastUndecided game f g id

-- v has a list in the map, and each edge that counts leads from v to a vertex with the same winner that serves v there
pub record IsCertifiedBy (bounds : BoundList) (lines : ℕ → Option Line) (f : List MeasureValue)
    (game : List GameVertex) (solution : List Answer) (v : ℕ) : Type 0 where
  pub listed : IsSome (measure_at f v)
  pub stays : (w : ℕ) → Counts game solution v w → winner solution w ≡ winner solution v
  pub served : (w : ℕ) → Counts game solution v w → IsServedBy bounds lines f v w

-- v is certified by the player's map and game
abbrev pub IsCertifiedFor : Player → List GameVertex → MapValue → MapValue → List Answer → ℕ → Type 0
IsCertifiedFor player game f g solution v =
    let m = map_of player f g in IsCertifiedBy m.bounds (game_line (game_of player game)) m.measures game solution v

-- each vertex is certified by its winner's map
abbrev pub Certifies : List GameVertex → MapValue → MapValue → List Answer → Type 0
Certifies game f g solution = (v : ℕ) → v < length game → IsCertifiedFor (winner solution v) game f g solution v

-- an edge along which Even goes only to a successor that serves v in the map; Odd may go along any edge
abbrev pub GoesServed : List GameVertex → MapValue → ℕ → ℕ → Type 0
GoesServed game f v w = IsEdge game v w × (owner game v ≡ Even → IsServedBy f.bounds (game_line game) f.measures v w)

-- in a closed map such an edge leaves each vertex, and by such edges Even wins each play from a vertex with a list
pub record WinsByLists (game : List GameVertex) (f : MapValue) : Type 0 where
  pub goes_on : (v : ℕ) → v < length game → (w : ℕ) × GoesServed game f v w
  pub wins : (play : ℕ → ℕ) → IsPlay (GoesServed game f) play → IsSome (measure_at f.measures (play 0))
      → WinsPlay Even (λ t. priority game (play t))

abbrev pub ListsWin : Type 0
ListsWin =
    (game : List GameVertex) (f : MapValue) → IsGame game → IsClosed f.bounds (game_line game) f.measures
    → WinsByLists game f

abbrev pub NoListInBoth : Type 0
NoListInBoth =
    (game : List GameVertex) (f g : MapValue) → IsGame game → AreClosed game f g
    → (v : ℕ) → v < length game → ¬ (HasList Even f g v × HasList Odd f g v)

-- closed maps that leave no vertex undecided have a solution
abbrev pub DecidedMapsSolve : Type 0
DecidedMapsSolve =
    (game : List GameVertex) (f g : MapValue) → IsGame game → AreClosed game f g → ((v : ℕ) → ¬ IsUndecided game f g v)
    → (solution : List Answer) × IsSolutionOf game f g solution

abbrev pub ClosedMapsSound : Type 0
ClosedMapsSound =
    (game : List GameVertex) (f g : MapValue) (solution : List Answer) → IsGame game → AreClosed game f g
    → IsSolutionOf game f g solution → IsSound game solution

-- a solution that two maps certify is sound, also where the maps aren't closed
abbrev pub CertifiedSound : Type 0
CertifiedSound =
    (game : List GameVertex) (f g : MapValue) (solution : List Answer) → IsGame game
    → Certifies game f g solution → IsSound game solution
