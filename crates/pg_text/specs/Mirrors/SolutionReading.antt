-- What is known while a solution's lines are read: helpers of proofs.
use Rattle.std.specs.Prelude.{◌≡◌, ◌≢◌, ◌⊎◌, ℕ, ◌<◌, ◌&&◌, Bool, true, false, List, length, Option, Some, option_map, is_some}
use Rattle.std.specs.Prelude.{slice_index_or, slice_set, if◌then◌else◌}
use Rattle.std.specs.List.{AllByRecursion}
use Rattle.pg_arena.specs.Games.{GameVertex, identifier, IsEdge}
use Rattle.pg_text.specs.declared.answer.Answer.{Answer}
use Rattle.pg_text.specs.declared.solution_line.SolutionLine.{SolutionLine}
use Rattle.pg_text.specs.declared.solution_text.Misfit.{Misfit}
use Rattle.pg_text.specs.declared.solution_text.Misfit.TheVariants.{NotOfGame, Repeated}
use Rattle.pg_text.specs.declared.fault.TextFault.{TextFault}
use Rattle.pg_text.specs.declared.fault.TextFault.TheVariants as text
use Rattle.pg_text.specs.Solutions.{winner, choice}
use Rattle.pg_text.specs.SolutionText.{owns, counting_strategy, line_count, Says, StartsLine, IsUnknown, BeginsUnfit, AreLines}
use Rattle.pg_text.specs.SolutionText.{SpellsNoSolution, RefusesSolution}

-- whether v is marked
abbrev pub is_seen : List Bool → ℕ → Bool
is_seen seen v = slice_index_or seen v false

-- the choice that a line names at v
pub record Chooses (game : List GameVertex) (line : SolutionLine) (v : ℕ) (chosen : Option ℕ) : Type 0 where
  pub counts : option_map (identifier game) chosen ≡ counting_strategy game line v
  pub edge : (w : ℕ) → chosen ≡ Some w → IsEdge game v w

-- the strategy that counts names no successor
pub record LeadsNowhere (game : List GameVertex) (line : SolutionLine) (v : ℕ) : Type 0 where
  pub n : ℕ
  pub counts : counting_strategy game line v ≡ Some n
  pub absent : (w : ℕ) → IsEdge game v w → identifier game w ≢ n

-- the line's answer was entered where there was none
pub record Puts (game : List GameVertex) (line : SolutionLine) (solution : List Answer) (seen : List Bool)
    (solution' : List Answer) (seen' : List Bool) : Type 0 where
  pub v : ℕ
  pub within : v < length game
  pub named : line.identifier ≡ identifier game v
  pub fresh : is_seen seen v ≡ false
  pub chosen : Option ℕ
  pub chooses : Chooses game line v chosen
  pub solution_is : solution' ≡ slice_set solution v (record { winner = line.winner; choice = chosen })
  pub seen_is : seen' ≡ slice_set seen v true

-- the vertex with the identifier n is marked
pub record IsMarked (game : List GameVertex) (n : ℕ) (seen : List Bool) : Type 0 where
  pub v : ℕ
  pub within : v < length game
  pub named : n ≡ identifier game v
  pub marked : is_seen seen v ≡ true

-- no marked vertex has the identifier n
abbrev pub IsUnmarked : List GameVertex → ℕ → List Bool → Type 0
IsUnmarked game n seen = (v : ℕ) → v < length game → n ≡ identifier game v → is_seen seen v ≡ false

-- the line names v, and its strategy counts there and names no successor
pub record IsLost (game : List GameVertex) (line : SolutionLine) : Type 0 where
  pub v : ℕ
  pub within : v < length game
  pub named : line.identifier ≡ identifier game v
  pub nowhere : LeadsNowhere game line v

-- why the line can't be taken
abbrev pub IsMisfit : List GameVertex → SolutionLine → List Bool → Misfit → Type 0
IsMisfit game line seen NotOfGame =
    (IsUnknown game line.identifier ⊎ IsLost game line) × IsUnmarked game line.identifier seen
IsMisfit game line seen Repeated = IsMarked game line.identifier seen

-- why no line that begins here with the identifier n can be taken
abbrev pub BeginsMisfit : List GameVertex → List Bool → List ℕ → ℕ → Misfit → Type 0
BeginsMisfit game seen here n NotOfGame = BeginsUnfit game here n × IsUnmarked game n seen
BeginsMisfit game seen here n Repeated = StartsLine here n × IsMarked game n seen

-- no line that begins here is refused for its identifier or its strategy
pub record BeginsWell (game : List GameVertex) (seen : List Bool) (here : List ℕ) : Type 0 where
  pub fresh : (n : ℕ) → StartsLine here n → IsUnmarked game n seen
  pub no_unfit : (n : ℕ) → ¬ BeginsUnfit game here n

-- the solution read so far says what these lines say, and each vertex that one of them names is marked
pub record State (game : List GameVertex) (lines : List SolutionLine) (solution : List Answer) (seen : List Bool)
    : Type 0 where
  pub whole : length solution ≡ length game
  pub marks : length seen ≡ length game
  pub counted : (v : ℕ) → v < length game → line_count game lines v ≡ (if is_seen seen v then 1 else 0)
  pub said : AllByRecursion (λ line. (v : ℕ) × Says game solution line v) lines
  pub edges : (v w : ℕ) → choice solution v ≡ Some w → IsEdge game v w

-- the fault of a line with this identifier at this offset
abbrev pub misfit_fault : Misfit → ℕ → ℕ → TextFault
misfit_fault NotOfGame n offset = text.NotOfGame n
misfit_fault Repeated n offset = text.Syntax offset

-- v is marked, and has a choice if its winner owns it
abbrev pub is_complete : List GameVertex → List Answer → List Bool → ℕ → Bool
is_complete game solution seen v =
    is_seen seen v && (if owns game (winner solution v) v then is_some (choice solution v) else true)

-- all lines of the text were read
pub record HasRead (bytes : List ℕ) (game : List GameVertex) (solution : List Answer) (seen : List Bool) : Type 0 where
  pub lines : List SolutionLine
  pub text : AreLines bytes lines
  pub state : State game lines solution seen

-- why a text is refused
abbrev pub IsRefused : List ℕ → List GameVertex → TextFault → Type 0
IsRefused bytes game text.OutOfMemory = Unit {0}
IsRefused bytes game fault = SpellsNoSolution bytes game × RefusesSolution bytes game fault
