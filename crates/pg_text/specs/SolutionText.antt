-- What a solution text is, token by token: its lines, and the solution that the lines give for a game.
use Rattle.std.specs.Prelude.{◌≡◌, ◌≢◌, ◌⊎◌, ℕ, ◌<◌, ◌≤◌, ◌==◌, ◌&&◌, Bool, true, false, List, [], ◌∷◌, ◌++◌, Option, Some, None}
use Rattle.std.specs.Prelude.{length, codes, count_by, is_some, option_map, if◌then◌else◌}
use Rattle.std.specs.List.{flat_map, list_any, AllByRecursion}
use Rattle.pg_arena.specs.declared.player.Player.{Player}
use Rattle.pg_arena.specs.declared.player.Player.TheVariants.{Even, Odd}
use Rattle.pg_arena.specs.Games.{GameVertex, identifier, owner, IsEdge}
use Rattle.pg_text.specs.declared.answer.Answer.{Answer}
use Rattle.pg_text.specs.declared.solution_line.SolutionLine.{SolutionLine}
use Rattle.pg_text.specs.declared.fault.TextFault.{TextFault}
use Rattle.pg_text.specs.declared.fault.TextFault.TheVariants.{Syntax, NumberTooLarge, NotOfGame, Missing}
use Rattle.pg_text.specs.Solutions.{winner, choice, IsSolution}
use Rattle.pg_text.specs.Lexemes.{Lexeme, number, semicolon, end, Spells, clause_lexemes}
use Rattle.pg_text.specs.GameText.{player_number}

-- ---- the lines of a text

-- a number, or nothing
abbrev pub strategy_lexemes : Option ℕ → List Lexeme
strategy_lexemes None = []
strategy_lexemes (Some n) = number n ∷ []

-- identifier, winner, perhaps a strategy, and a semicolon
abbrev pub answer_lexemes : SolutionLine → List Lexeme
answer_lexemes line =
    number line.identifier ∷ number (player_number line.winner) ∷ (strategy_lexemes line.strategy ++ semicolon ∷ [])

-- perhaps a header, and then the lines
abbrev pub solution_lexemes : Option ℕ → List SolutionLine → List Lexeme
solution_lexemes header lines = clause_lexemes (codes "paritysol") header ++ flat_map answer_lexemes lines

-- The bytes begin with these lines, in this order, and the rest follows. The header may have any number.
pub record BeginsWithLines (bytes : List ℕ) (lines : List SolutionLine) (rest : List ℕ) : Type 0 where
  pub header : Option ℕ
  pub spelt : Spells bytes (solution_lexemes header lines) rest

-- the bytes are a text of these lines: nothing but white space follows
pub record AreLines (bytes : List ℕ) (lines : List SolutionLine) : Type 0 where
  pub rest : List ℕ
  pub begins : BeginsWithLines bytes lines rest
  pub ends : Spells rest (end ∷ []) []

-- ---- what the lines say of a game

abbrev pub is_same : Player → Player → Bool
is_same Even Even = true
is_same Odd Odd = true
is_same Even Odd = false
is_same Odd Even = false

-- whether the player owns the vertex v
abbrev pub owns : List GameVertex → Player → ℕ → Bool
owns game player v = is_same player (owner game v)

-- the strategy that counts: one on a vertex that the winner owns; any other is ignored
abbrev pub counting_strategy : List GameVertex → SolutionLine → ℕ → Option ℕ
counting_strategy game line v = if owns game line.winner v then line.strategy else None

-- The line names v, and the solution says at v what the line says: its winner, and the choice of the vertex that the
-- strategy names, if it counts. If none counts, there is no choice.
pub record Says (game : List GameVertex) (solution : List Answer) (line : SolutionLine) (v : ℕ) : Type 0 where
  pub within : v < length game
  pub named : line.identifier ≡ identifier game v
  pub won : winner solution v ≡ line.winner
  pub chosen : option_map (identifier game) (choice solution v) ≡ counting_strategy game line v

-- how many of the lines name v
abbrev pub line_count : List GameVertex → List SolutionLine → ℕ → ℕ
line_count game lines v = count_by (λ line. line.identifier == identifier game v) lines

-- The bytes spell the solution for the game: they are lines in any order, of which exactly one names each vertex, and
-- the solution says what they say.
pub record IsSolutionText (bytes : List ℕ) (game : List GameVertex) (solution : List Answer) : Type 0 where
  pub lines : List SolutionLine
  pub text : AreLines bytes lines
  pub one_each : (v : ℕ) → v < length game → line_count game lines v ≡ 1
  pub said : AllByRecursion (λ line. (v : ℕ) × Says game solution line v) lines
  pub whole : IsSolution game solution

-- the bytes spell no solution of the game
abbrev pub SpellsNoSolution : List ℕ → List GameVertex → Type 0
SpellsNoSolution bytes game = (solution : List Answer) → ¬ IsSolutionText bytes game solution

-- ---- why bytes spell no solution

-- the line names a vertex of the game, and if its strategy counts it names a successor of that vertex
pub record Fits (game : List GameVertex) (line : SolutionLine) : Type 0 where
  pub v : ℕ
  pub within : v < length game
  pub named : line.identifier ≡ identifier game v
  pub leads : (n : ℕ) → counting_strategy game line v ≡ Some n → (w : ℕ) × IsEdge game v w × (identifier game w ≡ n)

-- lines that a reader takes: each fits, and no two name the same vertex
pub record AreTaken (game : List GameVertex) (lines : List SolutionLine) : Type 0 where
  pub fitting : AllByRecursion (Fits game) lines
  pub single : (v : ℕ) → v < length game → line_count game lines v ≤ 1

-- whether one of the lines has this identifier
abbrev pub has_line : List SolutionLine → ℕ → Bool
has_line lines n = list_any (λ line. line.identifier == n) lines

-- the number n is here, and after it another token or the end
pub record StartsLine (here : List ℕ) (n : ℕ) : Type 0 where
  pub token : Lexeme
  pub rest : List ℕ
  pub stands : Spells here (number n ∷ token ∷ []) rest

-- no vertex has the identifier n
abbrev pub IsUnknown : List GameVertex → ℕ → Type 0
IsUnknown game n = (v : ℕ) → v < length game → identifier game v ≢ n

-- The identifier n of a vertex is here, then its owner as the winner, and a number that no successor has as its
-- identifier.
pub record IsNoMove (game : List GameVertex) (here : List ℕ) (n : ℕ) : Type 0 where
  pub winner : Player
  pub strategy : ℕ
  pub rest : List ℕ
  pub stands : Spells here (number n ∷ number (player_number winner) ∷ number strategy ∷ []) rest
  pub v : ℕ
  pub within : v < length game
  pub named : n ≡ identifier game v
  pub owned : owns game winner v ≡ true
  pub absent : (w : ℕ) → IsEdge game v w → identifier game w ≢ strategy

-- a line begins here with the identifier n, which no vertex has, or whose strategy counts and isn't a successor
abbrev pub BeginsUnfit : List GameVertex → List ℕ → ℕ → Type 0
BeginsUnfit game here n = (StartsLine here n × IsUnknown game n) ⊎ IsNoMove game here n

-- After lines that are taken, none of which has the identifier n, a line with n begins, and no vertex has n, or the
-- line's strategy counts and isn't a successor. The end of the line doesn't matter.
pub record IsNotOfGame (bytes : List ℕ) (game : List GameVertex) (n : ℕ) : Type 0 where
  pub before : List SolutionLine
  pub here : List ℕ
  pub begins : BeginsWithLines bytes before here
  pub taken : AreTaken game before
  pub new : has_line before n ≡ false
  pub unfit : BeginsUnfit game here n

-- the line names v, and has a strategy if its winner owns v
abbrev pub answers : List GameVertex → ℕ → SolutionLine → Bool
answers game v line =
    (line.identifier == identifier game v) && (if owns game line.winner v then is_some line.strategy else true)

-- no line answers for the vertex with the identifier n, and some line answers for each vertex before it
pub record IsFirstMissing (bytes : List ℕ) (game : List GameVertex) (n : ℕ) : Type 0 where
  pub lines : List SolutionLine
  pub text : AreLines bytes lines
  pub taken : AreTaken game lines
  pub v : ℕ
  pub within : v < length game
  pub named : identifier game v ≡ n
  pub missing : list_any (answers game v) lines ≡ false
  pub first : (u : ℕ) → u < v → list_any (answers game u) lines ≡ true

-- After lines that are taken, a line begins with the identifier of an earlier one. Its end doesn't matter.
pub record IsSecond (bytes : List ℕ) (game : List GameVertex) : Type 0 where
  pub before : List SolutionLine
  pub here : List ℕ
  pub begins : BeginsWithLines bytes before here
  pub taken : AreTaken game before
  pub n : ℕ
  pub starts : StartsLine here n
  pub twice : has_line before n ≡ true

-- After lines that are taken comes neither a line nor the end of the text, and the bytes there don't begin like a line
-- that is refused for its identifier or its strategy.
pub record IsNoText (bytes : List ℕ) (game : List GameVertex) : Type 0 where
  pub before : List SolutionLine
  pub here : List ℕ
  pub begins : BeginsWithLines bytes before here
  pub taken : AreTaken game before
  pub no_line : (line : SolutionLine) (rest : List ℕ) → ¬ Spells here (answer_lexemes line) rest
  pub no_end : ¬ Spells here (end ∷ []) []
  pub new : (n : ℕ) → StartsLine here n → has_line before n ≡ false
  pub no_unfit : (n : ℕ) → ¬ BeginsUnfit game here n

-- Why the bytes are refused, apart from running out of memory. At which offset isn't said.
abbrev pub RefusesSolution : List ℕ → List GameVertex → TextFault → Type 0
RefusesSolution bytes game (Syntax offset) = IsSecond bytes game ⊎ IsNoText bytes game
RefusesSolution bytes game (NumberTooLarge offset) = IsNoText bytes game
RefusesSolution bytes game (NotOfGame n) = IsNotOfGame bytes game n
RefusesSolution bytes game (Missing n) = IsFirstMissing bytes game n
RefusesSolution bytes game _ = ⊥
