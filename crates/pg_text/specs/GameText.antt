-- What a game text is, token by token.
use Rattle.std.specs.Prelude.{◌≡◌, ◌≢◌, ◌⊎◌, ℕ, List, [], ◌∷◌, ◌++◌, Option, Some, None, codes, map}
use Rattle.std.specs.List.{flat_map, AllByRecursion}
use Rattle.pg_arena.specs.declared.player.Player.{Player}
use Rattle.pg_arena.specs.declared.player.Player.TheVariants.{Even, Odd}
use Rattle.pg_arena.specs.Games.{GameVertex}
use Rattle.pg_arena.specs.declared.fault.ArenaFault.{ArenaFault}
use Rattle.pg_arena.specs.declared.fault.ArenaFault.TheVariants as arena
use Rattle.pg_arena.specs.Lines.{Line, counted, Accepts, IsGameOf, add_fault, FinishFails}
use Rattle.pg_text.specs.declared.fault.TextFault.{TextFault}
use Rattle.pg_text.specs.declared.fault.TextFault.TheVariants.{Syntax, NumberTooLarge, Arena}
use Rattle.pg_text.specs.Lexemes.{Lexeme, number, semicolon, quoted, end, clause_lexemes, Spells}
use Rattle.pg_text.specs.Numbers.{numbers_lexemes}

-- Even is player 0, Odd is player 1
abbrev pub player_number : Player → ℕ
player_number Even = 0
player_number Odd = 1

abbrev pub name_lexemes : Option (List ℕ) → List Lexeme
name_lexemes None = []
name_lexemes (Some name) = quoted name ∷ []

-- identifier, priority, owner, successors, perhaps a name, and a semicolon
abbrev pub line_lexemes : Line → List Lexeme
line_lexemes line = number line.identifier ∷ number line.priority ∷ number (player_number line.owner) ∷
    (numbers_lexemes line.successors ++ (name_lexemes line.name ++ semicolon ∷ []))

-- perhaps a header, perhaps a start, the lines, and the tokens after them
abbrev pub game_lexemes : Option ℕ → Option ℕ → List Line → List Lexeme → List Lexeme
game_lexemes header start lines others =
    clause_lexemes (codes "parity") header ++ (clause_lexemes (codes "start") start ++
    (flat_map line_lexemes lines ++ others))

-- The bytes are a text of these lines, in this order. The header and the start may have any numbers.
pub record IsText (bytes : List ℕ) (lines : List Line) : Type 0 where
  pub header : Option ℕ
  pub start : Option ℕ
  pub spelt : Spells bytes (game_lexemes header start lines (end ∷ [])) []
  pub successors : AllByRecursion (λ line. line.successors ≢ []) lines

-- The bytes spell the game: they are a text of lines that keep the limits, and it is the game of these lines, a
-- repeated successor counted once.
pub record IsGameText (bytes : List ℕ) (game : List GameVertex) : Type 0 where
  pub lines : List Line
  pub text : IsText bytes lines
  pub limits : Accepts [] lines
  pub game_of : IsGameOf (map counted lines) game

-- The bytes are no text of lines: after whole lines that keep the limits comes neither a line nor the end.
pub record IsNoText (bytes : List ℕ) : Type 0 where
  pub header : Option ℕ
  pub start : Option ℕ
  pub lines : List Line
  pub here : List ℕ
  pub spelt : Spells bytes (game_lexemes header start lines []) here
  pub limits : Accepts [] lines
  pub no_line : (line : Line) (rest : List ℕ) → line.successors ≢ [] → ¬ Spells here (line_lexemes line) rest
  pub no_end : ¬ Spells here (end ∷ []) []
  pub no_text : (lines : List Line) → ¬ IsText bytes lines

-- the bytes spell no game
abbrev pub SpellsNoGame : List ℕ → Type 0
SpellsNoGame bytes = (game : List GameVertex) → ¬ IsGameText bytes game

-- The text begins with these lines, which keep the limits, and then a line that may not follow them.
pub record HasBadLine (bytes : List ℕ) (fault : ArenaFault) : Type 0 where
  pub header : Option ℕ
  pub start : Option ℕ
  pub lines : List Line
  pub line : Line
  pub rest : List ℕ
  pub spelt : Spells bytes (game_lexemes header start lines (line_lexemes line)) rest
  pub successors : line.successors ≢ []
  pub limits : Accepts [] lines
  pub refused : add_fault (map counted lines) (counted line) ≡ Some fault

-- The bytes are a text of lines that keep the limits, and no game has these lines.
pub record HasNoGame (bytes : List ℕ) (fault : ArenaFault) : Type 0 where
  pub lines : List Line
  pub text : IsText bytes lines
  pub limits : Accepts [] lines
  pub refused : FinishFails (map counted lines) fault

-- Why the bytes are refused, apart from running out of memory. Which of Syntax and NumberTooLarge comes, and at which offset, isn't said.
abbrev pub Refuses : List ℕ → TextFault → Type 0
Refuses bytes (Syntax offset) = IsNoText bytes
Refuses bytes (NumberTooLarge offset) = IsNoText bytes
Refuses bytes (Arena arena.OutOfMemory) = ⊥
Refuses bytes (Arena fault) = HasBadLine bytes fault ⊎ HasNoGame bytes fault
Refuses bytes _ = ⊥
