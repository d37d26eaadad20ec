-- Script texts, as tokens: the number of workers, perhaps the worker of each vertex, and events.
use Rattle.std.specs.Prelude.{◌≡◌, ℕ, ◌≤◌, List, [], ◌∷◌, ◌++◌, Option, Some, None, All, length, codes}
use Rattle.std.specs.List.{flat_map}
use Rattle.pg_arena.specs.Games.{GameVertex, identifier}
use Rattle.pg_text.specs.Lexemes.{Lexeme, number, word, semicolon, end, Spells, clause_lexemes}
use Rattle.pg_text.specs.Numbers.{numbers_lexemes}
use Rattle.pg_coord_partition.specs.Cuts.{CutValue, IsEvenCut, NameWorkers}
use Rattle.pg_world.specs.declared.event.Event.{Event}
use Rattle.pg_world.specs.declared.event.Event.TheVariants.{Lift, Deliver, Restart, CoordinatorLift}
use Rattle.pg_world.specs.Worlds.{IsEventOf}

-- `cut`, numbers with commas between, and a semicolon; or nothing
abbrev pub cut_lexemes : Option (List ℕ) → List Lexeme
cut_lexemes None = []
cut_lexemes (Some numbers) = word (codes "cut") ∷ (numbers_lexemes numbers ++ semicolon ∷ [])

-- the line of an event; a vertex is named by its identifier
abbrev pub event_lexemes : List GameVertex → Event → List Lexeme
event_lexemes game (Lift worker v) =
    word (codes "lift") ∷ number worker ∷ number (identifier game v) ∷ semicolon ∷ []
event_lexemes game (Deliver replica n) = word (codes "deliver") ∷ number replica ∷ number n ∷ semicolon ∷ []
event_lexemes game (Restart worker) = word (codes "restart") ∷ number worker ∷ semicolon ∷ []
event_lexemes game (CoordinatorLift v) = word (codes "central") ∷ number (identifier game v) ∷ semicolon ∷ []

-- the lines before the events: `workers`, and perhaps `cut`
abbrev pub head_lexemes : ℕ → Option (List ℕ) → List Lexeme
head_lexemes workers numbers = clause_lexemes (codes "workers") (Some workers) ++ cut_lexemes numbers

-- the lines of the events, up to the end of the text
abbrev pub events_lexemes : List GameVertex → List Event → List Lexeme
events_lexemes game events = flat_map (event_lexemes game) events ++ end ∷ []

-- The cut has the numbers in the text, one for each vertex by rising identifier, each the number of a worker; or it is the
-- even cut if the text has none.
abbrev pub IsCutOf : List GameVertex → Option (List ℕ) → CutValue → Type 0
IsCutOf game None cut = IsEvenCut (length game) cut.workers cut
IsCutOf game (Some numbers) cut =
    (cut.numbers ≡ numbers) × (length numbers ≡ length game) × NameWorkers cut.workers numbers

-- The bytes spell the cut and the events for the game: the number of workers, at most 16, perhaps a line of the cut, and
-- then a line for each event, in this order, with vertices of the game. They spell nothing else.
pub record IsScriptText (bytes : List ℕ) (game : List GameVertex) (cut : CutValue) (events : List Event)
    : Type 0 where
  pub numbers : Option (List ℕ)
  pub text : Spells bytes (head_lexemes cut.workers numbers ++ events_lexemes game events) []
  pub few : cut.workers ≤ 16
  pub cut_is : IsCutOf game numbers cut
  pub vertices : All (IsEventOf game) events
