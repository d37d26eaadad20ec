-- The game of the lines that are read.
use Rattle.pg_text.proofs.Common.{◌≡◌, ◌≢◌, ℕ, List, map, Ok, Err, refl, sym, ap, subst, ◌∙◌, inl, inr, ArenaFault, GameVertex, Line}
use Rattle.pg_text.proofs.Common.{counted, IsGameOf, FinishFails, TextFault, OutOfMemory, Syntax, Arena, arena_fault, IsText, IsGameText}
use Rattle.pg_text.proofs.Common.{Refuses, HasNoGame, BuildsLines}
use Rattle.pg_arena.specs.declared.fault.ArenaFault.TheVariants as arena
use Rattle.pg_text.specs.declared.fault.TextFault.TheVariants.{NumberTooLarge}
use Rattle.pg_text.proofs.Steps.{ok_is}
use Rattle.pg_text.proofs.Texts.{lines_again}

-- a text has one list of lines
pub one_text : (bytes : List ℕ) (lines others : List Line) → IsText bytes lines → IsText bytes others → lines ≡ others
one_text bytes lines others text other = ok_is lines others (sym (lines_again bytes lines text) ∙ lines_again bytes others other)

pub found_game : (bytes : List ℕ) (built : List Line) (game : List GameVertex) → BuildsLines bytes (Ok built) → IsGameOf built game → IsGameText bytes game
found_game bytes built game b made = record { lines = b.0; text = b.1; limits = b.3; game_of = subst (λ (ls : List Line). IsGameOf ls game) b.2 made }

-- what the bytes spell is a game of the lines built
pub spelt_game : (bytes : List ℕ) (built : List Line) (game : List GameVertex) → BuildsLines bytes (Ok built) → IsGameText bytes game → IsGameOf built game
spelt_game bytes built game b spelt =
    subst (λ (ls : List Line). IsGameOf ls game) (ap (map counted) (one_text bytes spelt.lines b.0 spelt.text b.1) ∙ sym b.2) spelt.game_of

pub only_memory : (fault : TextFault) (bytes : List ℕ) (game : List GameVertex) → BuildsLines bytes (Err fault) → IsGameText bytes game → fault ≡ OutOfMemory
only_memory OutOfMemory bytes game b spelt = refl
only_memory (Syntax offset) bytes game b spelt = absurd (b.no_text spelt.lines spelt.text)
only_memory (NumberTooLarge offset) bytes game b spelt = absurd (b.no_text spelt.lines spelt.text)
only_memory (Arena arena.OutOfMemory) bytes game b spelt = absurd b
only_memory (Arena _) bytes game b spelt = absurd (b.1 spelt.lines spelt.text spelt.limits)
only_memory _ bytes game b spelt = absurd b

pub refuses_lines : (fault : TextFault) (bytes : List ℕ) → BuildsLines bytes (Err fault) → fault ≢ OutOfMemory → Refuses bytes fault
refuses_lines OutOfMemory bytes b other = absurd (other refl)
refuses_lines (Syntax offset) bytes b other = b
refuses_lines (NumberTooLarge offset) bytes b other = b
refuses_lines (Arena arena.OutOfMemory) bytes b other = b
refuses_lines (Arena _) bytes b other = inl b.0
refuses_lines _ bytes b other = b

no_game : (bytes : List ℕ) (built : List Line) (fault : ArenaFault) → BuildsLines bytes (Ok built) → FinishFails built fault → HasNoGame bytes fault
no_game bytes built fault b fails = record { lines = b.0; text = b.1; limits = b.3; refused = subst (λ (ls : List Line). FinishFails ls fault) b.2 fails }

pub refuses_game : (fault : ArenaFault) (bytes : List ℕ) (built : List Line) → BuildsLines bytes (Ok built) → FinishFails built fault
    → arena_fault fault ≢ OutOfMemory → Refuses bytes (arena_fault fault)
refuses_game arena.OutOfMemory bytes built b fails other = absurd (other refl)
refuses_game (arena.DuplicateVertex n) bytes built b fails other = inr (no_game bytes built (arena.DuplicateVertex n) b fails)
refuses_game (arena.NoSuccessor n) bytes built b fails other = inr (no_game bytes built (arena.NoSuccessor n) b fails)
refuses_game (arena.UnknownSuccessor n m) bytes built b fails other = inr (no_game bytes built (arena.UnknownSuccessor n m) b fails)
refuses_game arena.TooManyVertices bytes built b fails other = inr (no_game bytes built arena.TooManyVertices b fails)
refuses_game arena.TooManyEdges bytes built b fails other = inr (no_game bytes built arena.TooManyEdges b fails)
refuses_game (arena.PriorityTooLarge n m) bytes built b fails other = inr (no_game bytes built (arena.PriorityTooLarge n m) b fails)
refuses_game arena.NoVertex bytes built b fails other = inr (no_game bytes built arena.NoVertex b fails)
