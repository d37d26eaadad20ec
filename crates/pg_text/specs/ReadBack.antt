-- A printed game reads back.
use Rattle.std.specs.Prelude.{◌≡◌, ◌^◌, ◌<◌, List, All, IfSome}
use Rattle.pg_arena.specs.Games.{GameVertex, IsGame, IsWithinLimits, HasPrioritiesUpTo}
use Rattle.pg_text.specs.Lexemes.{is_plain}
use Rattle.pg_list_lemmas.specs.Bytes.{Each}
use Rattle.pg_text.specs.GameText.{IsGameText}
use Rattle.pg_text.specs.GameLayout.{game_text}

-- What the format can express: identifiers and priorities within their limits, and no quote in a name.
pub record IsPrintable (game : List GameVertex) : Type 0 where
  pub identifiers : All (λ x. x.identifier < 2 ^ 32) game
  pub priorities : HasPrioritiesUpTo 65535 game
  pub names : All (λ x. IfSome x.name (Each is_plain)) game

-- The text of such a game spells it, and no other game.
abbrev pub GameReadsBack : Type 0
GameReadsBack = (game : List GameVertex) → IsGame game → IsWithinLimits game → IsPrintable game →
    IsGameText (game_text game) game × ((other : List GameVertex) → IsGameText (game_text game) other → other ≡ game)
