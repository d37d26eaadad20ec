-- The limits on the lines of a game text, in plain words.
use Rattle.std.specs.Prelude.{◌≡◌, ◌≢◌, ◌↔◌, ℕ, ◌≤◌, true, nat_eq, List, [], length, map, All, Contains}
use Rattle.std.specs.List.{IsDistinct}
use Rattle.pg_arena.specs.Games.{GameVertex, identifiers, edge_count}
use Rattle.pg_arena.specs.Lines.{Line, counted, is_named, Accepts}
use Rattle.pg_text.specs.GameText.{IsGameText}

-- No two lines have the same identifier, no priority is above 65,535, each line has a successor, and there are at most
-- 1,048,576 lines and, with a repeated successor counted once, at most 8,388,608 edges.
pub record AreWithinLimits (lines : List Line) : Type 0 where
  pub distinct : IsDistinct nat_eq (identifiers lines)
  pub priorities : All (λ line. line.priority ≤ 65535) lines
  pub successors : All (λ line. line.successors ≢ []) lines
  pub vertices : length lines ≤ 1048576
  pub edges : edge_count (map counted lines) ≤ 8388608

-- Lines are accepted one after another exactly if they are within the limits.
abbrev pub AcceptsWithinLimits : Type 0
AcceptsWithinLimits = (lines : List Line) → Accepts [] lines ↔ AreWithinLimits lines

-- In a text of a game each successor is the identifier of a line.
abbrev pub NamesSuccessors : Type 0
NamesSuccessors = (bytes : List ℕ) (game : List GameVertex) (text : IsGameText bytes game) (line : Line) (n : ℕ)
    → Contains text.lines line → Contains line.successors n → is_named text.lines n ≡ true
