-- What is proved of orders, over the definitions alone.
use Rattle.std.specs.Prelude.{◌≡◌, ℕ, Bool, IsTrue, List}
use Rattle.pg_arena.specs.declared.player.Player.{Player}
use Rattle.pg_check_order.specs.declared.span.Span.{Span}
use Rattle.pg_check_order.specs.Orders.{span_at, LeadsBefore, WinsCycles, AreNested}

-- Nodes of a graph have priorities and places. If each edge leads from a node whose place has its priority to a node whose place is
-- before the end of that place, and the spans are nested for a player, then this player wins the cycles.
abbrev pub NestedIsWon : Type 0
NestedIsWon =
    (player : Player) (spans : List Span) (edge : ℕ → ℕ → Bool) (priority place : ℕ → ℕ) → AreNested player spans
    → ((v w : ℕ) → IsTrue (edge v w) → (span_at spans (place v)).priority ≡ priority v)
    → ((v w : ℕ) → IsTrue (edge v w) → LeadsBefore spans (place v) (place w)) → WinsCycles player (λ v w. IsTrue (edge v w)) priority
