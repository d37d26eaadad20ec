-- The priorities of the game of an automaton.
use Rattle.pg_synth.proofs.Common.{ℕ, ◌+◌, ◌*◌, ◌<◌, ◌≤◌, List, Some, None, arith}
use Rattle.pg_synth.proofs.Common.{All-from_get_or, GameVertex, HasPrioritiesUpTo, nowhere, Shape, MaxEven}
use Rattle.pg_synth.proofs.Common.{Automaton, IsAutomaton, IsGameOfAutomaton, IsPlaceOf, place_priority, set_priority, none_priority}
use Rattle.pg_synth.proofs.Common.{Place, Dead, Arrival, Answer}
use Rattle.pg_synth.proofs.Places.{within_game}

none_low : (shape : Shape) (n : ℕ) → none_priority shape n ≤ 2
none_low MaxEven n = omega arith
none_low _ n = omega arith

set_low : (shape : Shape) (n s : ℕ) → s < n → set_priority shape n s ≤ 2 * n + 3
set_low MaxEven n s lt = omega arith
set_low _ n s lt = omega arith

place_low : (a : Automaton) (x : Place) → IsAutomaton a → IsPlaceOf a x → place_priority a.shape a.sets x ≤ 65535
place_low a Dead is at = omega arith
place_low a (Arrival q None) is at = omega (arith, none_low a.shape a.sets)
place_low a (Arrival q (Some s)) is at =
    omega (arith, set_low a.shape a.sets s (within_game a (Arrival q (Some s)) is at), is.few_sets)
place_low a (Answer q i) is at = omega arith

pub low_priorities : (a : Automaton) (game : List GameVertex) → IsAutomaton a → IsGameOfAutomaton a game → HasPrioritiesUpTo 65535 game
low_priorities a game is g =
    All-from_get_or (λ x. x.priority ≤ 65535) game nowhere (λ v lt.
    let stands = g.each_vertex v lt in
    omega (arith, stands.1.prioritised, place_low a stands.0 is stands.1.is_place))
