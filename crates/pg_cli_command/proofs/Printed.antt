-- The winners that `solve` prints win, and those of `solve --any`.
use Rattle.pg_cli_command.proofs.Common.{◌≡◌, ℕ, ◌<◌, List, length, Option, None, refl, sym, ap, subst, ◌∙◌, arith, if◌then◌else◌, same_lists}
use Rattle.pg_cli_command.proofs.Common.{get_or_default, length-map-range_with_len, get_or-map-range_with_len, Player, Even, Odd, GameVertex}
use Rattle.pg_cli_command.proofs.Common.{IsGame, opponent, owner, Answer, unanswered, winner, choice, is_same, IsSolutionText, printed_answer}
use Rattle.pg_cli_command.proofs.Common.{printed_answers, solution_text, SolutionReadsBack, MapValue, SoundWins, OneWinner, AreClosed}
use Rattle.pg_cli_command.proofs.Common.{IsSolutionOf, IsSoundSolution, ClosedMapsSound, is_solution, IsClosedMapOf, IsSolved, IsSolvedAnyhow}
use Rattle.pg_cli_command.proofs.Common.{WinsAsPrinted}

-- a choice that is left out where another player owns the vertex wasn't there
choice_told : (won own : Player) (c : Option ℕ) → (own ≡ opponent won → c ≡ None) → (if is_same won own then c else None) ≡ c
choice_told Even Even c none = refl
choice_told Odd Odd c none = refl
choice_told Even Odd c none = sym (none refl)
choice_told Odd Even c none = sym (none refl)

-- a sound solution has no choice where the winner doesn't own the vertex, so its text leaves nothing out
printed_same : (game : List GameVertex) (solution : List Answer) → IsSoundSolution game solution → printed_answers game solution ≡ solution
printed_same game solution is =
    same_lists (printed_answers game solution) solution (size ∙ sym is.choices.whole) (λ k d lt.
    let within : k < length game = omega (arith, size) in
    let there : k < length solution = omega (arith, is.choices.whole) in
    get_or-map-range_with_len (printed_answer game solution) 0 (length game) k k d within (omega arith)
    ∙ ap (λ c. record { winner = winner solution k; choice = c })
    (choice_told (winner solution k) (owner game k) (choice solution k) (is.elsewhere k within))
    ∙ get_or_default solution k unanswered d there)
  where
    size : length (printed_answers game solution) ≡ length game
    size = length-map-range_with_len (printed_answer game solution) 0 (length game)

pub any_wins_as_printed : SolutionReadsBack → SoundWins → OneWinner → (input output : List ℕ) → IsSolvedAnyhow input output → WinsAsPrinted input output
any_wins_as_printed reads wins one input output solved =
    let game : List GameVertex = solved.game in
    let solution : List Answer = solved.solution in
    let is_game : IsGame game = solved.spelt.game_of.well in
    let is : IsSoundSolution game solution = solved.solved in
    let spelt = (reads game solution is_game solved.identifiers is.choices).0 in
    record {
      game = game;
      spelt = solved.spelt;
      solution = solution;
      printed = subst (λ (bytes : List ℕ). IsSolutionText bytes game solution) (sym solved.printed)
          (subst (λ (x : List Answer). IsSolutionText (solution_text game solution) game x) (printed_same game solution is) spelt);
      wins = (wins game solution is_game is.sound).wins;
      one_winner = λ other is_other sound_other v lt. one game other solution is_game is_other is.choices sound_other is.sound v lt;
    }

-- the solution of two closed maps is sound
pub is_sound_solution : ClosedMapsSound → (game : List GameVertex) (even odd : MapValue) (solution : List Answer) → IsGame game → AreClosed game even odd
    → IsSolutionOf game even odd solution → IsSoundSolution game solution
is_sound_solution closed game even odd solution is_game are_closed of = record {
  choices = is_solution game even odd solution of;
  elsewhere = λ v lt. (of.answers v lt).elsewhere;
  sound = closed game even odd solution is_game are_closed of;
}

pub wins_as_printed : SolutionReadsBack → ClosedMapsSound → SoundWins → OneWinner → (input output : List ℕ)
    → IsSolved IsClosedMapOf input output → WinsAsPrinted input output
wins_as_printed reads closed wins one input output s =
    let are_closed : AreClosed s.game s.solved.even s.solved.odd = record { game_map = s.solved.even_found.closed; dual_map = s.solved.odd_found.closed } in
    any_wins_as_printed reads wins one input output (record {
      game = s.game;
      spelt = s.spelt;
      identifiers = s.identifiers;
      solution = s.solution;
      solved = is_sound_solution closed s.game s.solved.even s.solved.odd s.solution s.spelt.game_of.well are_closed s.solved.solution_of;
      printed = s.printed;
    })
