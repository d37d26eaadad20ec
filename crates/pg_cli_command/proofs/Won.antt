-- What the commands' answers say of who wins.
use Rattle.pg_cli_command.proofs.Common.{◌≡◌, ℕ, zero, suc, ◌<◌, List, [], ◌∷◌, ◌++◌, length, map, get_or, arith, subst, refl, All, Contains}
use Rattle.pg_cli_command.proofs.Common.{◌^◌, codes, flat_map, get_or-map, length-map, All-map, Contains-append_left, Contains-append_right}
use Rattle.pg_cli_command.proofs.Common.{All-permutation, GameVertex, IsGame, dual, Line, counted, line_of, lines_of, game_dual, Lexeme, number}
use Rattle.pg_cli_command.proofs.Common.{end, clause_lexemes, IsSpelt, Spells, IsGameText, line_lexemes, solution_text, HasBounds, MapValue}
use Rattle.pg_cli_command.proofs.Common.{GameLines, HasLeastProgressMeasure, IsUndecided, DecidedMapsSolve, LeastTellsWinners, NeverUndecided}
use Rattle.pg_cli_command.proofs.Common.{IsMeasureOf, measures_text, IsUndecidedIn, MeasuresTellWinners, NoneUndecided, GamesHaveAnswers}

pub measures_tell_winners : LeastTellsWinners → MeasuresTellWinners
measures_tell_winners tells input output measured =
    let m = measured.found in
    tells measured.game measured.map measured.spelt.game_of.well m.bounds m.least

-- the measures of a game and of its dual leave no vertex undecided
none_at : NeverUndecided → (game : List GameVertex) (even odd : MapValue) → IsGame game → IsMeasureOf game even → IsMeasureOf (dual game) odd
    → (v : ℕ) → IsUndecided game even odd v → ⊥
none_at never game even odd is_game e o v undecided =
    never game even odd is_game e.bounds o.bounds e.least o.least v undecided

pub none_in : NeverUndecided → (game : List GameVertex) → IsGame game → (id : ℕ) → ¬ IsUndecidedIn IsMeasureOf game id
none_in never game is_game id u =
    none_at never game u.even u.odd is_game u.even_found u.odd_found u.undecided.vertex u.undecided.undecided

pub none_undecided : NeverUndecided → NoneUndecided
none_undecided never = record {
  solving = λ input id u. none_in never u.game u.spelt.game_of.well id u.undecided;
  synthesising = λ input id u. none_in never u.game u.made.game_of.is_game id u.undecided;
  verifying = λ a circuit id u. none_in never u.game u.game_of.is_game id u.undecided;
}

measure_of : HasBounds → GameLines → HasLeastProgressMeasure → (game : List GameVertex) → IsGame game → (map : MapValue) × IsMeasureOf game map
measure_of bounded lines least game is_game =
    let bounds = bounded game in
    let found = least bounds.0 _ (length game) (lines game is_game).0 in
    (record { bounds = bounds.0; measures = found.0 }, record { bounds = bounds.1; least = found.1 })

-- a number that is spelt has 32 bits

small_number : (token : Lexeme) (text rest : List ℕ) (n : ℕ) → token ≡ number n → IsSpelt token text rest → n < 2 ^ 32
small_number token text rest n e spelt =
    let here : IsSpelt (number n) text rest = subst (λ t. IsSpelt t text rest) e spelt in here.4

spelt_small : (tokens : List Lexeme) (bytes rest : List ℕ) (n : ℕ) → Spells bytes tokens rest → Contains tokens (number n) → n < 2 ^ 32
spelt_small [] bytes rest n spelt (k, lt, e) = absurd (omega arith)
spelt_small (token ∷ tokens) bytes rest n (mid, begins, later) (zero, lt, e) = small_number token begins.text mid n e begins.spelt
spelt_small (token ∷ tokens) bytes rest n (mid, begins, later) (suc k, lt, e) = spelt_small tokens mid rest n later (k, omega arith, e)

line_number : (lines : List Line) (k : ℕ) (d : Line) → k < length lines → Contains (flat_map line_lexemes lines) (number (get_or lines k d).identifier)
line_number [] k d lt = absurd (omega arith)
line_number (l ∷ lines) zero d lt = Contains-append_left (line_lexemes l) (flat_map line_lexemes lines) (number l.identifier) (0, omega arith, refl)
line_number (l ∷ lines) (suc k) d lt =
    Contains-append_right (line_lexemes l) (flat_map line_lexemes lines) (number (get_or lines k d).identifier) (line_number lines k d (omega arith))

small_identifiers : (input : List ℕ) (game : List GameVertex) → IsGameText input game → All (λ x. x.identifier < 2 ^ 32) game
small_identifiers input game t = λ k d lt.
    let inside : k < length (lines_of game) = omega (arith, length-map game (line_of game)) in
    let here : (get_or (lines_of game) k (line_of game d)).identifier < 2 ^ 32 = all k (line_of game d) inside in
    subst (λ (x : Line). x.identifier < 2 ^ 32) (get_or-map (line_of game) game k d (line_of game d) lt) here
  where
    numbers : All (λ l. l.identifier < 2 ^ 32) t.lines
    numbers k d lt =
        let n = number (get_or t.lines k d).identifier in
        let some = Contains-append_left (flat_map line_lexemes t.lines) (end ∷ []) n (line_number t.lines k d lt) in
        let start = Contains-append_right (clause_lexemes (codes "start") t.text.start) (flat_map line_lexemes t.lines ++ end ∷ []) n some in
        let whole = Contains-append_right (clause_lexemes (codes "parity") t.text.header)
        (clause_lexemes (codes "start") t.text.start ++ (flat_map line_lexemes t.lines ++ end ∷ [])) n start in
        spelt_small _ input [] (get_or t.lines k d).identifier t.text.spelt whole

    all : All (λ l. l.identifier < 2 ^ 32) (lines_of game)
    all = All-permutation (λ l. l.identifier < 2 ^ 32) (map counted t.lines) (lines_of game) t.game_of.same
        (All-map (λ l. l.identifier < 2 ^ 32) counted t.lines numbers)

pub games_have_answers : HasBounds → GameLines → HasLeastProgressMeasure → NeverUndecided → DecidedMapsSolve → GamesHaveAnswers
games_have_answers bounded lines least never solves input game spelt =
    let is_game : IsGame game = spelt.game_of.well in
    let even = measure_of bounded lines least game is_game in
    let odd = measure_of bounded lines least (dual game) (game_dual game is_game) in
    let solution = solves game even.0 odd.0 is_game
    (record { game_map = even.1.least.closed; dual_map = odd.1.least.closed })
    (none_at never game even.0 odd.0 is_game even.1 odd.1) in
    record {
      measures = measures_text game even.0.measures;
      measured = record { game = game; spelt = spelt; map = even.0; found = even.1; printed = refl };
      solution = solution_text game solution.0;
      solved = record {
        game = game;
        spelt = spelt;
        identifiers = small_identifiers input game spelt;
        solution = solution.0;
        solved = record { even = even.0; odd = odd.0; even_found = even.1; odd_found = odd.1; solution_of = solution.1 };
        printed = refl;
      };
    }
