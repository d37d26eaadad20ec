-- What is written of a solution line by line is the layout.
use Rattle.pg_text.proofs.Common.{◌≡◌, ℕ, ◌+◌, ◌-◌, ◌<◌, ◌≤◌, List, [], ◌∷◌, ◌++◌, length, take, get_or, Option, Some, inl, inr, sym, ap}
use Rattle.pg_text.proofs.Common.{subst, ◌∙◌, arith, codes, decimal, flat_map, Appends, Appends-trans, take_more, take_all, flat_map_more}
use Rattle.pg_text.proofs.Common.{get_or-map-range_with_len, length-map-range_with_len, GameVertex, IsGame, identifier, owner, Answer}
use Rattle.pg_text.proofs.Common.{SolutionLine, printed_answer, printed_line, printed_lines, answer_text, solution_text, winner, choice}
use Rattle.pg_text.proofs.Common.{IsSolution, owns, chosen, some, some_is, none, none_is_some}
use Rattle.pg_text.proofs.Marking.{same_player}

-- a line more
pub answer_push : (a b c : Option (List ℕ)) (game : List GameVertex) (solution : List Answer) (v : ℕ) → v < length game
    → Appends a b (flat_map answer_text (take v (printed_lines game solution))) → Appends b c (answer_text (printed_line game solution v))
    → Appends a c (flat_map answer_text (take (v + 1) (printed_lines game solution)))
answer_push a b c game solution v lt so_far more =
    let lines = printed_lines game solution in
    let line = printed_line game solution v in
    let here : get_or lines v line ≡ line = get_or-map-range_with_len (printed_line game solution) 0 (length game) v v line lt (omega arith) in
    let longer : take (v + 1) lines ≡ take v lines ++ line ∷ [] = take_more lines v line (rw length-map-range_with_len lt)
    ∙ ap (λ (l : SolutionLine). take v lines ++ l ∷ []) here in
    subst (Appends a c) (flat_map_more answer_text [] (take v lines) line ∙ ap (flat_map answer_text) (sym longer)) (Appends-trans a b c _ _ so_far more)

-- header and lines
pub whole_text : (a b c d e : Option (List ℕ)) (game : List GameVertex) (solution : List Answer) (n : ℕ) → length game ≤ n
    → Appends a b (codes "paritysol ") → Appends b c (decimal (identifier game (length game - 1))) → Appends c d (codes ";\n")
    → Appends d e (flat_map answer_text (take n (printed_lines game solution))) → Appends a e (solution_text game solution)
whole_text a b c d e game solution n all word number ending lines =
    let whole : take n (printed_lines game solution) ≡ printed_lines game solution =
    take_all n (printed_lines game solution) (rw length-map-range_with_len all) in
    let body : Appends d e (flat_map answer_text (printed_lines game solution)) =
    subst (λ (l : List SolutionLine). Appends d e (flat_map answer_text l)) whole lines in
    Appends-trans a b e _ _ word (Appends-trans b c e _ _ number (Appends-trans c d e _ _ ending body))

-- a choice that is told is a vertex
pub told_within : (game : List GameVertex) (solution : List Answer) (v w : ℕ) → IsGame game → IsSolution game solution → v < length game
    → (printed_answer game solution v).choice ≡ Some w → w < length game
told_within game solution v w well whole within e =
    elim (chosen (owns game (winner solution v) v) (choice solution v) none (some w) e) [
      | inl h ↦
          let c = whole.chosen v within (sym (same_player (winner solution v) (owner game v) h.0)) in
          subst (λ (u : ℕ). u < length game) (some_is c.0 w (sym c.1 ∙ h.1)) (well.in_range v c.0 c.2)
      | inr h ↦ absurd (none_is_some w h.1)
    ]
