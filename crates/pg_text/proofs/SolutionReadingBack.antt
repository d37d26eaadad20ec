-- The text of a solution spells that solution, without choices on vertices that the winner doesn't own.
use Rattle.pg_text.proofs.Common.{◌≡◌, ◌≢◌, ℕ, zero, suc, ◌+◌, ◌-◌, ◌<◌, ◌≤◌, ◌^◌, Bool, true, false, cond, List, [], ◌∷◌, ◌++◌, length}
use Rattle.pg_text.proofs.Common.{map, Option, Some, None, IfSome, All, refl, sym, ap, subst, ◌∙◌, inl, inr, arith, append_assoc, nat_tests}
use Rattle.pg_text.proofs.Common.{decimal, codes, option_map, flat_map, range_with_len, AllByRecursion, eq-eqb, ne_eqb, cases_eq}
use Rattle.pg_text.proofs.Common.{get_or-map-range_with_len, length-map-range_with_len, All-get_or, Player, Even, Odd, GameVertex, IsGame}
use Rattle.pg_text.proofs.Common.{nowhere, identifier, owner, Answer, SolutionLine, number, word, semicolon, end, is_space, Begins, Spells}
use Rattle.pg_text.proofs.Common.{is_digit, Each, Stops, player_number, unanswered, answer_at, winner, choice, IsSolution, strategy_lexemes}
use Rattle.pg_text.proofs.Common.{answer_lexemes, owns, is_same, line_count, Says, AreLines, IsSolutionText, printed_answer}
use Rattle.pg_text.proofs.Common.{printed_answers, printed_line, printed_lines, strategy_text, answer_text, solution_text, none}
use Rattle.pg_text.proofs.Spelling.{spells_append}
use Rattle.pg_text.proofs.Spelt.{number_begins}
use Rattle.pg_text.proofs.Answering.{same_vertex}
use Rattle.pg_text.proofs.SolutionLines.{same_lines}
use Rattle.pg_text.proofs.Marking.{names, IsSaid, is_same_itself, count_cons, said_edge, same_solution}
use Rattle.pg_text.proofs.SolutionPrinting.{told_within}

-- ---- the tokens of the layout

strategy_stops : (strategy : Option ℕ) (rest : List ℕ) → Stops is_digit (strategy_text strategy ++ 59 ∷ rest)
strategy_stops None rest = refl
strategy_stops (Some n) rest = refl

strategy_spelt : (strategy : Option ℕ) (rest : List ℕ) → IfSome strategy (λ n. n < 2 ^ 32)
    → Spells (strategy_text strategy ++ 59 ∷ rest) (strategy_lexemes strategy ++ semicolon ∷ []) rest
strategy_spelt None rest small = (rest, record { gap = []; text = 59 ∷ []; parts = refl; blank = tt; spelt = refl }, refl)
strategy_spelt (Some n) rest small = (
  59 ∷ rest,
  number_begins (32 ∷ []) n (59 ∷ rest) (refl, tt) small refl,
  (rest, record { gap = []; text = 59 ∷ []; parts = refl; blank = tt; spelt = refl }, refl),
)

-- a line that the format can say
record IsPrintable (line : SolutionLine) : Type 0 where
  identifier : line.identifier < 2 ^ 32
  strategy : IfSome line.strategy (λ n. n < 2 ^ 32)

player_small : (player : Player) → player_number player < 2 ^ 32
player_small Even = omega arith
player_small Odd = omega arith

answer_regroup : (line : SolutionLine) (rest : List ℕ)
    → answer_text line ++ rest ≡ decimal line.identifier ++ (32 ∷ (decimal (player_number line.winner) ++ (strategy_text line.strategy ++ (59 ∷ 10 ∷ rest))))
answer_regroup line rest = simp append_assoc

answer_spelt : (gap : List ℕ) (line : SolutionLine) (rest : List ℕ) → Each is_space gap → IsPrintable line
    → Spells (gap ++ (answer_text line ++ rest)) (answer_lexemes line) (10 ∷ rest)
answer_spelt gap line rest blank p =
    let ending = strategy_text line.strategy ++ (59 ∷ 10 ∷ rest) in
    let behind = 32 ∷ (decimal (player_number line.winner) ++ ending) in
    subst (λ (bytes : List ℕ). Spells (gap ++ bytes) (answer_lexemes line) (10 ∷ rest)) (sym (answer_regroup line rest)) (
      behind,
      number_begins gap line.identifier behind blank p.identifier refl,
      (
        ending,
        number_begins (32 ∷ []) (player_number line.winner) ending (refl, tt) (player_small line.winner)
            (strategy_stops line.strategy (10 ∷ rest)),
        strategy_spelt line.strategy (10 ∷ rest) p.strategy,
      ),
    )

-- lines, each behind a newline
lines_spelt : (lines : List SolutionLine) → AllByRecursion IsPrintable lines
    → Spells (10 ∷ flat_map answer_text lines) (flat_map answer_lexemes lines) (10 ∷ [])
lines_spelt [] each = refl
lines_spelt (line ∷ lines) each =
    spells_append (answer_lexemes line) (flat_map answer_lexemes lines) (10 ∷ flat_map answer_text (line ∷ lines))
    (10 ∷ flat_map answer_text lines) (10 ∷ []) (answer_spelt (10 ∷ []) line (flat_map answer_text lines) (refl, tt) each.0)
    (lines_spelt lines each.1)

-- ---- the lines of a solution

-- what holds of the line of each vertex holds of all lines
each_line : (P : SolutionLine → Type 0) (f : ℕ → SolutionLine) (n : ℕ) → ((v : ℕ) → v < n → P (f v)) → AllByRecursion P (map f (range_with_len 0 n))
each_line P f n h = below 0 n (λ v from to. h v (omega arith))
  where
    below : (a k : ℕ) → ((v : ℕ) → a ≤ v → v < a + k → P (f v)) → AllByRecursion P (map f (range_with_len a k))
    below a zero h = tt
    below a (suc k) h = (h a (omega arith) (omega arith), below (a + 1) k (λ v from to. h v (omega arith) (omega arith)))

mapped_small : (f : ℕ → ℕ) (o : Option ℕ) → ((w : ℕ) → o ≡ Some w → f w < 2 ^ 32) → IfSome (option_map f o) (λ n. n < 2 ^ 32)
mapped_small f None h = tt
mapped_small f (Some w) h = h w refl

printable_at : (game : List GameVertex) (solution : List Answer) → IsGame game → All (λ x. x.identifier < 2 ^ 32) game
    → IsSolution game solution → (v : ℕ) → v < length game → IsPrintable (printed_line game solution v)
printable_at game solution well small whole v within = record {
  identifier = All-get_or (λ (x : GameVertex). x.identifier < 2 ^ 32) game v nowhere within small;
  strategy = mapped_small (identifier game) (printed_answer game solution v).choice
      (λ w e. All-get_or (λ (x : GameVertex). x.identifier < 2 ^ 32) game w nowhere
      (told_within game solution v w well whole within e) small);
}

text_spelt : (game : List GameVertex) (solution : List Answer) → IsGame game → All (λ x. x.identifier < 2 ^ 32) game
    → IsSolution game solution → AreLines (solution_text game solution) (printed_lines game solution)
text_spelt game solution well small whole =
    let lines = printed_lines game solution in
    let greatest = identifier game (length game - 1) in
    let last = All-get_or (λ (x : GameVertex). x.identifier < 2 ^ 32) game (length game - 1) nowhere (omega (arith, well.nonempty)) small in
    let body = flat_map answer_text lines in
    let behind_word = 32 ∷ (decimal greatest ++ (59 ∷ 10 ∷ body)) in
    let header : Begins (solution_text game solution) (word (codes "paritysol")) behind_word =
    record {
      gap = [];
      text = codes "paritysol";
      parts = refl;
      blank = tt;
      spelt = (λ e. cc, (refl, (refl, (refl, (refl, (refl, (refl, (refl, (refl, (refl, tt))))))))), refl, refl);
    } in
    let n : Begins behind_word (number greatest) (59 ∷ 10 ∷ body) = number_begins (32 ∷ []) greatest (59 ∷ 10 ∷ body) (refl, tt) last refl in
    let mark : Begins (59 ∷ 10 ∷ body) semicolon (10 ∷ body) = record { gap = []; text = 59 ∷ []; parts = refl; blank = tt; spelt = refl } in
    let closed : Begins (10 ∷ []) end [] = record { gap = 10 ∷ []; text = []; parts = refl; blank = (refl, tt); spelt = (refl, refl) } in
    let read = lines_spelt lines (each_line IsPrintable (printed_line game solution) (length game) (printable_at game solution well small whole)) in
    record {
      rest = 10 ∷ [];
      begins = record { header = Some greatest; spelt = (behind_word, header, (59 ∷ 10 ∷ body, n, (10 ∷ body, mark, read))) };
      ends = ([], closed, refl);
    }

-- ---- each vertex has one line

abbrev one_if : Bool → ℕ
one_if b = cond b 1 0

unnamed : (game : List GameVertex) (solution : List Answer) (a v : ℕ) → IsGame game → a < length game → v < length game → a ≢ v
    → one_if (names game v (printed_line game solution a)) ≡ 0
unnamed game solution a v well a_in v_in other = ap one_if (ne_eqb (identifier game a) (identifier game v) (λ e. other (same_vertex game a v well a_in v_in e)))

none_above : (game : List GameVertex) (solution : List Answer) (v a k : ℕ) → IsGame game → v < length game → a + k ≤ length game → v < a
    → line_count game (map (printed_line game solution) (range_with_len a k)) v ≡ 0
none_above game solution v a zero well within fits lt = refl
none_above game solution v a (suc k) well within fits lt =
    let here = unnamed game solution a v well (omega arith) within (λ e. absurd (omega arith)) in
    let later = none_above game solution v (a + 1) k well within (omega arith) (omega arith) in
    omega (arith, here, later, count_cons game (printed_line game solution a) (map (printed_line game solution) (range_with_len (a + 1) k)) v)

one_between : (game : List GameVertex) (solution : List Answer) (v a k : ℕ) → IsGame game → v < length game → a + k ≤ length game → a ≤ v
    → v < a + k → line_count game (map (printed_line game solution) (range_with_len a k)) v ≡ 1
one_between game solution v a zero well within fits low high = absurd (omega arith)
one_between game solution v a (suc k) well within fits low high =
    let count = count_cons game (printed_line game solution a) (map (printed_line game solution) (range_with_len (a + 1) k)) v in
    elim (cases_eq a v) [
      | inl same ↦
          let here : one_if (names game v (printed_line game solution a)) ≡ 1 =
          ap one_if (eq-eqb (identifier game a) (identifier game v) (ap (identifier game) same)) in
          let later = none_above game solution v (a + 1) k well within (omega arith) (omega arith) in
          omega (arith, here, later, count)
      | inr other ↦
          let here = unnamed game solution a v well (omega arith) within other in
          let later = one_between game solution v (a + 1) k well within (omega arith) (omega (arith, other)) (omega arith) in
          omega (arith, here, later, count)
    ]

-- ---- what the lines say

told_is : (game : List GameVertex) (solution : List Answer) (v : ℕ) → v < length game
    → answer_at (printed_answers game solution) v ≡ printed_answer game solution v
told_is game solution v within = get_or-map-range_with_len (printed_answer game solution) 0 (length game) v v unanswered within (omega arith)

counts_once : (f : ℕ → ℕ) (b : Bool) (o : Option ℕ) → option_map f (cond b o none) ≡ cond b (option_map f (cond b o none)) none
counts_once f true o = refl
counts_once f false o = refl

line_says : (game : List GameVertex) (solution : List Answer) (v : ℕ) → v < length game
    → Says game (printed_answers game solution) (printed_line game solution v) v
line_says game solution v within =
    grind (
      arith,
      nat_tests,
      told_is game solution v within,
      counts_once (identifier game) (owns game (winner solution v) v)
          (choice solution v),
    )

told_solution : (game : List GameVertex) (solution : List Answer) → IsSolution game solution → IsSolution game (printed_answers game solution)
told_solution game solution whole = record {
  whole = length-map-range_with_len (printed_answer game solution) 0 (length game);
  chosen = λ v within owned.
      let is = told_is game solution v within in
      let mine : owner game v ≡ winner solution v = owned ∙ ap (λ (a : Answer). a.winner) is in
      let c = whole.chosen v within mine in
      let holds : owns game (winner solution v) v ≡ true = ap (is_same (winner solution v)) mine ∙ is_same_itself (winner solution v) in
      (c.0, ap (λ (a : Answer). a.choice) is ∙ ap (λ (b : Bool). cond b (choice solution v) none) holds ∙ c.1, c.2);
}

pub spells_told : (game : List GameVertex) (solution : List Answer) → IsGame game → All (λ x. x.identifier < 2 ^ 32) game
    → IsSolution game solution → IsSolutionText (solution_text game solution) game (printed_answers game solution)
spells_told game solution well small whole = record {
  lines = printed_lines game solution;
  text = text_spelt game solution well small whole;
  one_each = λ v within. one_between game solution v 0 (length game) well within (omega arith) (omega arith) (omega arith);
  said = each_line (IsSaid game (printed_answers game solution)) (printed_line game solution) (length game) (λ v within. (v, line_says game solution v within));
  whole = told_solution game solution whole;
}

-- bytes spell one solution of a game at most
pub spells_one : (bytes : List ℕ) (game : List GameVertex) (solution other : List Answer) → IsGame game → IsSolutionText bytes game solution
    → IsSolutionText bytes game other → other ≡ solution
spells_one bytes game solution other well t u =
    let same : t.lines ≡ u.lines = same_lines bytes t.lines u.lines t.text u.text in
    same_solution game u.lines other solution well u.whole.whole t.whole.whole u.said
    (subst (AllByRecursion (IsSaid game solution)) same t.said) u.one_each
    (λ line v w says is. said_edge game other line v w u.whole says is)
    (λ line v w says is. said_edge game solution line v w t.whole says is)
