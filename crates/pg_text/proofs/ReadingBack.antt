-- The text of a game spells that game.
use Rattle.pg_text.proofs.Common.{◌≡◌, ◌≢◌, ℕ, zero, suc, ◌+◌, ◌-◌, ◌<◌, ◌≤◌, ◌^◌, eqb, List, [], ◌∷◌, ◌++◌, length, get_or, map, Some}
use Rattle.pg_text.proofs.Common.{None, IfSome, decimal, codes, refl, ap, subst, ◌∙◌, arith, nat_tests, flat_map, AllByRecursion}
use Rattle.pg_text.proofs.Common.{IsDistinct, IsStrictlyIncreasing, ne_eqb, length-map, get_or-map, sum_by-cons, All-get_or}
use Rattle.pg_text.proofs.Common.{All-from_get_or, All-map, recursion_from_All, All-from_recursion, Contains-get_or, IsPermutation-refl}
use Rattle.pg_text.proofs.Common.{AllPairs-from_increasing, IsDistinct-from_apart, GameVertex, IsGame, IsWithinLimits, vertex_at, nowhere}
use Rattle.pg_text.proofs.Common.{identifier, identifiers, successors, edge_count, Line, counted, Accepts, line_of, lines_of, IsGameOf}
use Rattle.pg_text.proofs.Common.{rises_already, Passes, one_game, number, word, semicolon, end, is_plain, Begins, Each, line_lexemes}
use Rattle.pg_text.proofs.Common.{IsText, IsGameText, line_text, game_text, IsPrintable}
use Rattle.pg_text.proofs.Spelling.{spells_append}
use Rattle.pg_text.proofs.Spelt.{IsPrintableLine, number_begins, lines_spelt}
use Rattle.pg_text.proofs.GameTexts.{one_text}
use Rattle.pg_text.proofs.Limits.{are_accepted}

-- ---- identifiers rise

rising_from : (xs : List ℕ) → IsStrictlyIncreasing xs → (i k : ℕ) → i + suc k < length xs → get_or xs i 0 < get_or xs (i + suc k) 0
rising_from xs rise i zero lt = rise i lt
rising_from xs rise i (suc k) lt = grind (arith, nat_tests, rising_from xs rise i k (omega arith))

-- a greater place has a greater number
rising_lt : (xs : List ℕ) → IsStrictlyIncreasing xs → (i j : ℕ) → i < j → j < length xs → get_or xs i 0 < get_or xs j 0
rising_lt xs rise i j lt within = grind (arith, nat_tests, rising_from xs rise i (j - i - 1) (omega arith))

identifier_is : (game : List GameVertex) (v : ℕ) → v < length game → get_or (identifiers game) v 0 ≡ identifier game v
identifier_is game v lt = get_or-map (λ (x : GameVertex). x.identifier) game v nowhere 0 lt

identifiers_lt : (game : List GameVertex) → IsGame game → (v w : ℕ) → v < w → w < length game → identifier game v < identifier game w
identifiers_lt game well v w lt within =
    let up = rising_lt (identifiers game) well.rising v w lt (omega (arith, length-map game (λ (x : GameVertex). x.identifier))) in
    omega (arith, up, identifier_is game v (omega arith), identifier_is game w within)

-- ---- a vertex as a line

successor_in_range : (game : List GameVertex) → IsGame game → (v i : ℕ) → i < length (successors game v) → get_or (successors game v) i 0 < length game
successor_in_range game well v i lt = well.in_range v (get_or (successors game v) i 0) (Contains-get_or (successors game v) i 0 lt)

-- what is needed of a line that stands for a vertex
record IsFair (line : Line) : Type 0 where
  printable : IsPrintableLine line
  passes : Passes line
  rise : IsStrictlyIncreasing line.successors

fair_at : (game : List GameVertex) → IsGame game → IsPrintable game → (v : ℕ) → v < length game → IsFair (line_of game (vertex_at game v))
fair_at game well printable v lt =
    let numbers = map (identifier game) (successors game v) in
    let same = length-map (successors game v) (identifier game) in
    let some : 0 < length numbers = omega (arith, same, well.goes_on v lt) in
    let low = All-get_or (λ (x : GameVertex). x.priority ≤ 65535) game v nowhere lt printable.priorities in
    let small : AllByRecursion (λ n. n < 2 ^ 32) numbers = recursion_from_All (λ n. n < 2 ^ 32) numbers
    (All-map (λ n. n < 2 ^ 32) (identifier game) (successors game v)
    (All-from_get_or (λ w. identifier game w < 2 ^ 32) (successors game v) 0
    (λ i within. All-get_or (λ (x : GameVertex). x.identifier < 2 ^ 32) game (get_or (successors game v) i 0) nowhere
    (successor_in_range game well v i within) printable.identifiers))) in
    record {
      printable = record {
        identifier = All-get_or (λ (x : GameVertex). x.identifier < 2 ^ 32) game v nowhere lt printable.identifiers;
        priority = omega (arith, low);
        some = λ e. absurd (omega (arith, some, ap length e));
        successors = small;
        name = All-get_or (λ (x : GameVertex). IfSome x.name (Each is_plain)) game v nowhere lt printable.names;
      };
      passes = record { priority = low; some = some };
      rise = λ k within.
          let short : k + 1 < length (successors game v) = omega (arith, same) in
          let up = identifiers_lt game well (get_or (successors game v) k 0) (get_or (successors game v) (k + 1) 0)
          (well.successors_rise v k short) (successor_in_range game well v (k + 1) short) in
          omega (
            arith,
            up,
            get_or-map (identifier game) (successors game v) k 0 0 (omega arith),
            get_or-map (identifier game) (successors game v) (k + 1) 0 0 short,
          );
    }

fair : (game : List GameVertex) → IsGame game → IsPrintable game → AllByRecursion IsFair (lines_of game)
fair game well printable =
    recursion_from_All IsFair (lines_of game)
    (All-map IsFair (line_of game) game (All-from_get_or (λ x. IsFair (line_of game x)) game nowhere (fair_at game well printable)))

printable_lines : (lines : List Line) → AllByRecursion IsFair lines → AllByRecursion IsPrintableLine lines
printable_lines [] each = tt
printable_lines (line ∷ lines) each = (each.0.printable, printable_lines lines each.1)

have_successors : (lines : List Line) → AllByRecursion IsFair lines → AllByRecursion (λ (line : Line). line.successors ≢ []) lines
have_successors [] each = tt
have_successors (line ∷ lines) each = (each.0.printable.some, have_successors lines each.1)

-- the successors of a fair line stand once each
counted_same : (line : Line) → IsFair line → counted line ≡ line
counted_same line f = ap (λ (s : List ℕ). let l : Line = record line { successors = s } in l) (rises_already line.successors f.rise)

all_counted : (lines : List Line) → AllByRecursion IsFair lines → map counted lines ≡ lines
all_counted [] each = refl
all_counted (line ∷ lines) each = ap (λ (l : Line). l ∷ map counted lines) (counted_same line each.0)
    ∙ ap (λ (ls : List Line). line ∷ ls) (all_counted lines each.1)

-- ---- the lines keep the limits

abbrev line_identifiers : List Line → List ℕ
line_identifiers lines = map (λ (l : Line). l.identifier) lines

same_identifiers : (game vertices : List GameVertex) → line_identifiers (map (line_of game) vertices) ≡ identifiers vertices
same_identifiers game [] = refl
same_identifiers game (x ∷ vertices) = ap (λ (ns : List ℕ). x.identifier ∷ ns) (same_identifiers game vertices)

same_edges : (game vertices : List GameVertex) → edge_count (map (line_of game) vertices) ≡ edge_count vertices
same_edges game [] = refl
same_edges game (x ∷ vertices) =
    let count = λ (l : Line). length l.successors in
    let left : edge_count (map (line_of game) (x ∷ vertices)) ≡ length (map (identifier game) x.successors) + edge_count
    (map (line_of game) vertices) = sum_by-cons count (line_of game x) (map (line_of game) vertices) in
    let right : edge_count (x ∷ vertices) ≡ length x.successors + edge_count vertices = sum_by-cons count x vertices in
    omega (arith, left, right, same_edges game vertices, length-map x.successors (identifier game))

distinct_from_rising : (ids : List ℕ) → IsStrictlyIncreasing ids → IsDistinct eqb ids
distinct_from_rising ids rise = IsDistinct-from_apart eqb ids (λ i j d lt within.
    let up = AllPairs-from_increasing ids rise i j d lt within in
    ne_eqb (get_or ids i d) (get_or ids j d) (λ e. absurd (omega (arith, up, e))))

have_fair : (lines : List Line) → AllByRecursion IsFair lines → AllByRecursion (λ (line : Line). line.priority ≤ 65535) lines
have_fair [] each = tt
have_fair (line ∷ lines) each = (each.0.passes.priority, have_fair lines each.1)

accepts_game : (game : List GameVertex) → IsGame game → IsWithinLimits game → IsPrintable game → Accepts [] (lines_of game)
accepts_game game well limits printable =
    let lines = lines_of game in
    let each = fair game well printable in
    are_accepted lines (record {
      distinct = distinct_from_rising (identifiers lines) (rw (same_identifiers game game) well.rising);
      priorities = All-from_recursion (λ (line : Line). line.priority ≤ 65535) lines (have_fair lines each);
      successors = All-from_recursion (λ (line : Line). line.successors ≢ []) lines (have_successors lines each);
      vertices = omega (arith, limits.vertices, length-map game (line_of game));
      edges = omega (arith, limits.edges, same_edges game game, ap edge_count (all_counted lines each));
    })

-- ---- the text

text_spelt : (game : List GameVertex) → IsGame game → IsPrintable game → IsText (game_text game) (lines_of game)
text_spelt game well printable =
    let lines = lines_of game in
    let greatest = identifier game (length game - 1) in
    let last = All-get_or (λ (x : GameVertex). x.identifier < 2 ^ 32) game (length game - 1) nowhere (omega (arith, well.nonempty)) printable.identifiers in
    let body = flat_map line_text lines in
    let behind_word = 32 ∷ (decimal greatest ++ (59 ∷ 10 ∷ body)) in
    let header : Begins (game_text game) (word (codes "parity")) behind_word =
    record {
      gap = [];
      text = codes "parity";
      parts = refl;
      blank = tt;
      spelt = (λ e. cc, (refl, (refl, (refl, (refl, (refl, (refl, tt)))))), refl, refl);
    } in
    let n : Begins behind_word (number greatest) (59 ∷ 10 ∷ body) = number_begins (32 ∷ []) greatest (59 ∷ 10 ∷ body) (refl, tt) last refl in
    let mark : Begins (59 ∷ 10 ∷ body) semicolon (10 ∷ body) = record { gap = []; text = 59 ∷ []; parts = refl; blank = tt; spelt = refl } in
    let closed : Begins (10 ∷ []) end [] = record { gap = 10 ∷ []; text = []; parts = refl; blank = (refl, tt); spelt = (refl, refl) } in
    let each = fair game well printable in
    let lines_read = spells_append (flat_map line_lexemes lines) (end ∷ []) (10 ∷ body) (10 ∷ []) []
    (lines_spelt lines (printable_lines lines each)) ([], closed, refl) in
    record {
      header = Some greatest;
      start = None;
      spelt = (behind_word, header, (59 ∷ 10 ∷ body, n, (10 ∷ body, mark, lines_read)));
      successors = have_successors lines each;
    }

pub reads_back : (game : List GameVertex) → IsGame game → IsWithinLimits game → IsPrintable game → IsGameText (game_text game) game
reads_back game well limits printable = grind (
  arith,
  nat_tests,
  IsPermutation-refl (lines_of game),
  text_spelt game well printable,
  accepts_game game well limits printable,
  all_counted (lines_of game) (fair game well printable),
)

-- bytes spell one game at most
pub spell_one : (bytes : List ℕ) (game other : List GameVertex) → IsGameText bytes game → IsGameText bytes other → other ≡ game
spell_one bytes game other text another =
    one_game (map counted text.lines) other game (subst (λ (ls : List Line). IsGameOf (map counted ls) other)
    (one_text bytes another.lines text.lines another.text text.text) another.game_of) text.game_of
