-- Lines taken one after another into a solution, with a mark for each vertex that one of them names.
use Rattle.pg_text.proofs.Common.{◌≡◌, ◌≢◌, ℕ, ◌+◌, ◌≤◌, ◌<◌, Bool, true, false, cond, eqb, List, [], ◌∷◌, ◌++◌, length, Option, Some, None}
use Rattle.pg_text.proofs.Common.{refl, sym, ap, subst, ◌∙◌, arith, inl, inr, nat_tests, ◌&&◌, ◌||◌, is_some, option_map, replicate}
use Rattle.pg_text.proofs.Common.{slice_set, list_any, AllByRecursion, eq-eqb, ne_eqb, cases_eq, cases_Bool, get_or-set_same}
use Rattle.pg_text.proofs.Common.{get_or-set_other, get_or-replicate, length-set, length-replicate, ext_get_or, sum_by-append, sum_by-cons}
use Rattle.pg_text.proofs.Common.{Player, Even, Odd, GameVertex, identifier, IsEdge, IsGame, Answer, SolutionLine, unanswered, answer_at}
use Rattle.pg_text.proofs.Common.{winner, choice, IsSolution, is_same, owns, counting_strategy, line_count, Says, Fits, AreTaken, has_line}
use Rattle.pg_text.proofs.Common.{answers, AreLines, IsSolutionText, is_seen, Puts, State, is_complete, some, some_is, none, none_is_some}
use Rattle.pg_text.proofs.Common.{chosen}
use Rattle.pg_text.proofs.Answering.{same_vertex}

-- ---- players

pub same_player : (a b : Player) → is_same a b ≡ true → a ≡ b
same_player Even Even e = refl
same_player Odd Odd e = refl
same_player Even Odd e = absurd cc
same_player Odd Even e = absurd cc

pub is_same_itself : (a : Player) → is_same a a ≡ true
is_same_itself Even = refl
is_same_itself Odd = refl

-- ---- how many lines name a vertex

abbrev pub names : List GameVertex → ℕ → SolutionLine → Bool
names game v line = eqb line.identifier (identifier game v)

abbrev one_if : Bool → ℕ
one_if b = cond b 1 0

pub count_cons : (game : List GameVertex) (line : SolutionLine) (lines : List SolutionLine) (v : ℕ)
    → line_count game (line ∷ lines) v ≡ one_if (names game v line) + line_count game lines v
count_cons game line lines v = sum_by-cons (λ (l : SolutionLine). one_if (names game v l)) line lines

count_append : (game : List GameVertex) (before after : List SolutionLine) (v : ℕ)
    → line_count game (before ++ after) v ≡ line_count game before v + line_count game after v
count_append game before after v = sum_by-append (λ (l : SolutionLine). one_if (names game v l)) before after

count_push : (game : List GameVertex) (lines : List SolutionLine) (line : SolutionLine) (v : ℕ)
    → line_count game (lines ++ line ∷ []) v ≡ line_count game lines v + one_if (names game v line)
count_push game lines line v = omega (arith, count_append game lines (line ∷ []) v, count_cons game line [] v)

-- some line that names v says each thing that all lines say
pub find_line : (game : List GameVertex) (P : SolutionLine → Type 0) (v : ℕ) (lines : List SolutionLine) → AllByRecursion P lines
    → 0 < line_count game lines v → (line : SolutionLine) × (line.identifier ≡ identifier game v) × P line
find_line game P v [] all some = absurd (omega arith)
find_line game P v (line ∷ lines) all some =
    elim (cases_eq line.identifier (identifier game v)) [
      | inl same ↦ (line, same, all.0)
      | inr other ↦ find_line game P v lines all.1 (let none : names game v line ≡ false = ne_eqb line.identifier (identifier game v) other in
          let zero : one_if (names game v line) ≡ 0 = ap one_if none in omega (arith, count_cons game line lines v))
    ]

-- ---- lists of lines

pub all_push : (P : SolutionLine → Type 0) (lines : List SolutionLine) (line : SolutionLine) → AllByRecursion P lines → P line
    → AllByRecursion P (lines ++ line ∷ [])
all_push P [] line all one = (one, tt)
all_push P (l ∷ lines) line all one = (all.0, all_push P lines line all.1 one)

pub all_at : (P : SolutionLine → Type 0) (before : List SolutionLine) (line : SolutionLine) (after : List SolutionLine)
    → AllByRecursion P (before ++ line ∷ after) → P line
all_at P [] line after all = all.0
all_at P (l ∷ before) line after all = all_at P before line after all.1

pub all_both : (P Q : SolutionLine → Type 0) (lines : List SolutionLine) → AllByRecursion P lines → AllByRecursion Q lines
    → AllByRecursion (λ line. P line × Q line) lines
all_both P Q [] p q = tt
all_both P Q (line ∷ lines) p q = ((p.0, q.0), all_both P Q lines p.1 q.1)

pub all_map : (P Q : SolutionLine → Type 0) → ((line : SolutionLine) → P line → Q line) → (lines : List SolutionLine)
    → AllByRecursion P lines → AllByRecursion Q lines
all_map P Q f [] p = tt
all_map P Q f (line ∷ lines) p = (f line p.0, all_map P Q f lines p.1)

-- ---- what a solution says after one more line

abbrev pub IsSaid : List GameVertex → List Answer → SolutionLine → Type 0
IsSaid game solution line = (v : ℕ) × Says game solution line v

pub nothing_read : (game : List GameVertex) → State game [] (replicate (length game) unanswered) (replicate (length game) false)
nothing_read game = record {
  whole = length-replicate (length game) unanswered;
  marks = length-replicate (length game) false;
  counted = λ v within. ap one_if (sym (get_or-replicate (length game) v false false within));
  said = tt;
  edges = λ v w e. absurd (unchosen v w e);
}
  where
    unchosen : (v w : ℕ) → choice (replicate (length game) unanswered) v ≡ Some w → ⊥
    unchosen v w e = elim (Rattle.std.proofs.lemmas.Bool.cases_lt v (length game)) [
      | inl lt ↦ none_is_some w (sym (ap (λ (a : Answer). a.choice) (get_or-replicate (length game) v unanswered unanswered lt)) ∙ e)
      | inr ge ↦ none_is_some w (sym (ap (λ (a : Answer). a.choice) (Rattle.std.proofs.lemmas.List.get_or_past
          (replicate (length game) unanswered) v unanswered (omega (arith, length-replicate (length game) unanswered)))) ∙ e)
    ]

-- what is said at another vertex stays
says_kept : (game : List GameVertex) (solution : List Answer) (a : Answer) (line : SolutionLine) (v u : ℕ) → u ≢ v
    → Says game solution line u → Says game (slice_set solution v a) line u
says_kept game solution a line v u other says = grind (arith, nat_tests, get_or-set_other solution v u a unanswered other, chosen)

-- where no line names v, all of them are said after the answer at v was changed
all_kept : (game : List GameVertex) (solution : List Answer) (a : Answer) (v : ℕ) (lines : List SolutionLine) → line_count game lines v ≡ 0
    → AllByRecursion (IsSaid game solution) lines → AllByRecursion (IsSaid game (slice_set solution v a)) lines
all_kept game solution a v [] none all = tt
all_kept game solution a v (line ∷ lines) none all =
    let count = count_cons game line lines v in
    let other : all.0.0 ≢ v = λ e.
    let named : line.identifier ≡ identifier game v = all.0.1.named ∙ ap (identifier game) e in
    let one : one_if (names game v line) ≡ 1 = ap one_if (eq-eqb line.identifier (identifier game v) named) in
    omega arith in
    ((all.0.0, says_kept game solution a line v all.0.0 other all.0.1), all_kept game solution a v lines (omega arith) all.1)

pub reads_more : (game : List GameVertex) (lines : List SolutionLine) (line : SolutionLine) (solution : List Answer) (seen : List Bool)
    (solution' : List Answer) (seen' : List Bool)
    → IsGame game → State game lines solution seen → Puts game line solution seen solution' seen' → State game (lines ++ line ∷ []) solution' seen'
reads_more game lines line solution seen solution' seen' well s p =
    let a : Answer = record { winner = line.winner; choice = p.chosen } in
    let put : List Answer = slice_set solution p.v a in
    let marked : List Bool = slice_set seen p.v true in
    let here : answer_at put p.v ≡ a = get_or-set_same solution p.v a unanswered (omega (arith, s.whole, p.within)) in
    let none : line_count game lines p.v ≡ 0 = s.counted p.v p.within ∙ ap one_if p.fresh in
    let count : (u : ℕ) → u < length game → line_count game (lines ++ line ∷ []) u ≡ one_if (is_seen marked u) = λ u within.
    elim (cases_eq u p.v) [
      | inl same ↦
          let named : line.identifier ≡ identifier game u = p.named ∙ ap (identifier game) (sym same) in
          let one : one_if (names game u line) ≡ 1 = ap one_if (eq-eqb line.identifier (identifier game u) named) in
          let before : line_count game lines u ≡ 0 = ap (line_count game lines) same ∙ none in
          let mark : is_seen marked u ≡ true = ap (is_seen marked) same ∙ get_or-set_same seen p.v true false (omega (arith, s.marks, p.within)) in
          let total : line_count game (lines ++ line ∷ []) u ≡ 1 = omega (arith, count_push game lines line u) in
          total ∙ sym (ap one_if mark)
      | inr other ↦
          let unnamed : one_if (names game u line) ≡ 0 =
          ap one_if (ne_eqb line.identifier (identifier game u)
          (λ e. other (same_vertex game u p.v well within p.within (sym e ∙ p.named)))) in
          let mark : is_seen marked u ≡ is_seen seen u = get_or-set_other seen p.v u true false other in
          let total : line_count game (lines ++ line ∷ []) u ≡ line_count game lines u = omega (arith, count_push game lines line u) in
          total ∙ s.counted u within ∙ sym (ap one_if mark)
    ] in
    let says : Says game put line p.v = record {
      within = p.within;
      named = p.named;
      won = ap (λ (b : Answer). b.winner) here;
      chosen = ap (λ (b : Answer). option_map (identifier game) b.choice) here ∙ p.chooses.counts;
    } in
    let edge : (u w : ℕ) → choice put u ≡ Some w → IsEdge game u w = λ u w e.
    elim (cases_eq u p.v) [
      | inl same ↦ subst (λ (t : ℕ). IsEdge game t w) (sym same) (p.chooses.edge w (sym (ap (λ (b : Answer). b.choice) here) ∙ ap (choice put) (sym same) ∙ e))
      | inr other ↦ s.edges u w (sym (ap (λ (b : Answer). b.choice) (get_or-set_other solution p.v u a unanswered other)) ∙ e)
    ] in
    let after : State game (lines ++ line ∷ []) put marked = record {
      whole = length-set solution p.v a ∙ s.whole;
      marks = length-set seen p.v true ∙ s.marks;
      counted = count;
      said = all_push (IsSaid game put) lines line (all_kept game solution a p.v lines none s.said) (p.v, says);
      edges = edge;
    } in
    rw (p.solution_is, p.seen_is) after

-- ---- what the lines answer

any_names : (game : List GameVertex) (v : ℕ) (lines : List SolutionLine) → 0 < line_count game lines v → list_any (names game v) lines ≡ true
any_names game v [] some = absurd (omega arith)
any_names game v (line ∷ lines) some =
    elim (cases_Bool (names game v line)) [
      | inl holds ↦ rw holds refl
      | inr fails ↦ (let zero : one_if (names game v line) ≡ 0 = ap one_if fails in
          let later = any_names game v lines (omega (arith, count_cons game line lines v)) in rw (fails, later) refl)
    ]

none_names : (game : List GameVertex) (v : ℕ) (lines : List SolutionLine) → line_count game lines v ≡ 0 → list_any (names game v) lines ≡ false
none_names game v [] none = refl
none_names game v (line ∷ lines) none =
    let count = count_cons game line lines v in
    elim (cases_Bool (names game v line)) [
      | inl holds ↦ (let one : one_if (names game v line) ≡ 1 = ap one_if holds in absurd (omega arith))
      | inr fails ↦ (let later = none_names game v lines (omega arith) in rw (fails, later) refl)
    ]

-- whether a line names v, by how many do
pub named_if : (game : List GameVertex) (v : ℕ) (lines : List SolutionLine) (b : Bool) → line_count game lines v ≡ one_if b → list_any (names game v) lines ≡ b
named_if game v lines true count = any_names game v lines (omega arith)
named_if game v lines false count = none_names game v lines count

-- v has a choice if its winner owns it
abbrev pub is_chosen : List GameVertex → List Answer → ℕ → Bool
is_chosen game solution v = cond (owns game (winner solution v) v) (is_some (choice solution v)) true

is_some-map : (f : ℕ → ℕ) (o : Option ℕ) → is_some (option_map f o) ≡ is_some o
is_some-map f None = refl
is_some-map f (Some x) = refl

has_strategy : (b : Bool) (strategy chosen : Option ℕ) → is_some chosen ≡ is_some (cond b strategy none)
    → cond b (is_some strategy) true ≡ cond b (is_some chosen) true
has_strategy true strategy chosen e = sym e
has_strategy false strategy chosen e = refl

-- a line answers for v if it names v and the solution that says it has a choice there, if it needs one
answers_is : (game : List GameVertex) (solution : List Answer) (v u : ℕ) (line : SolutionLine) → IsGame game → v < length game
    → Says game solution line u → answers game v line ≡ (names game v line && is_chosen game solution v)
answers_is game solution v u line well within says =
    elim (cases_eq line.identifier (identifier game v)) [
      | inl same ↦
          let here : u ≡ v = same_vertex game u v well says.within within (sym says.named ∙ same) in
          let won : winner solution v ≡ line.winner = ap (winner solution) (sym here) ∙ says.won in
          let said : option_map (identifier game) (choice solution v) ≡ counting_strategy game line v =
          subst (λ (t : ℕ). option_map (identifier game) (choice solution t) ≡ counting_strategy game line t) here says.chosen in
          let known : is_some (choice solution v) ≡ is_some (counting_strategy game line v) =
          sym (is_some-map (identifier game) (choice solution v)) ∙ ap (λ (o : Option ℕ). is_some o) said in
          let by_line : cond (owns game line.winner v) (is_some line.strategy) true ≡ cond (owns game line.winner v)
          (is_some (choice solution v)) true = has_strategy (owns game line.winner v) line.strategy (choice solution v) known in
          ap (λ (b : Bool). eqb line.identifier (identifier game v) && b)
          (by_line ∙ ap (λ (p : Player). cond (owns game p v) (is_some (choice solution v)) true) (sym won))
      | inr other ↦ (let fails = ne_eqb line.identifier (identifier game v) other in rw fails refl)
    ]

or_and : (a b c : Bool) → ((a && c) || (b && c)) ≡ ((a || b) && c)
or_and true true true = refl
or_and true true false = refl
or_and true false true = refl
or_and true false false = refl
or_and false true true = refl
or_and false true false = refl
or_and false false _ = refl

any_answers : (game : List GameVertex) (solution : List Answer) (v : ℕ) (lines : List SolutionLine) → IsGame game → v < length game
    → AllByRecursion (IsSaid game solution) lines
    → list_any (answers game v) lines ≡ (list_any (names game v) lines && is_chosen game solution v)
any_answers game solution v [] well within all = refl
any_answers game solution v (line ∷ lines) well within all =
    grind (
      arith,
      nat_tests,
      answers_is game solution v all.0.0 line well within all.0.1,
      any_answers game solution v lines well within all.1,
      or_and (names game v line) (list_any (names game v) lines)
          (is_chosen game solution v),
    )

-- the lines answer for v exactly if it is marked and has the choice that it needs
pub answered_is : (game : List GameVertex) (lines : List SolutionLine) (solution : List Answer) (seen : List Bool) (v : ℕ) → IsGame game
    → v < length game → State game lines solution seen
    → list_any (answers game v) lines ≡ is_complete game solution seen v
answered_is game lines solution seen v well within s =
    any_answers game solution v lines well within s.said ∙ ap (λ (b : Bool). b && is_chosen game solution v)
    (named_if game v lines (is_seen seen v) (s.counted v within))

-- ---- what a text of these lines says

owned_chosen : (game : List GameVertex) (solution : List Answer) (v : ℕ) → v < length game → IsSolution game solution → is_chosen game solution v ≡ true
owned_chosen game solution v within whole = grind (arith, nat_tests, cases_Bool (owns game (winner solution v) v))

-- every vertex is answered for by lines that spell a solution
pub all_answered : (bytes : List ℕ) (game : List GameVertex) (solution : List Answer) (v : ℕ) → IsGame game → v < length game
    → (t : IsSolutionText bytes game solution) → list_any (answers game v) t.lines ≡ true
all_answered bytes game solution v well within t =
    any_answers game solution v t.lines well within t.said ∙ ap (λ (b : Bool). b && is_chosen game solution v)
    (named_if game v t.lines true (t.one_each v within)) ∙ owned_chosen game solution v within t.whole

-- a choice that a line says is a successor
pub said_edge : (game : List GameVertex) (solution : List Answer) (line : SolutionLine) (v w : ℕ) → IsSolution game solution
    → Says game solution line v → choice solution v ≡ Some w → IsEdge game v w
said_edge game solution line v w whole says is = grind (arith, nat_tests, cases_Bool (owns game line.winner v))

mapped_some : (f : ℕ → ℕ) (o : Option ℕ) (n : ℕ) → option_map f o ≡ some n → (w : ℕ) × (o ≡ some w) × (f w ≡ n)
mapped_some f None n e = absurd (none_is_some n e)
mapped_some f (Some x) n e = (x, refl, some_is (f x) n e)

-- a line that is said with a successor as its choice fits
pub said_fits : (game : List GameVertex) (solution : List Answer) (line : SolutionLine) (v : ℕ)
    → ((w : ℕ) → choice solution v ≡ Some w → IsEdge game v w) → Says game solution line v → Fits game line
said_fits game solution line v edges says = grind (arith, nat_tests)

pub text_fits : (bytes : List ℕ) (game : List GameVertex) (solution : List Answer) (t : IsSolutionText bytes game solution) → AllByRecursion (Fits game) t.lines
text_fits bytes game solution t =
    all_map (IsSaid game solution) (Fits game)
    (λ line s. said_fits game solution line s.0 (λ w is. said_edge game solution line s.0 w t.whole s.1 is) s.1) t.lines t.said

pub read_fits : (game : List GameVertex) (lines : List SolutionLine) (solution : List Answer) (seen : List Bool)
    → State game lines solution seen → AllByRecursion (Fits game) lines
read_fits game lines solution seen s =
    all_map (IsSaid game solution) (Fits game) (λ line says. said_fits game solution line says.0 (s.edges says.0) says.1) lines s.said

-- lines that were read are taken
pub read_taken : (game : List GameVertex) (lines : List SolutionLine) (solution : List Answer) (seen : List Bool)
    → State game lines solution seen → AreTaken game lines
read_taken game lines solution seen s = record {
  fitting = read_fits game lines solution seen s;
  single = λ v within. at_most_one (is_seen seen v) (line_count game lines v) (s.counted v within);
}
  where
    at_most_one : (b : Bool) (n : ℕ) → n ≡ one_if b → n ≤ 1
    at_most_one true n e = omega arith
    at_most_one false n e = omega arith

-- no line has an identifier that none of the vertices has that are named
pub no_line : (game : List GameVertex) (lines : List SolutionLine) (n : ℕ) → AllByRecursion (Fits game) lines
    → ((v : ℕ) → v < length game → n ≡ identifier game v → line_count game lines v ≡ 0) → has_line lines n ≡ false
no_line game [] n fits none = refl
no_line game (line ∷ lines) n fits none =
    let later = no_line game lines n fits.1 (λ v within named. omega (arith, none v within named, count_cons game line lines v)) in
    elim (cases_eq line.identifier n) [
      | inl same ↦
          let v = fits.0.v in
          let zero = none v fits.0.within (sym same ∙ fits.0.named) in
          let one : one_if (names game v line) ≡ 1 = ap one_if (eq-eqb line.identifier (identifier game v) fits.0.named) in
          absurd (omega (arith, zero, one, count_cons game line lines v))
      | inr other ↦ (let fails = ne_eqb line.identifier n other in rw (fails, later) refl)
    ]

-- two lines for one vertex are one too many
pub one_too_many : (game : List GameVertex) (before : List SolutionLine) (line : SolutionLine) (after : List SolutionLine) (v : ℕ)
    → line.identifier ≡ identifier game v → line_count game before v ≡ 1 → line_count game (before ++ line ∷ after) v ≡ 1 → ⊥
one_too_many game before line after v named one total = grind (
  arith,
  nat_tests,
  eq-eqb line.identifier (identifier game v) named,
  count_append game before (line ∷ after) v,
  count_cons game line after v,
)

-- ---- the solution that is read

same_choice : (game : List GameVertex) (a b : Option ℕ) → IsGame game → ((w : ℕ) → a ≡ some w → w < length game)
    → ((w : ℕ) → b ≡ some w → w < length game) → option_map (identifier game) a ≡ option_map (identifier game) b → a ≡ b
same_choice game None None well p q e = refl
same_choice game None (Some y) well p q e = absurd (none_is_some (identifier game y) e)
same_choice game (Some x) None well p q e = absurd (none_is_some (identifier game x) (sym e))
same_choice game (Some x) (Some y) well p q e =
    ap (λ (w : ℕ). some w) (same_vertex game x y well (p x refl) (q y refl) (some_is (identifier game x) (identifier game y) e))

answer_is : (a b : Answer) → a.winner ≡ b.winner → a.choice ≡ b.choice → a ≡ b
answer_is a b p q = ap (λ (w : Player). let r : Answer = record { winner = w; choice = a.choice } in r) p
    ∙ ap (λ (c : Option ℕ). let r : Answer = record { winner = b.winner; choice = c } in r) q

-- what these lines say is a successor where it is a choice
abbrev pub ChoosesEdges : List GameVertex → List Answer → Type 0
ChoosesEdges game solution = (line : SolutionLine) (v w : ℕ) → Says game solution line v → choice solution v ≡ Some w → IsEdge game v w

-- two solutions of which one line for each vertex says the same are the same
pub same_solution : (game : List GameVertex) (lines : List SolutionLine) (a b : List Answer) → IsGame game → length a ≡ length game
    → length b ≡ length game → AllByRecursion (IsSaid game a) lines → AllByRecursion (IsSaid game b) lines
    → ((v : ℕ) → v < length game → line_count game lines v ≡ 1) → ChoosesEdges game a → ChoosesEdges game b → a ≡ b
same_solution game lines a b well a_whole b_whole a_said b_said one a_edges b_edges =
    ext_get_or unanswered a b (a_whole ∙ sym b_whole) (λ v lt.
    let within : v < length game = omega (arith, a_whole, lt) in
    let both = find_line game (λ line. IsSaid game a line × IsSaid game b line) v lines
    (all_both (IsSaid game a) (IsSaid game b) lines a_said b_said) (omega (arith, one v within)) in
    let line = both.0 in
    let of_a : Says game a line v = subst (λ (u : ℕ). Says game a line u)
    (same_vertex game both.2.0.0 v well both.2.0.1.within within (sym both.2.0.1.named ∙ both.1)) both.2.0.1 in
    let of_b : Says game b line v = subst (λ (u : ℕ). Says game b line u)
    (same_vertex game both.2.1.0 v well both.2.1.1.within within (sym both.2.1.1.named ∙ both.1)) both.2.1.1 in
    answer_is (answer_at a v) (answer_at b v) (of_a.won ∙ sym of_b.won)
    (same_choice game (choice a v) (choice b v) well (λ w is. well.in_range v w (a_edges line v w of_a is))
    (λ w is. well.in_range v w (b_edges line v w of_b is)) (of_a.chosen ∙ sym of_b.chosen)))

-- what is read is the only solution that lines spell
pub reads_same : (bytes : List ℕ) (game : List GameVertex) (solution : List Answer) (seen : List Bool) (spelt : List Answer) → IsGame game
    → (t : IsSolutionText bytes game spelt) → State game t.lines solution seen → solution ≡ spelt
reads_same bytes game solution seen spelt well t s =
    same_solution game t.lines solution spelt well s.whole t.whole.whole s.said t.said t.one_each (λ line v w says is. s.edges v w is)
    (λ line v w says is. said_edge game spelt line v w t.whole says is)

complete_parts : (a b : Bool) → (a && b) ≡ true → (a ≡ true) × (b ≡ true)
complete_parts true true e = (refl, refl)
complete_parts true false e = absurd cc
complete_parts false b e = absurd cc

some_from : (o : Option ℕ) → is_some o ≡ true → (w : ℕ) × (o ≡ some w)
some_from None e = absurd cc
some_from (Some w) e = (w, refl)

-- what is read of lines that answer for each vertex is what they spell
pub reads_text : (bytes : List ℕ) (game : List GameVertex) (lines : List SolutionLine) (solution : List Answer) (seen : List Bool)
    → AreLines bytes lines → State game lines solution seen → ((v : ℕ) → v < length game → is_complete game solution seen v ≡ true)
    → IsSolutionText bytes game solution
reads_text bytes game lines solution seen text s complete = record {
  lines = lines;
  text = text;
  one_each = λ v within. s.counted v within ∙ ap one_if (complete_parts (is_seen seen v) (is_chosen game solution v) (complete v within)).0;
  said = s.said;
  whole = record {
    whole = s.whole;
    chosen = λ v within owned.
        let holds : owns game (winner solution v) v ≡ true = ap (is_same (winner solution v)) owned ∙ is_same_itself (winner solution v) in
        let has : is_some (choice solution v) ≡ true = sym (ap (λ (b : Bool). cond b (is_some (choice solution v)) true) holds)
        ∙ (complete_parts (is_seen seen v) (is_chosen game solution v) (complete v within)).1 in
        let c = some_from (choice solution v) has in
        (c.0, c.1, s.edges v c.0 c.1);
  };
}
