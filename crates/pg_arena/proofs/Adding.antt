-- One more line: what it does to the parts, and which reason there is against it.
use Rattle.pg_arena.proofs.Common.{◌≡◌, ℕ, zero, suc, ◌+◌, ◌-◌, ◌≤◌, ◌<◌, Bool, true, false, eqb, cond, List, [], ◌∷◌, ◌++◌, append-nil}
use Rattle.pg_arena.proofs.Common.{length, take, drop, map, get_or, replicate, Option, Some, None, refl, sym, ap, subst, ◌∙◌, arith, inl}
use Rattle.pg_arena.proofs.Common.{inr, Bor, All, slice_range, slice_get, option_map, option_to_list, option_copied, is_some, nat_tests}
use Rattle.pg_arena.proofs.Common.{IsSome, IfSome, Result, Ok, Err, OnErr, ◌||◌, list_any, flat_map, IsDistinct, IsStrictlyIncreasing, Vec}
use Rattle.pg_arena.proofs.Common.{Global, nat_eq_equiv, IsDistinct-push, cases_lt, eqb-false, ltb-false, leb-false, drop-append-le}
use Rattle.pg_arena.proofs.Common.{take-append-le, take_all, drop_at, length-append, length-drop, length-take, length-replicate}
use Rattle.pg_arena.proofs.Common.{get_or-append_right, get_or-replicate, get_or_past, map-append, length-map, get_or-append}
use Rattle.pg_arena.proofs.Common.{get_or-append_seam, length-flat_map, flat_map-append, All-nil, All-head, All-tail, All-push, All-weaker}
use Rattle.pg_arena.proofs.Common.{Player, ArenaFault, OutOfMemory, edge_count, Line, is_named, add_fault, Answers, Entry, Row, row_of}
use Rattle.pg_arena.proofs.Common.{rows_in, place_at, name_in, vertex_in, vertices_in, AreWithin, AreNamed, IsOrderly, AreKept, AreKeptIn}
use Rattle.pg_arena.proofs.Beside.{rows_long, rows_more}

abbrev Names : Type 0
Names = List (Vec ℕ Global)

-- ---- what is told of the lines by their parts

pub named_is : (targets : List ℕ) (names : Names) (rows : List Row) (q : ℕ)
    → is_named (vertices_in targets names rows) q ≡ list_any (eqb q) (map (λ e. e.identifier) rows)
named_is targets names [] q = refl
named_is targets names (e ∷ rows) q = ap (λ b. eqb q (e.identifier) || b) (named_is targets names rows q)

pub named_by : {ids targets : List ℕ} {names : Names} {rows : List Row} (q : ℕ) → AreKept ids targets names rows
    → is_named (vertices_in targets names rows) q ≡ list_any (eqb q) ids
named_by {ids} {targets} {names} {rows} q kept = named_is targets names rows q ∙ ap (list_any (eqb q)) (sym kept.listed)

pub edges_by : {ids targets : List ℕ} {names : Names} {rows : List Row} → AreKept ids targets names rows
    → edge_count (vertices_in targets names rows) ≡ length targets
edges_by {ids} {targets} {names} {rows} kept = sym (length-flat_map (λ (line : Line). line.successors) (vertices_in targets names rows))
    ∙ ap length (sym kept.laid)

lines_by : (targets : List ℕ) (names : Names) (rows : List Row) → length (vertices_in targets names rows) ≡ length rows
lines_by targets names rows = length-map rows (vertex_in targets names)

pub lines_in : {ids targets : List ℕ} {names : Names} {places : List (Option ℕ)} {entries : List Entry} → AreKeptIn ids targets names places entries
    → length (vertices_in targets names (rows_in ids places entries)) ≡ length entries
lines_in {ids} {targets} {names} {places} {entries} kept =
    omega (arith, lines_by targets names (rows_in ids places entries), rows_long ids places entries kept.as_many, kept.as_many)

-- ---- one more line leaves the others as they were

range_stays : (targets more : List ℕ) (from to : ℕ) → from ≤ to → to ≤ length targets → slice_range (targets ++ more) from to ≡ slice_range targets from to
range_stays targets more from to le h =
    let short : from ≤ length targets = omega arith in
    let within : to - from ≤ length (drop from targets) = omega (arith, length-drop from targets) in
    ap (take (to - from)) (drop-append-le from targets more short) ∙ take-append-le (to - from) (drop from targets) more within

get_stays : (names extra : Names) (k : ℕ) → k < length names → slice_get (names ++ extra) k ≡ slice_get names k
get_stays [] extra k lt = absurd (omega arith)
get_stays (n ∷ names) extra zero lt = refl
get_stays (n ∷ names) extra (suc k) lt = get_stays names extra k (omega arith)

get_new : (names : Names) (n : Vec ℕ Global) → slice_get (names ++ n ∷ []) (length names) ≡ Some n
get_new [] n = refl
get_new (m ∷ names) n = get_new names n

name_stays : (names extra : Names) (place : Option ℕ) → IfSome place (λ k. k < length names) → name_in (names ++ extra) place ≡ name_in names place
name_stays names extra None h = refl
name_stays names extra (Some k) h = ap (option_map (λ n. n.items)) (get_stays names extra k h)

lines_stay : (targets more : List ℕ) (names extra : Names) (rows : List Row) → AreWithin targets rows → AreNamed names rows
    → vertices_in (targets ++ more) (names ++ extra) rows ≡ vertices_in targets names rows
lines_stay targets more names extra [] within named = refl
lines_stay targets more names extra (e ∷ rows) within named =
    let range = All-head (λ e. (e.from ≤ e.to) × (e.to ≤ length targets)) e rows within in
    let name = All-head (λ e. IfSome e.name (λ k. k < length names)) e rows named in
    let same = range_stays targets more (e.from) (e.to) (range.0) (range.1) in
    let called = name_stays names extra (e.name) name in
    let rest = lines_stay targets more names extra rows (All-tail (λ e. (e.from ≤ e.to) × (e.to ≤ length targets)) e rows within)
    (All-tail (λ e. IfSome e.name (λ k. k < length names)) e rows named) in
    rw (same, called, rest) refl

range_new : (targets more : List ℕ) → slice_range (targets ++ more) (length targets) (length targets + length more) ≡ more
range_new targets more = grind (arith, nat_tests, drop_at targets more (length targets) refl, take_all (length more) more (omega arith))

-- the place that a new name gets, and the name there
abbrev pub place_of_new : Names → Option (Vec ℕ Global) → Option ℕ
place_of_new names new = option_map (λ _. length names) new

name_new : (names : Names) (new : Option (Vec ℕ Global)) → name_in (names ++ option_to_list new) (place_of_new names new) ≡ option_map (λ n. n.items) new
name_new names None = refl
name_new names (Some n) = ap (option_map (λ n. n.items)) (get_new names n)

-- an entry for a line whose successors stand behind all others, and what is kept of that line
abbrev pub new_entry : List ℕ → ℕ → Player → List ℕ → Entry
new_entry targets priority owner more = record { priority = priority; owner = owner; from = length targets; to = length targets + length more }

abbrev new_row : List ℕ → Names → ℕ → ℕ → Player → List ℕ → Option (Vec ℕ Global) → Row
new_row targets names identifier priority owner more new = row_of identifier (place_of_new names new) (new_entry targets priority owner more)

abbrev pub new_line : ℕ → ℕ → Player → List ℕ → Option (Vec ℕ Global) → Line
new_line identifier priority owner more new =
    record { identifier = identifier; priority = priority; owner = owner; successors = more; name = option_map (λ n. n.items) new }

pub line_more : (targets : List ℕ) (names : Names) (rows : List Row) (identifier priority : ℕ) (owner : Player) (more : List ℕ) (new : Option (Vec ℕ Global))
    → AreWithin targets rows → AreNamed names rows
    → vertices_in (targets ++ more) (names ++ option_to_list new)
    (rows ++ new_row targets names identifier priority owner more new ∷ []) ≡ vertices_in targets names rows ++ new_line identifier priority owner more
    new ∷ []
line_more targets names rows identifier priority owner more new within named =
    let e = new_row targets names identifier priority owner more new in
    let last : vertex_in (targets ++ more) (names ++ option_to_list new) e ≡ new_line identifier priority owner more new =
    rw (range_new targets more, name_new names new) refl in
    map-append (vertex_in (targets ++ more) (names ++ option_to_list new)) rows (e ∷ [])
    ∙ ap (λ (ls : List Line). ls ++ vertex_in (targets ++ more) (names ++ option_to_list new) e ∷ [])
    (lines_stay targets more names (option_to_list new) rows within named) ∙ ap (λ (l : Line). vertices_in targets names rows ++ l ∷ []) last

-- ---- the reasons, in their order

pub record Passes (line : Line) : Type 0 where
  pub priority : line.priority ≤ 65535
  pub some : 0 < length line.successors

-- a line against which there is no reason
pub record IsAccepted (lines : List Line) (line : Line) : Type 0 where
  pub passes : Passes line
  pub unnamed : is_named lines line.identifier ≡ false
  pub few : length lines < 1048576
  pub fits : edge_count lines + length line.successors ≤ 8388608

not_given : (test : Bool) (fault : ArenaFault) (rest : Option ArenaFault) → cond test (Some fault) rest ≡ None → (test ≡ false) × (rest ≡ None)
not_given true fault rest h = absurd cc
not_given false fault rest h = (refl, h)

positive : (n : ℕ) → eqb n 0 ≡ false → 0 < n
positive n h = omega (arith, eqb-false n 0 h)

pub accepted : (lines : List Line) (line : Line) → add_fault lines line ≡ None → IsAccepted lines line
accepted lines line h =
    let priority = not_given _ _ _ h in
    let some = not_given _ _ _ priority.1 in
    let named = not_given _ _ _ some.1 in
    let few = not_given _ _ _ named.1 in
    let fits = not_given _ _ _ few.1 in
    record {
      passes = record {
        priority = ltb-false 65535 line.priority priority.0;
        some = positive (length line.successors) some.0;
      };
      unnamed = named.0;
      few = leb-false 1048576 (length lines) few.0;
      fits = ltb-false 8388608 (edge_count lines + length line.successors) fits.0;
    }

-- the same in the parts
pub record IsNew (ids targets : List ℕ) (entries : List Entry) (line : Line) : Type 0 where
  pub passes : Passes line
  pub unnamed : list_any (eqb line.identifier) ids ≡ false
  pub few : length entries < 1048576
  pub fits : length targets + length line.successors ≤ 8388608

pub accepted_in : {ids targets : List ℕ} {names : Names} {places : List (Option ℕ)} {entries : List Entry} (lines : List Line) (line : Line)
    → AreKeptIn ids targets names places entries
    → vertices_in targets names (rows_in ids places entries) ≡ lines → add_fault lines line ≡ None → IsNew ids targets entries line
accepted_in {ids} {targets} {names} {places} {entries} lines line kept are h =
    grind (arith, nat_tests, accepted lines line h, named_by line.identifier kept.kept, lines_in kept, edges_by kept.kept)

pub few_names : {ids targets : List ℕ} {names : Names} {places : List (Option ℕ)} {entries : List Entry} → AreKeptIn ids targets names places entries
    → length entries < 1048576 → length names < 1048576
few_names {ids} {targets} {names} {places} {entries} kept few = omega (arith, kept.kept.few_names, rows_long ids places entries kept.as_many, kept.as_many, few)

-- a copy of a name is there only if the name is
pub named_copy : (name : Option (Bor (List ℕ))) (copy : Option (Vec ℕ Global)) (named : Bool) → named ≡ is_some name
    → option_map (λ n. n.items) copy ≡ option_copied name → IsSome copy → named ≡ true
named_copy name None named e f some = absurd cc
named_copy None (Some n) named e f some = absurd cc
named_copy (Some m) (Some n) named e f some = e

-- a reason answers for a line
pub answers_for : (fault : ArenaFault) (reason : Option ArenaFault) → Some fault ≡ reason → Answers {T = Unit {0}} (Err fault) reason
answers_for OutOfMemory reason e = tt
answers_for fault reason e = sym e

-- ---- what is kept

weaker_within : (n m : ℕ) (rows : List Row) → n ≤ m → All (λ e. (e.from ≤ e.to) × (e.to ≤ n)) rows → All (λ e. (e.from ≤ e.to) × (e.to ≤ m)) rows
weaker_within n m rows le all = All-weaker (λ e. (e.from ≤ e.to) × (e.to ≤ n)) (λ e. (e.from ≤ e.to) × (e.to ≤ m)) (λ e p. (p.0, omega (arith, p.1))) rows all

weaker_name : (n m : ℕ) → n ≤ m → (place : Option ℕ) → IfSome place (λ k. k < n) → IfSome place (λ k. k < m)
weaker_name n m le None h = h
weaker_name n m le (Some k) h = omega (arith, h)

new_name : (names : Names) (new : Option (Vec ℕ Global)) → IfSome (place_of_new names new) (λ k. k < length (names ++ option_to_list new))
new_name names None = tt
new_name names (Some n) = omega (arith, length-append names (n ∷ []))

names_grow : (names : Names) (new : Option (Vec ℕ Global))
    → (length names ≤ length (names ++ option_to_list new)) × (length (names ++ option_to_list new) ≤ length names + 1)
names_grow names None = (omega (arith, length-append names []), omega (arith, length-append names []))
names_grow names (Some n) = (omega (arith, length-append names (n ∷ [])), omega (arith, length-append names (n ∷ [])))

pub kept_more : (ids targets : List ℕ) (names : Names) (rows : List Row) (identifier priority : ℕ) (owner : Player) (more : List ℕ)
    (new : Option (Vec ℕ Global)) → AreKept ids targets names rows
    → list_any (eqb identifier) ids ≡ false → length rows < 1048576 → length targets + length more ≤ 8388608 → priority ≤ 65535 → 0 < length more
    → IsStrictlyIncreasing more
    → AreKept (ids ++ identifier ∷ []) (targets ++ more) (names ++ option_to_list new) (rows ++ new_row targets names identifier priority owner more new ∷ [])
kept_more ids targets names rows identifier priority owner more new kept unknown few fits small some rise =
    let e = new_row targets names identifier priority owner more new in
    let lines = line_more targets names rows identifier priority owner more new kept.ranges kept.named in
    let long : length (targets ++ more) ≡ length targets + length more = length-append targets more in
    let count : length (rows ++ e ∷ []) ≡ length rows + 1 = length-append rows (e ∷ []) in
    let grown = names_grow names new in
    record {
      ranges = All-push (λ (e : Row). (e.from ≤ e.to) × (e.to ≤ length (targets ++ more))) rows e
          (weaker_within (length targets) (length (targets ++ more)) rows (omega arith) kept.ranges) (omega arith, omega arith);
      named = All-push (λ (e : Row). IfSome e.name (λ k. k < length (names ++ option_to_list new))) rows e
          (All-weaker (λ (e : Row). IfSome e.name (λ k. k < length names)) (λ (e : Row). IfSome e.name (λ k. k < length (names ++ option_to_list new)))
          (λ (x : Row) p. weaker_name (length names) (length (names ++ option_to_list new)) (grown.0) (x.name) p) rows kept.named) (new_name names new);
      listed = ap (λ (l : List ℕ). l ++ identifier ∷ []) kept.listed ∙ sym (map-append (λ (e : Row). e.identifier) rows (e ∷ []));
      distinct = IsDistinct-push nat_eq_equiv ids identifier kept.distinct unknown;
      laid = ap (λ (ts : List ℕ). ts ++ more) kept.laid
          ∙ ap (λ (ts : List ℕ). flat_map (λ (line : Line). line.successors) (vertices_in targets names rows) ++ ts) (sym (append-nil more))
          ∙ sym (flat_map-append (λ (line : Line). line.successors) (vertices_in targets names rows) (new_line identifier priority owner more new ∷ []))
          ∙ sym (ap (flat_map (λ (line : Line). line.successors)) lines);
      orderly = subst (All IsOrderly) (sym lines)
          (All-push IsOrderly (vertices_in targets names rows) (new_line identifier priority owner more new) kept.orderly
          (record { priority = small; goes_on = some; rise = rise }));
      few_vertices = omega arith;
      few_edges = omega arith;
      few_names = omega (arith, grown.1, kept.few_names);
    }

no_lines : AreKeptIn [] [] [] [] []
unfolding IsDistinct
no_lines = record {
  as_many = refl;
  few_places = omega arith;
  kept = record {
    ranges = All-nil (λ (e : Row). (e.from ≤ e.to) × (e.to ≤ 0));
    named = All-nil (λ (e : Row). IfSome e.name (λ k. k < 0));
    listed = refl;
    distinct = tt;
    laid = refl;
    orderly = All-nil IsOrderly;
    few_vertices = omega arith;
    few_edges = omega arith;
    few_names = omega arith;
  };
}

pub kept_none : (ids targets : List ℕ) (names : Names) (places : List (Option ℕ)) (entries : List Entry) → ids ≡ [] → targets ≡ [] → names ≡ [] → places ≡ []
    → entries ≡ [] → AreKeptIn ids targets names places entries
kept_none ids targets names places entries i t n p e = rw (i, t, n, p, e) no_lines

-- ---- and of the lists

-- places of names, and those with one more line
pub record IsPlaced (names : Names) (places : List (Option ℕ)) (lines : ℕ) (new : Option (Vec ℕ Global)) (other : List (Option ℕ)) : Type 0 where
  pub same : (v : ℕ) → v < lines → place_at other v ≡ place_at places v
  pub place : place_at other lines ≡ place_of_new names new
  pub few : length other ≤ lines + 1

rows_added : {ids targets : List ℕ} {names : Names} {places : List (Option ℕ)} {entries : List Entry} (other : List (Option ℕ)) (identifier priority : ℕ)
    (owner : Player) (more : List ℕ) (new : Option (Vec ℕ Global)) → AreKeptIn ids targets names places entries
    → IsPlaced names places (length entries) new other
    → rows_in (ids ++ identifier ∷ []) other
    (entries ++ new_entry targets priority owner more ∷ []) ≡ rows_in ids places entries ++ new_row targets names identifier priority owner more new ∷ []
rows_added {ids} {targets} {names} {places} {entries} other identifier priority owner more new kept placed =
    let e = new_entry targets priority owner more in
    let last : place_at other (length ids) ≡ place_of_new names new = ap (place_at other) kept.as_many ∙ placed.place in
    rows_more ids places other entries identifier e kept.as_many (λ v lt. placed.same v (omega (arith, kept.as_many)))
    ∙ ap (λ (p : Option ℕ). rows_in ids places entries ++ row_of identifier p e ∷ []) last

pub lines_added : {ids targets : List ℕ} {names : Names} {places : List (Option ℕ)} {entries : List Entry} (other : List (Option ℕ)) (identifier priority : ℕ)
    (owner : Player) (more : List ℕ) (new : Option (Vec ℕ Global)) → AreKeptIn ids targets names places entries
    → IsPlaced names places (length entries) new other
    → vertices_in (targets ++ more) (names ++ option_to_list new)
    (rows_in (ids ++ identifier ∷ []) other (entries ++ new_entry targets priority owner more ∷ [])) ≡ vertices_in targets names
    (rows_in ids places entries) ++ new_line identifier priority owner more new ∷ []
lines_added {ids} {targets} {names} {places} {entries} other identifier priority owner more new kept placed =
    grind (
      arith,
      nat_tests,
      rows_added other identifier priority owner more new kept placed,
      line_more targets names (rows_in ids places entries) identifier priority owner more new kept.kept.ranges kept.kept.named,
    )

pub kept_added : {ids targets : List ℕ} {names : Names} {places : List (Option ℕ)} {entries : List Entry} (other : List (Option ℕ)) (identifier priority : ℕ)
    (owner : Player) (more : List ℕ) (new : Option (Vec ℕ Global)) → AreKeptIn ids targets names places entries
    → IsPlaced names places (length entries) new other
    → list_any (eqb identifier) ids ≡ false → length entries < 1048576 → length targets + length more ≤ 8388608 → priority ≤ 65535 → 0 < length more
    → IsStrictlyIncreasing more
    → AreKeptIn (ids ++ identifier ∷ []) (targets ++ more) (names ++ option_to_list new) other (entries ++ new_entry targets priority owner more ∷ [])
kept_added {ids} {targets} {names} {places} {entries} other identifier priority owner more new kept placed unknown few fits small some rise =
    let e = new_entry targets priority owner more in
    let ids_long : length (ids ++ identifier ∷ []) ≡ length ids + 1 = length-append ids (identifier ∷ []) in
    let entries_long : length (entries ++ e ∷ []) ≡ length entries + 1 = length-append entries (e ∷ []) in
    let rows_few : length (rows_in ids places entries) < 1048576 = omega (arith, rows_long ids places entries kept.as_many, kept.as_many) in
    record {
      as_many = omega (arith, kept.as_many);
      few_places = omega (arith, placed.few);
      kept = subst (AreKept (ids ++ identifier ∷ []) (targets ++ more) (names ++ option_to_list new))
          (sym (rows_added other identifier priority owner more new kept placed))
          (kept_more ids targets names (rows_in ids places entries) identifier priority owner more new kept.kept unknown rows_few fits small some rise);
    }

-- ---- where a name's place is noted

-- the places of lines without a name
abbrev pub nowhere : ℕ → List (Option ℕ)
nowhere n = replicate n None

-- places, those of lines without a name, and one more
abbrev pub noted : List (Option ℕ) → ℕ → Option ℕ → List (Option ℕ)
noted places line place = (take line places ++ nowhere (line - length places)) ++ place ∷ []

pub noted_by : (places resized after : List (Option ℕ)) (line n : ℕ) (place : Option ℕ) → n ≡ length places → resized ≡ take line places ++ nowhere (line - n)
    → after ≡ resized ++ place ∷ [] → after ≡ noted places line place
noted_by places resized after line n place len made added =
    added ∙ ap (λ (ps : List (Option ℕ)). ps ++ place ∷ []) (made ∙ ap (λ (k : ℕ). take line places ++ nowhere (line - k)) len)

front_long : (places : List (Option ℕ)) (line : ℕ) → length places ≤ line → length (take line places ++ nowhere (line - length places)) ≡ line
front_long places line few = grind (
  arith,
  nat_tests,
  length-append (take line places) (nowhere (line - length places)),
  length-take line places,
  length-replicate {A = Option ℕ} (line - length places) None,
)

pub noted_before : (places : List (Option ℕ)) (line : ℕ) (place : Option ℕ) → length places ≤ line → (v : ℕ) → v < line
    → place_at (noted places line place) v ≡ place_at places v
noted_before places line place few v lt =
    let rest = nowhere (line - length places) in
    let all : take line places ≡ places = take_all line places few in
    get_or-append (take line places ++ rest) (place ∷ []) None v (omega (arith, front_long places line few, lt))
    ∙ ap (λ (ps : List (Option ℕ)). get_or (ps ++ rest) v None) all
    ∙ elim (cases_lt v (length places)) [
      | inl low ↦ get_or-append places rest None v low
      | inr high ↦ get_or-append_right places rest (length places) v None refl high
          ∙ get_or-replicate (line - length places) (v - length places) None None (omega arith)
          ∙ sym (get_or_past places v None high)
    ]
