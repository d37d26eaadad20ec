-- Arrays that spell a game: the builder takes each of its vertices as a line, and the game of these lines is the game.
use Rattle.std.proofs.Common.{◌≡◌, ℕ, zero, suc, ◌+◌, ◌-◌, ◌<◌, ◌≤◌, false, eqb, List, [], ◌∷◌, ◌++◌, length, map, get_or, drop, Option}
use Rattle.std.proofs.Common.{None, Result, Ok, Err, refl, sym, ap, subst, ◌∙◌, ◌||◌, arith, All}
use Rattle.std.specs.Prelude.{slice_index, IfOk, IfErr, MatchResult}
use Rattle.std.specs.List.{range_with_len}
use Rattle.std.specs.List.Sorted.{IsStrictlyIncreasing, IsPermutation}
use Rattle.std.proofs.lemmas.Bool.Decides.{nat_tests}
use Rattle.std.proofs.lemmas.List.{length-take, length-drop}
use Rattle.std.proofs.lemmas.List.Elements.{All-map, All-head, All-tail}
use Rattle.std.proofs.lemmas.List.FromFn.{length-range_with_len, get_or-range_with_len, length-map-range_with_len}
use Rattle.std.proofs.lemmas.List.FromFn.{map-range_with_len_more, sum_by-map-range_with_len_more}
use Rattle.std.proofs.lemmas.List.Sorted.{IsPermutation-refl}
use Rattle.pg_arena.specs.Games.{GameVertex, IsGame, identifier, identifiers, edge_count}
use Rattle.pg_arena.specs.declared.player.Player.{Player}
use Rattle.pg_arena.specs.declared.fault.ArenaFault.{ArenaFault}
use Rattle.pg_arena.specs.declared.fault.ArenaFault.TheVariants.{OutOfMemory}
use Rattle.pg_arena.specs.Lines.{line_of, line_with, counted, is_named, add_fault, Answers, IsGameOf}
use Rattle.pg_arena.proofs.Finishing.{IsSound, game_from_sound, identifier_is}
use Rattle.pg_arena.proofs.Members.{has_none}
use Rattle.pg_list_lemmas.specs.Rising.{put, rising}
use Rattle.pg_list_lemmas.proofs.Rising.{has, rising_rises, rising_length, rising_below}
use Rattle.parsolve_c_csr.specs.Games.{GameArrays, player_of, row, vertex_of, game_of, IsRow, SpellsGame}

-- ---- a row and its rising list

row_length : (a : GameArrays) (v : ℕ) → IsRow a v → length (row a v) ≡ slice_index a.starts (v + 1) - slice_index a.starts v
row_length a v is =
    let from : ℕ = slice_index a.starts v in
    let to : ℕ = slice_index a.starts (v + 1) in
    omega (arith, length-take (to - from) (drop from a.successors), length-drop from a.successors, is.place.within, is.place.some)

put_at_most : (n : ℕ) (ms : List ℕ) → length (put n ms) ≤ length ms + 1
put_at_most n [] = omega arith
put_at_most n (m ∷ ms) = grind (arith, nat_tests, put_at_most n ms)

rising_at_most : (ns : List ℕ) → length (rising ns) ≤ length ns
rising_at_most [] = omega arith
rising_at_most (n ∷ ns) = omega (arith, put_at_most n (rising ns), rising_at_most ns)

sound : (a : GameArrays) (v : ℕ) → IsRow a v → IsSound (length a.priorities) (vertex_of a v)
sound a v is = record {
  goes_on = rising_length (row a v) (omega (arith, row_length a v is, is.place.some));
  rise = rising_rises (row a v);
  within = rising_below (length a.priorities) (row a v) is.vertices;
}

-- ---- the vertices

-- the first n
abbrev pub vertices_to : GameArrays → ℕ → List GameVertex
vertices_to a n = map (vertex_of a) (range_with_len 0 n)

listed : (a : GameArrays) (from n : ℕ) → identifiers (map (vertex_of a) (range_with_len from n)) ≡ range_with_len from n
listed a from zero = refl
listed a from (suc n) = ap (λ (ns : List ℕ). from ∷ ns) (listed a (from + 1) n)

range_rises : (n : ℕ) → IsStrictlyIncreasing (range_with_len 0 n)
range_rises n = λ k lt.
    let long = length-range_with_len 0 n in
    omega (arith, get_or-range_with_len 0 n k 0 (omega arith), get_or-range_with_len 0 n (k + 1) 0 (omega arith))

each_in_range : (P : ℕ → Type 0) (n : ℕ) → ((v : ℕ) → v < n → P v) → All P (range_with_len 0 n)
each_in_range P n h k d lt =
    let below : k < n = omega (arith, length-range_with_len 0 n) in
    let here : get_or (range_with_len 0 n) k d ≡ k = omega (arith, get_or-range_with_len 0 n k d below) in
    subst P (sym here) (h k below)

pub game_of_is_game : (a : GameArrays) → SpellsGame a → IsGame (game_of a)
game_of_is_game a is =
    let n : ℕ = length a.priorities in
    let long : length (game_of a) ≡ n = length-map-range_with_len (vertex_of a) 0 n in
    game_from_sound (game_of a) (omega (arith, is.sizes.some)) (subst IsStrictlyIncreasing (sym (listed a 0 n)) (range_rises n))
    (subst (λ (m : ℕ). All (IsSound m) (game_of a)) (sym long)
    (All-map (IsSound n) (vertex_of a) (range_with_len 0 n)
    (each_in_range (λ v. IsSound n (vertex_of a v)) n (λ v lt. sound a v (is.rows v lt)))))

-- ---- they are their own lines

same_map : (f : ℕ → ℕ) (xs : List ℕ) → All (λ x. f x ≡ x) xs → map f xs ≡ xs
same_map f [] h = refl
same_map f (x ∷ xs) h = rw (All-head (λ x. f x ≡ x) x xs h, same_map f xs (All-tail (λ x. f x ≡ x) x xs h)) refl

own_identifier : (a : GameArrays) (w : ℕ) → w < length a.priorities → identifier (game_of a) w ≡ w
own_identifier a w lt =
    let n : ℕ = length a.priorities in
    identifier_is (game_of a) w ∙ ap (λ (ns : List ℕ). slice_index ns w) (listed a 0 n)
    ∙ (let e : get_or (range_with_len 0 n) w 0 ≡ w = omega (arith, get_or-range_with_len 0 n w 0 lt) in e)

own_line : (a : GameArrays) (v : ℕ) → IsRow a v → line_of (game_of a) (vertex_of a v) ≡ vertex_of a v
own_line a v is =
    let below = rising_below (length a.priorities) (row a v) is.vertices in
    let same = same_map (identifier (game_of a)) (rising (row a v))
    (λ k d lt. own_identifier a (get_or (rising (row a v)) k d) (below k d lt)) in
    ap (λ (s : List ℕ). let x : GameVertex = record (vertex_of a v) { successors = s } in x) same

own_lines : (a : GameArrays) (ns : List ℕ) → All (IsRow a) ns → map (line_of (game_of a)) (map (vertex_of a) ns) ≡ map (vertex_of a) ns
own_lines a [] h = refl
own_lines a (n ∷ ns) h = rw (own_line a n (All-head (IsRow a) n ns h), own_lines a ns (All-tail (IsRow a) n ns h)) refl

pub game_of_its_lines : (a : GameArrays) → SpellsGame a → IsGameOf (game_of a) (game_of a)
game_of_its_lines a is =
    let n : ℕ = length a.priorities in
    record {
      well = game_of_is_game a is;
      same = subst (IsPermutation (game_of a)) (sym (own_lines a (range_with_len 0 n) (each_in_range (IsRow a) n is.rows)))
          (IsPermutation-refl (game_of a));
    }

-- ---- no reason against a line

named_is : (a : GameArrays) (ns : List ℕ) (q : ℕ) → is_named (map (vertex_of a) ns) q ≡ has q ns
named_is a [] q = refl
named_is a (n ∷ ns) q = ap (λ b. eqb q n || b) (named_is a ns q)

is_new : (v : ℕ) → has v (range_with_len 0 v) ≡ false
is_new v = has_none v (range_with_len 0 v) (λ k lt e.
    omega (arith, length-range_with_len 0 v, get_or-range_with_len 0 v k 0 (omega (arith, length-range_with_len 0 v))))

edges_to : (a : GameArrays) (n : ℕ) → ((v : ℕ) → v < n → IsRow a v)
    → edge_count (vertices_to a n) + slice_index a.starts 0 ≤ slice_index a.starts n
edges_to a zero h = omega arith
edges_to a (suc n) h =
    let more : edge_count (vertices_to a (n + 1)) ≡ edge_count (vertices_to a n) + length (rising (row a n)) =
    sum_by-map-range_with_len_more (λ (x : GameVertex). length x.successors) (vertex_of a) 0 n n (omega arith) in
    let before = edges_to a n (λ v lt. h v (omega arith)) in
    let here = h n (omega arith) in
    let all : edge_count (vertices_to a (n + 1)) + slice_index a.starts 0 ≤ slice_index a.starts (n + 1) =
    omega (arith, more, before, row_length a n here, rising_at_most (row a n), here.place.some) in
    subst (λ (m : ℕ). edge_count (vertices_to a m) + slice_index a.starts 0 ≤ slice_index a.starts m) (omega arith) all

pub may_follow : (a : GameArrays) (v : ℕ) → SpellsGame a → v < length a.priorities → add_fault (vertices_to a v) (vertex_of a v) ≡ None
may_follow a v is lt =
    let here = is.rows v lt in
    let edges = edges_to a v (λ u low. is.rows u (omega arith)) in
    grind (
      arith,
      nat_tests,
      here.player.priority,
      here.place.some,
      here.place.within,
      is.sizes.few_vertices,
      is.sizes.few_edges,
      rising_length (row a v) (omega (arith, row_length a v here, here.place.some)),
      rising_at_most (row a v),
      row_length a v here,
      named_is a (range_with_len 0 v) v ∙ is_new v,
      length-map-range_with_len (vertex_of a) 0 v,
      edges,
    )

-- then only memory can be refused
pub memory_only : {T : Type 0} (r : Result T ArenaFault) (reason : Option ArenaFault) → reason ≡ None → Answers r reason
    → IfErr r (λ fault. fault ≡ OutOfMemory)
memory_only (Ok x) reason e h = tt
memory_only (Err OutOfMemory) reason e h = refl
memory_only (Err _) reason e h = absurd (let w = sym h ∙ e in cc w)

pub line_is : (a : GameArrays) (v priority : ℕ) (owner : Player) (successors : List ℕ) → priority ≡ slice_index a.priorities v
    → owner ≡ player_of (slice_index a.owners v) → successors ≡ row a v
    → counted (line_with v priority owner successors None) ≡ vertex_of a v
line_is a v priority owner successors p o s = rw (p, o, s) refl

pub ok_of : {T E : Type 0} (P : T → Type 0) (Q : E → Type 0) (r : Result T E) → MatchResult r P Q → IfOk r P
ok_of P Q (Ok x) h = h
ok_of P Q (Err e) h = tt

pub err_of : {T E : Type 0} (P : T → Type 0) (Q : E → Type 0) (r : Result T E) → MatchResult r P Q → IfErr r Q
err_of P Q (Ok x) h = tt
err_of P Q (Err e) h = h

pub finished : (a : GameArrays) (lines : List GameVertex) (r : Result (List GameVertex) ArenaFault) → SpellsGame a → lines ≡ game_of a
    → ((game : List GameVertex) → IsGameOf lines game → MatchResult r (λ g. g ≡ game) (λ e. e ≡ OutOfMemory))
    → MatchResult r (λ g. g ≡ game_of a) (λ e. e ≡ OutOfMemory)
finished a lines r is e h = h (game_of a) (subst (λ (ls : List GameVertex). IsGameOf ls (game_of a)) (sym e) (game_of_its_lines a is))

pub one_more : (a : GameArrays) (lines others : List GameVertex) (v : ℕ) → lines ≡ vertices_to a v → others ≡ lines ++ vertex_of a v ∷ []
    → others ≡ vertices_to a (v + 1)
one_more a lines others v e h =
    h ∙ ap (λ (ls : List GameVertex). ls ++ vertex_of a v ∷ []) e ∙ sym (map-range_with_len_more (vertex_of a) 0 v v (omega arith))

pub all_lines : (a : GameArrays) (lines : List GameVertex) (v : ℕ) → lines ≡ vertices_to a v → v ≤ length a.priorities
    → length a.priorities ≤ v
    → lines ≡ game_of a
all_lines a lines v h low high =
    let end : v ≡ length a.priorities = omega arith in
    h ∙ ap (vertices_to a) end
