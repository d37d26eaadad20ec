-- What rounds leave, and what holds at the end.
use Rattle.pg_coord_rounds.proofs.Common.{◌≡◌, ℕ, ◌*◌, List, length, Option, Some, None, refl, ap, ◌∙◌, arith, length-replicate, ◌+◌, ◌≤◌, IfSome}
use Rattle.pg_coord_rounds.proofs.Common.{GameVertex, BoundList, MeasureValue, zeros, game_line, MapValue, MapAtMost, IsMap, IsClosed}
use Rattle.pg_coord_rounds.proofs.Common.{IsNeverAbove, IsLeastProgressMeasure, StaysUnder, zero_map, map_reflexive, map_transitive, list_count}
use Rattle.pg_coord_rounds.proofs.Common.{map_weight, zero_map_least, zero_map_weight, Reply, IsLeastOverReplies, Solved, most_rounds}
use Rattle.pg_coord_rounds.proofs.Common.{IsFoundFrom, Closes, Ends, IsSolvedFrom, TaskValue, IsClosedMap}

pub zero_size : (f : List MeasureValue) (bs : BoundList) (n : ℕ) → f ≡ zero_map bs n → length f ≡ n
zero_size f bs n is = ap length is ∙ length-replicate n (zeros bs)

pub zero_under : (f : MapValue) (n : ℕ) (game : List GameVertex) → f.measures ≡ zero_map f.bounds n → IsNeverAbove f.bounds (game_line game) f.measures
zero_under f n game is h at closed = rw is (zero_map_least f.bounds n h (rw (zero_size f.measures f.bounds n is) at at))

pub zero_weight : (f : MapValue) (n : ℕ) → f.measures ≡ zero_map f.bounds n → map_weight f.bounds f.measures ≡ n * list_count f.bounds
zero_weight f n is = rw is (zero_map_weight f.bounds n)

-- lifts stay under each closed map of the game
pub lifts_under : (t : TaskValue) (f g h : MapValue) → f.bounds ≡ t.bounds → length f.measures ≡ length t.game
    → StaysUnder f.bounds (game_line t.game) f.measures g.measures → IsClosedMap t h → MapAtMost f.measures h.measures
    → MapAtMost g.measures h.measures
lifts_under t f g h bounds size under closed le =
    under h.measures (rw (bounds, size) closed.map) (rw bounds closed.closed) le

-- a map over the same bounds and vertices that is closed
pub closed_map : (t : TaskValue) (f : MapValue) (h : List MeasureValue) → f.bounds ≡ t.bounds → length f.measures ≡ length t.game
    → IsMap f.bounds (length f.measures) h → IsClosed f.bounds (game_line t.game) h
    → IsClosedMap t (record { bounds = t.bounds; measures = h })
closed_map t f h bounds size is closed = record { bounds = refl; map = rw (bounds, size) at is; closed = rw bounds at closed }

-- ---- maps that are found from others

pub found_none : (A : Type 0) (game : List GameVertex) (f : MapValue) → IsMap f.bounds (length game) f.measures → IsFoundFrom A game f f
found_none A game f is = record { bounds = refl; map = is; above = map_reflexive f.measures; least = λ a h at closed le. le }

pub found_more : (A B : Type 0) (game : List GameVertex) (f g h : MapValue) → length f.measures ≡ length game → (A → B)
    → IsFoundFrom A game f g → IsFoundFrom B game g h → IsFoundFrom A game f h
found_more A B game f g h size also a b = record {
  bounds = b.bounds ∙ a.bounds;
  map = b.map;
  above = map_transitive f.measures g.measures h.measures a.above b.above;
  least = λ x m is closed le.
      b.least (also x) m (rw (a.bounds, a.map.size) (rw size at is)) (rw a.bounds closed) (a.least x m is closed le);
}

-- what is at most every closed map of those that are at least a map that is so
pub least_from : (A : Type 0) (game : List GameVertex) (f g : MapValue) → IsFoundFrom A game f g → length f.measures ≡ length game → A
    → IsNeverAbove f.bounds (game_line game) f.measures → IsNeverAbove g.bounds (game_line game) g.measures
least_from A game f g found size a first h is closed =
    let at : IsMap f.bounds (length f.measures) h = rw size (rw (found.bounds, found.map.size) at is) in
    let served : IsClosed f.bounds (game_line game) h = rw found.bounds at closed in
    found.least a h at served (first h at served)

-- ---- how rounds end

closes_weaker : (game : List GameVertex) (S T : (ℕ → List Reply) → Type 0) (links links' : ℕ) (f g : MapValue) (rounds : Option ℕ)
    → ((replies : ℕ → List Reply) → S replies → T replies) → links' ≡ links → IfSome rounds (Closes game T links' f g) → IfSome rounds (Closes game S links f g)
closes_weaker game S T links links' f g None also same c = tt
closes_weaker game S T links links' f g (Some n) also same c =
    record { closed = c.closed; rounds = c.rounds; told = λ replies tell first. rw same at (c.told replies (also replies tell) first) }

-- rounds end the same if what is known of the links follows from something else
pub ends_weaker : (game : List GameVertex) (A B : Type 0) (S T : (ℕ → List Reply) → Type 0) (links links' most : ℕ) (f g : MapValue) (rounds : Option ℕ)
    → (A → B) → ((replies : ℕ → List Reply) → S replies → T replies) → links' ≡ links → Ends game B T links' most f g rounds
    → Ends game A S links most f g rounds
ends_weaker game A B S T links links' most f g rounds honest also same e = record {
  found = record { bounds = e.found.bounds; map = e.found.map; above = e.found.above; least = λ x. e.found.least (honest x) };
  closes = closes_weaker game S T links links' f g rounds also same e.closes;
  limited = e.limited;
}

-- rounds that weren't given up found the map
pub solved_from : (game : List GameVertex) (A : Type 0) (tell : (ℕ → List Reply) → Type 0) (links limit : ℕ) (from : MapValue) (rounds : Option ℕ)
    (count : ℕ) (solved : Solved) → rounds ≡ Some count → solved.rounds ≡ count → Ends game A tell links limit from solved.map rounds
    → IsSolvedFrom game A tell links from solved
solved_from game A tell links limit from rounds count solved is same ends = record {
  found = ends.found;
  closes = rw same (rw is at ends.closes);
}

-- ---- what was solved from zeros

pub some_weaker : {A : Type 0} (o : Option A) (P Q : A → Type 0) → ((x : A) → P x → Q x) → IfSome o P → IfSome o Q
some_weaker None P Q h p = tt
some_weaker (Some x) P Q h p = h x p

module _ (game : List GameVertex) (A : Type 0) (T : (ℕ → List Reply) → Type 0) (links : ℕ) (zero : MapValue)
    (zeros : zero.measures ≡ zero_map zero.bounds (length game)) (s : Solved) (solved : IsSolvedFrom game A T links zero s) where
  pub solved_rounds : (1 ≤ s.rounds) × (s.rounds + map_weight s.map.bounds s.map.measures ≤ most_rounds (length game) s.map.bounds)
  solved_rounds =
      let found = solved.found in
      let rounds = solved.closes.rounds in
      (rounds.0, rw found.bounds (omega (arith, rw found.bounds at rounds.1, zero_weight zero (length game) zeros)))

  pub solved_least : A → IsLeastProgressMeasure s.map.bounds (length game) (game_line game) s.map.measures
  solved_least honest = record {
    map = solved.found.map;
    closed = solved.closes.closed;
    least = least_from A game zero s.map solved.found (zero_size zero.measures zero.bounds (length game) zeros) honest
        (zero_under zero (length game) game zeros);
  }

  pub solved_told : (replies : ℕ → List Reply) → T replies → IsLeastOverReplies (game_line game) s.rounds links replies s.map
  solved_told replies tell = solved.closes.told replies tell (zero_under zero (length game) game zeros)
