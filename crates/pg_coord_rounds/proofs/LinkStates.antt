-- What a change of one link, or of the map, leaves of the facts on all.
use Rattle.pg_coord_rounds.proofs.Common.{◌≡◌, ℕ, ◌+◌, ◌<◌, ◌≤◌, List, length, length-set, slice_index_or, set, arith, rules, subst, sym, inl}
use Rattle.pg_coord_rounds.proofs.Common.{inr, get_or-set_same, get_or-set_other, cases_eq, MapValue, MapAtMost, map_transitive, LinkState}
use Rattle.pg_coord_rounds.proofs.Common.{TaskValue, IsInStep, AllInStep}

-- before i one thing holds of each link and its state, and from i on another
abbrev pub Halves : {L : Type 0} → (ℕ → LinkState → L → Type 0) → (ℕ → LinkState → L → Type 0) → ℕ → List LinkState → List L → Type 0
Halves {L} P Q i states links =
    (k : ℕ) (d : L) (e : LinkState) → k < length links
    → (k < i → Q k (slice_index_or states k e) (slice_index_or links k d)) × (i ≤ k → P k (slice_index_or states k e) (slice_index_or links k d))

-- the i-th is done
pub halves_step : {L : Type 0} (P Q : ℕ → LinkState → L → Type 0) (i : ℕ) (states : List LinkState) (links : List L) (state : LinkState) (link : L)
    → length states ≡ length links → i < length links → Halves P Q i states links → Q i state link
    → Halves P Q (i + 1) (set states i state) (set links i link)
halves_step {L} P Q i states links state link same within h q k d e lt =
    let in_states : i < length states = omega arith in
    elim (cases_eq k i) [
      | inl eq ↦
          let R : ℕ → Type 0 = λ n. Q n (slice_index_or (set states i state) n e) (slice_index_or (set links i link) n d) in
          ((λ _. subst R (sym eq) (rw (get_or-set_same states i state e in_states, get_or-set_same links i link d within) q)), λ le. absurd (omega arith))
      | inr ne ↦
          let at : k < length links = search (rules, length-set) in
          rw (get_or-set_other states i k state e ne, get_or-set_other links i k link d ne)
          ((λ l. (h k d e at).0 (omega arith)), λ le. (h k d e at).1 (omega arith))
    ]

-- a link that is in_step for a map is in_step for a greater one
pub in_step_above : {L : Type 0} (under : L → MapValue → Type 0) (t : TaskValue) (f g : MapValue) (state : LinkState) (link : L)
    → MapAtMost f.measures g.measures → IsInStep under t f state link → IsInStep under t g state link
in_step_above under t f g state link le s = λ used h c a. s used h c (map_transitive f.measures g.measures h.measures le a)

pub all_in_step_above : {L : Type 0} (under : L → MapValue → Type 0) (t : TaskValue) (f g : MapValue) (states : List LinkState) (links : List L)
    → MapAtMost f.measures g.measures → AllInStep under t f states links → AllInStep under t g states links
all_in_step_above under t f g states links le s = λ k d x lt. in_step_above under t f g (slice_index_or states k x) (slice_index_or links k d) le (s k d x lt)

pub AllInStep-set : {L : Type 0} (under : L → MapValue → Type 0) (t : TaskValue) (map : MapValue) (states : List LinkState)
    (links : List L) (i : ℕ) (state : LinkState) (link : L)
    → length states ≡ length links → i < length links → IsInStep under t map state link → AllInStep under t map states links
    → AllInStep under t map (set states i state) (set links i link)
AllInStep-set {L} under t map states links i state link same within at rest k d e lt =
    let in_links : k < length links = search (rules, length-set) in
    let in_states : i < length states = omega arith in
    elim (cases_eq k i) [
      | inl eq ↦
          let P : ℕ → Type 0 = λ n. IsInStep under t map (slice_index_or (set states i state) n e) (slice_index_or (set links i link) n d) in
          subst P (sym eq) (rw (get_or-set_same states i state e in_states, get_or-set_same links i link d within) at)
      | inr ne ↦ rw (get_or-set_other states i k state e ne, get_or-set_other links i k link d ne) (rest k d e in_links)
    ]
