-- What is known of a side from a closed map of the other is at most every closed map.
use Rattle.pg_solver.proofs.Common.{◌≡◌, ◌∙◌, ℕ, ◌<◌, true, false, inl, inr, None, List, length, refl, ap, sym, subst, All, Bool, ◌⊎◌}
use Rattle.pg_solver.proofs.Common.{Option, slice_index_or, if◌then◌else◌, IsSome, cases_lt, get_or_past, length-map, get_or-map, BoundList}
use Rattle.pg_solver.proofs.Common.{MeasureValue, AtMost, zeros, zero_least, GameVertex, IsGame, dual, Line, AreWithin, AreDual, line_at}
use Rattle.pg_solver.proofs.Common.{game_line, GameLines, GameLinesAreDual, dual_held, held_dual, dual_at, measure_at, IsClosed}
use Rattle.pg_solver.proofs.Common.{IsNeverAbove, fits_at, at_most_top, known_map, IsKnownFrom, AreKnownFrom, AreOpposite}
use Rattle.pg_solver.proofs.Settled.{top, dual_top}

module _ (bs : BoundList) (lines : ℕ → Option Line) (known : List Bool) (g : List MeasureValue) (is : AreKnownFrom g known)
    (tops : (h : List MeasureValue) → IsClosed bs lines h → (v : ℕ) → v < length known → IsSome (measure_at g v) → measure_at h v ≡ None) where
  known_at : (v : ℕ) → v < length known
      → measure_at (known_map bs known) v ≡ (if slice_index_or known v false then None else zeros bs)
  known_at v lt = get_or-map (λ t. if t then None else zeros bs) known v false None lt

  pub known_never_above : IsNeverAbove bs lines (known_map bs known)
  known_never_above h at closed v = elim (cases_lt v (length known)) [
    | inl lt ↦ subst (λ m. AtMost m (measure_at h v)) (sym (known_at v lt)) (here lt (slice_index_or known v false) (is.each v lt))
    | inr le ↦ rw (get_or_past h v None (rw (at.size, length-map known (λ t. if t then None else zeros bs)) le)) (at_most_top _)
  ]
    where
      here : v < length known → (t : Bool) → IsKnownFrom g t v → AtMost (if t then None else zeros bs) (measure_at h v)
      here lt false k = zero_least bs (measure_at h v) (fits_at bs h v at.fits)
      here lt true k = rw (tops h closed v lt (k refl)) (at_most_top None)

-- the lines of the dual lead to the same vertices
same_successors : (lines other : ℕ → Option Line) (v : ℕ) → AreDual lines other → IsSome (lines v)
    → (line_at other v).successors ≡ (line_at lines v).successors
same_successors lines other v dual held = ap (λ (l : Line). l.successors) (dual_at lines other v dual held)

dual_within : (lines other : ℕ → Option Line) (n : ℕ) → AreDual lines other → AreWithin n lines → AreWithin n other
dual_within lines other n dual w = record {
  numbers = λ v h. w.numbers v (held_dual lines other v dual h);
  successors = λ v h.
      let held = held_dual lines other v dual h in
      subst (λ (ws : List ℕ). All (λ u. u < n) ws) (sym (same_successors lines other v dual held)) (w.successors v held);
  nonempty = λ v h.
      let held = held_dual lines other v dual h in
      subst (λ (ws : List ℕ). 0 < length ws) (sym (same_successors lines other v dual held)) (w.nonempty v held);
}

-- where a closed map of the other side has a list each closed map has top
tops : (bs other_bounds : BoundList) (lines other : ℕ → Option Line) (n : ℕ) (g : List MeasureValue) → AreOpposite n lines other
    → IsClosed other_bounds other g → (h : List MeasureValue) → IsClosed bs lines h → (v : ℕ) → v < n → IsSome (measure_at g v)
    → measure_at h v ≡ None
tops bs other_bounds lines other n g opposite other_closed h closed v lt list = by opposite.dual
  where
    by : AreDual lines other ⊎ AreDual other lines → measure_at h v ≡ None
    by (inl dual) = top bs other_bounds lines other n h g dual opposite.within (λ u less. (opposite.held u less).0) closed other_closed v lt list
    by (inr dual) = dual_top other_bounds bs other lines n g h dual opposite.other_within (λ u less. (opposite.held u less).1) other_closed closed v lt list

pub known_beside : (bs other_bounds : BoundList) (lines other : ℕ → Option Line) (n : ℕ) (g : List MeasureValue) (known : List Bool)
    → AreOpposite n lines other → IsClosed other_bounds other g → length g ≡ n → AreKnownFrom g known → IsNeverAbove bs lines (known_map bs known)
known_beside bs other_bounds lines other n g known opposite other_closed size is =
    known_never_above bs lines known g is
    (λ h closed v lt. tops bs other_bounds lines other n g opposite other_closed h closed v (subst (λ k. v < k) (is.size ∙ size) lt))

-- a game and its dual
pub game_opposite : (game : List GameVertex) (n : ℕ) → IsGame game → GameLines → GameLinesAreDual → n ≡ length game
    → AreOpposite n (game_line game) (game_line (dual game))
game_opposite game n is lines are_dual size =
    let of_game = lines game is in
    let dual_lines = are_dual game in
    let all : (v : ℕ) → v < n → IsSome (game_line game v) = λ v lt. of_game.1 v (subst (λ k. v < k) size lt) in
    let within = subst (λ k. AreWithin k (game_line game)) (sym size) of_game.0 in
    record {
      within = within;
      other_within = dual_within (game_line game) (game_line (dual game)) n dual_lines within;
      held = λ v lt. (all v lt, dual_held (game_line game) (game_line (dual game)) v dual_lines (all v lt));
      dual = inl dual_lines;
    }

pub opposite_back : (n : ℕ) (lines other : ℕ → Option Line) → AreOpposite n lines other → AreOpposite n other lines
opposite_back n lines other o = record {
  within = o.other_within;
  other_within = o.within;
  held = λ v lt. ((o.held v lt).1, (o.held v lt).0);
  dual = turned o.dual;
}
  where
    turned : AreDual lines other ⊎ AreDual other lines → AreDual other lines ⊎ AreDual lines other
    turned (inl d) = inr d
    turned (inr d) = inl d
