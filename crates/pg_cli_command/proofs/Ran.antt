-- The maps of the replicas after the events of a script.
use Rattle.pg_cli_command.proofs.Common.{◌≡◌, ◌⊎◌, ℕ, zero, suc, ◌<◌, ◌≤◌, List, [], ◌∷◌, ◌++◌, length, get_or, refl, sym, ap, subst, inl, inr}
use Rattle.pg_cli_command.proofs.Common.{◌∙◌, arith, length-append, All, cases_lt, get_or_append_left, get_or-append_seam, GameVertex, IsGame}
use Rattle.pg_cli_command.proofs.Common.{BoundList, MeasureValue, IsBoundsOf, CutValue, WorldValue, new_world, IsMapOf, Lifts, Steps, IsEventOf}
use Rattle.pg_cli_command.proofs.Common.{Runs, NeverAbove, Event, Lift, Deliver, Restart, CoordinatorLift, AreMapsOf}

-- events don't change the cut
lift_cut : (w new : WorldValue) (r v : ℕ) → Lifts w r v new → new.cut ≡ w.cut
lift_cut w new r v (f, j, inl same) = ap (λ (x : WorldValue). x.cut) same.1
lift_cut w new r v (f, j, inr made) = ap (λ (x : WorldValue). x.cut) made.3

step_cut : (w new : WorldValue) (e : Event) → Steps w e new → new.cut ≡ w.cut
step_cut w new (Lift r v) s = lift_cut w new r v s
step_cut w new (Deliver r n) s = ap (λ (x : WorldValue). x.cut) s
step_cut w new (Restart r) s = ap (λ (x : WorldValue). x.cut) s
step_cut w new (CoordinatorLift v) s = lift_cut w new 0 v s

runs_cut : (w new : WorldValue) (es : List Event) → Runs w es new → new.cut ≡ w.cut
runs_cut w new [] s = ap (λ (x : WorldValue). x.cut) s
runs_cut w new (e ∷ es) s = runs_cut s.0 new es s.3 ∙ step_cut w s.0 e s.2

-- maps of the first n replicas
abbrev HasMaps : WorldValue → ℕ → Type 0
HasMaps w n = (maps : List (List MeasureValue)) × (length maps ≡ n) × ((r : ℕ) → r < n → IsMapOf w r (get_or maps r []))

one_more : (w : WorldValue) (n : ℕ) (maps : List (List MeasureValue)) (f : List MeasureValue) → length maps ≡ n
    → ((r : ℕ) → r < n → IsMapOf w r (get_or maps r [])) → IsMapOf w n f → (r : ℕ) → (r < n) ⊎ (n ≤ r) → r < suc n → IsMapOf w r (get_or (maps ++ f ∷ []) r [])
one_more w n maps f size each last r (inl less) lt =
    subst (λ (g : List MeasureValue). IsMapOf w r g) (sym (get_or_append_left maps (f ∷ []) [] r (omega arith))) (each r less)
one_more w n maps f size each last r (inr more) lt =
    let same : r ≡ length maps = omega arith in
    let here : get_or (maps ++ f ∷ []) r [] ≡ f = ap (λ (k : ℕ). get_or (maps ++ f ∷ []) k []) same ∙ get_or-append_seam maps f [] [] in
    let at : r ≡ n = omega arith in
    subst (λ (g : List MeasureValue). IsMapOf w r g) (sym here) (subst (λ (k : ℕ). IsMapOf w k f) (sym at) last)

has_maps : (w : WorldValue) (n : ℕ) → ((r : ℕ) → r < n → (f : List MeasureValue) × IsMapOf w r f) → HasMaps w n
has_maps w zero each = ([], refl, λ r lt. absurd (omega arith))
has_maps w (suc n) each =
    let before = has_maps w n (λ r lt. each r (omega arith)) in
    let last = each n (omega arith) in
    let maps = before.0 in (
      maps ++ last.0 ∷ [],
      omega (arith, length-append maps (last.0 ∷ []), before.1),
      λ r lt. one_more w n maps last.0 before.1 before.2 last.1 r (cases_lt r n) lt,
    )

-- after events of a script each replica has a map
pub maps_of : NeverAbove → (game : List GameVertex) (bounds : BoundList) (cut : CutValue) (es : List Event) (w : WorldValue)
    → IsGame game → IsBoundsOf game bounds → All (IsEventOf game) es → Runs (new_world game bounds cut) es w
    → (maps : List (List MeasureValue)) × AreMapsOf w maps
maps_of never game bounds cut es w is_game of events runs =
    let same : w.cut ≡ cut = runs_cut (new_world game bounds cut) w es runs in
    let found = has_maps w (suc w.cut.workers) (λ r lt.
    let within : r ≤ cut.workers = subst (λ (c : CutValue). r ≤ c.workers) same (omega arith) in
    let f = never game bounds cut es w r is_game of events within runs in
    (f.0, f.1)) in
    (found.0, record { count = omega (arith, found.1); each = λ r le. found.2 r (omega arith) })
