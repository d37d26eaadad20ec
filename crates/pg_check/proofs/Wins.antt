-- A play whose finite parts keep the count isn't lost; in a sound solution each play that follows
-- it is such a play; and two sound solutions have the same winners.
use Rattle.pg_check.proofs.Common.{◌≡◌, ℕ, zero, suc, ◌+◌, ◌-◌, ◌<◌, ◌≤◌, ◌⊎◌, inl, inr, Bool, true, false, cond, eqb, List, [], ◌∷◌}
use Rattle.pg_check.proofs.Common.{length, map, arith, sym, subst, refl, ap, ◌∙◌, add-one, count_by, All, Contains, eqb-true, eq-eqb}
use Rattle.pg_check.proofs.Common.{append-nil, All-nil, All-cons, All-map, Player, Even, Odd, GameVertex, IsGame, IsPath, HasParityOf}
use Rattle.pg_check.proofs.Common.{opponent, priority, owner, IsPlay, Recurs, Loses, WinsPlay, stretch, Answer, winner, IsSolution, Counts}
use Rattle.pg_check.proofs.Common.{IsSound, IsSafe, KeepsCount, Wins, KeepsToSolution, priority_bound}
use Rattle.pg_check.proofs.Recurring.{one_loser}
use Rattle.pg_check.proofs.Cycles.{count-cons, edge_from, safe_from_sound}

pub all_stretch : (P : ℕ → Type 0) (play : ℕ → ℕ) (from count : ℕ) → ((s : ℕ) → from ≤ s → P (play s)) → All P (stretch play from count)
all_stretch P play from zero h = All-nil P
all_stretch P play from (suc count) h =
    All-cons P (play from) (stretch play (from + 1) count) (h from (omega arith))
    (all_stretch P play (from + 1) count (λ s le. h s (omega arith)))

pub stretch_path : (Step : ℕ → ℕ → Type 0) (play : ℕ → ℕ) → IsPlay Step play → (from count : ℕ)
    → IsPath Step (play from) (stretch play (from + 1) count)
stretch_path Step play h from zero = tt
stretch_path Step play h from (suc count) = (h from, stretch_path Step play h (from + 1) count)

-- a longer stretch that begins earlier meets at least as much
more_met : (test : ℕ → Bool) (play : ℕ → ℕ) (from gap later count whole : ℕ) → later ≡ from + gap → whole ≡ gap + count
    → count_by test (stretch play later count) ≤ count_by test (stretch play from whole)
more_met test play from zero later count whole e f =
    let e' : later ≡ from = omega arith in
    let f' : whole ≡ count = omega arith in
    rw (e', f') (omega arith)
more_met test play from (suc gap) later count zero e f = absurd (omega arith)
more_met test play from (suc gap) later count (suc whole) e f =
    let le = more_met test play (from + 1) gap later count whole (omega arith) (omega arith) in
    rw (count-cons test (play from) (stretch play (from + 1) whole)) (omega (arith, le))

occurs_from_count : (f : ℕ → ℕ) (p : ℕ) (xs : List ℕ) → 1 ≤ count_by (λ x. eqb (f x) p) xs → Contains (map f xs) p
occurs_from_count f p [] h = absurd (omega arith)
occurs_from_count f p (x ∷ xs) h = go (occurs_from_count f p xs) (eqb (f x) p) refl
  where
    go : (1 ≤ count_by (λ y. eqb (f y) p) xs → Contains (map f xs) p) → (t : Bool) → eqb (f x) p ≡ t → Contains (map f (x ∷ xs)) p
    go later true e = (0, omega arith, eqb-true (f x) p e)
    go later false e =
        let k : 1 ≤ cond (eqb (f x) p) 1 0 + count_by (λ y. eqb (f y) p) xs =
        rw (count-cons (λ y. eqb (f y) p) x xs) at h in
        let k' : 1 ≤ 0 + count_by (λ y. eqb (f y) p) xs = rw e at k in
        let c = later (omega (arith, k')) in
        (suc c.0, omega (arith, c.1), c.2)

-- a recurring priority is met again and again
met_again : (met : ℕ → ℕ) (p t : ℕ) → Recurs met p → ¬ ¬ ((s : ℕ) × (t ≤ s) × (met s ≡ p))
met_again met p t recurs none = recurs (t, λ s le e. none (s, le, e))

met_often : (f : ℕ → ℕ) (play : ℕ → ℕ) (p k t : ℕ) → Recurs (λ s. f (play s)) p
    → ¬ ¬ ((count : ℕ) × (k ≤ count_by (λ v. eqb (f v) p) (stretch play t count)))
met_often f play p zero t recurs none = none (0, omega arith)
met_often f play p (suc k) t recurs none =
    met_again (λ s. f (play s)) p t recurs (λ a.
    met_often f play p k (a.0 + 1) recurs (λ b.
    let more = more_met (λ v. eqb (f v) p) play t (a.0 - t) a.0 (suc b.0) ((a.0 - t) + suc b.0) (let le : t ≤ a.0 = a.1 in omega arith) refl in
    let here : count_by (λ v. eqb (f v) p) (stretch play a.0 (suc b.0)) ≡ suc (count_by (λ v. eqb (f v) p) (stretch play (a.0 + 1) b.0)) =
    rw (count-cons (λ v. eqb (f v) p) (play a.0) (stretch play (a.0 + 1) b.0)) (rw (eq-eqb (f (play a.0)) p a.2) (omega arith)) in
    none ((a.0 - t) + suc b.0, omega (arith, more, here, b.1))))

-- a play whose finite parts keep the count isn't lost
pub not_lost : (game : List GameVertex) (player : Player) (play : ℕ → ℕ)
    → ((from count : ℕ) → KeepsCount game player (stretch play from count))
    → WinsPlay player (λ t. priority game (play t))
not_lost game player play keeps lost =
    let p = lost.0 in
    let t = lost.1.bounds.0 in
    met_often (priority game) play p (suc (length game)) t lost.1.recurs (λ c.
    let part = stretch play t c.0 in
    let few = keeps t c.0 p
    (record {
      occurs = occurs_from_count (priority game) p part (omega (arith, c.1));
      above_all = All-map (λ q. q ≤ p) (priority game) part
          (all_stretch (λ v. priority game v ≤ p) play t c.0 lost.1.bounds.1);
    }) lost.2 in
    omega (arith, few, c.1))

-- what steps keep holds all along a play
pub play_keeps : (Step : ℕ → ℕ → Type 0) (P : ℕ → Type 0) (play : ℕ → ℕ) → ((v w : ℕ) → P v → Step v w → P w)
    → IsPlay Step play → P (play 0) → (t : ℕ) → P (play t)
play_keeps Step P play keeps h start zero = start
play_keeps Step P play keeps h start (suc t) =
    subst (λ s. P (play s)) (add-one t) (keeps (play t) (play (t + 1)) (play_keeps Step P play keeps h start t) (h t))

pub keeps_to : (game : List GameVertex) (solution : List Answer) → IsGame game → IsSound game solution
    → (play : ℕ → ℕ) → IsPlay (Counts game solution) play → KeepsToSolution game solution play
keeps_to game solution is_game sound play h = record { stays = stays; counts = counts }
  where
    stays : (t : ℕ) → winner solution (play t) ≡ winner solution (play 0)
    stays = play_keeps (Counts game solution) (λ v. winner solution v ≡ winner solution (play 0)) play
        (λ v w e s. (safe_from_sound game solution sound).none_leaves v w s ∙ e) h refl

    below : (t : ℕ) → play t < length game
    below t = edge_from game (play t) (play (t + 1)) (h t).0

    counts : (from count : ℕ) → KeepsCount game (winner solution (play 0)) (stretch play from count)
    counts from zero p greatest parity = omega arith
    counts from (suc count) p greatest parity =
        let part = stretch play from (suc count) in
        (sound (play from) (stretch play (from + 1) count) (below from) (stretch_path (Counts game solution) play h from count)).counts
        [] part [] (sym (append-nil part)) p greatest (subst (λ w. HasParityOf (opponent w) p) (sym (stays from)) parity)

pub wins : (game : List GameVertex) (solution : List Answer) → IsGame game → IsSound game solution
    → (v : ℕ) → Wins game solution v
wins game solution is_game sound v play e h =
    let k = keeps_to game solution is_game sound play h in (
      λ t. k.stays t ∙ ap (winner solution) e,
      subst (λ w. WinsPlay (winner solution w) (λ t. priority game (play t))) e
          (not_lost game (winner solution (play 0)) play k.counts),
    )

-- two sound solutions

pub opponent_twice : (a : Player) → opponent (opponent a) ≡ a
opponent_twice Even = refl
opponent_twice Odd = refl

pub player_cases : (a b : Player) → (a ≡ b) ⊎ (a ≡ opponent b)
player_cases Even Even = inl refl
player_cases Even Odd = inr refl
player_cases Odd Even = inr refl
player_cases Odd Odd = inl refl

-- a vertex on which the two solutions disagree
pub record Disputed (game : List GameVertex) (first second : List Answer) (one : Player) (v : ℕ) : Type 0 where
  pub in_game : v < length game
  pub by_first : winner first v ≡ one
  pub by_second : winner second v ≡ opponent one

next_disputed : (game : List GameVertex) (first second : List Answer) → IsGame game
    → IsSolution game first → IsSolution game second → IsSafe game first → IsSafe game second
    → (one : Player) (v : ℕ) → Disputed game first second one v
    → (w : ℕ) × Counts game first v w × Counts game second v w × Disputed game first second one w
next_disputed game first second is_game sol1 sol2 safe1 safe2 one v d =
    elim (player_cases (owner game v) one) [
      | inl e ↦
          let c = sol1.chosen v d.in_game (e ∙ sym d.by_first) in
          go c.0 (c.2, inr c.1) (c.2, inl (e ∙ sym (ap opponent d.by_second ∙ opponent_twice one)))
      | inr e ↦
          let c = sol2.chosen v d.in_game (e ∙ sym d.by_second) in
          go c.0 (c.2, inl (e ∙ sym (ap opponent d.by_first))) (c.2, inr c.1)
    ]
  where
    go : (w : ℕ) → Counts game first v w → Counts game second v w
        → (w : ℕ) × Counts game first v w × Counts game second v w × Disputed game first second one w
    go w a b = (
      w,
      a,
      b,
      record {
        in_game = is_game.in_range v w a.0;
        by_first = safe1.none_leaves v w a ∙ d.by_first;
        by_second = safe2.none_leaves v w b ∙ d.by_second;
      },
    )

pub not_disputed : (game : List GameVertex) (first second : List Answer) → IsGame game
    → IsSolution game first → IsSolution game second → IsSound game first → IsSound game second
    → (one : Player) (v : ℕ) → ¬ Disputed game first second one v
not_disputed game first second is_game sol1 sol2 sound1 sound2 one v d = done
  where
    next : (v : ℕ) → Disputed game first second one v
        → (w : ℕ) × Counts game first v w × Counts game second v w × Disputed game first second one w
    next = next_disputed game first second is_game sol1 sol2
        (safe_from_sound game first sound1) (safe_from_sound game second sound2) one

    trace : ℕ → (u : ℕ) × Disputed game first second one u
    trace zero = (v, d)
    trace (suc t) = let n = next (trace t).0 (trace t).1 in (n.0, n.3)

    play : ℕ → ℕ
    play t = (trace t).0

    follows_first : IsPlay (Counts game first) play
    follows_first t = subst (λ s. Counts game first (play t) (play s)) (sym (add-one t)) (next (trace t).0 (trace t).1).1

    follows_second : IsPlay (Counts game second) play
    follows_second t = subst (λ s. Counts game second (play t) (play s)) (sym (add-one t)) (next (trace t).0 (trace t).1).2

    met : ℕ → ℕ
    met t = priority game (play t)

    won_first : WinsPlay one met
    won_first = subst (λ w. WinsPlay w met) d.by_first
        (not_lost game (winner first v) play (keeps_to game first is_game sound1 play follows_first).counts)

    won_second : WinsPlay (opponent one) met
    won_second = subst (λ w. WinsPlay w met) d.by_second
        (not_lost game (winner second v) play (keeps_to game second is_game sound2 play follows_second).counts)

    both : (one : Player) → WinsPlay one met → WinsPlay (opponent one) met → (¬ Loses Even met × ¬ Loses Odd met)
    both Even a b = (a, b)
    both Odd a b = (b, a)

    done : ⊥
    done =
        let b = priority_bound game in
        (one_loser met b.0 (λ s. b.1 (play s))).not_neither (both one won_first won_second)

pub same_winner : (game : List GameVertex) (first second : List Answer) → IsGame game
    → IsSolution game first → IsSolution game second → IsSound game first → IsSound game second
    → (v : ℕ) → v < length game → winner first v ≡ winner second v
same_winner game first second is_game sol1 sol2 sound1 sound2 v lt =
    elim (player_cases (winner second v) (winner first v)) [
      | inl e ↦ sym e
      | inr e ↦ absurd (not_disputed game first second is_game sol1 sol2 sound1 sound2 (winner first v) v
          (record { in_game = lt; by_first = refl; by_second = e }))
    ]
