-- Where two maps serve a set from within, one in the game and the other in the dual, they don't both have lists.
use Rattle.pg_map.proofs.Common.{◌≡◌, ℕ, ◌+◌, ◌<◌, Some, None, List, [], ◌∷◌, ◌++◌, map, refl, All-contains, Player, Even, Odd, opponent}
use Rattle.pg_map.proofs.Common.{BoundList, MeasureValue, Covers, measure_at, SomeOrAll}
use Rattle.std.specs.Option.{IsSome}
use Rattle.pg_map.proofs.Falls.{Falls, lists, covers_falls, no_odd_cycle}
use Rattle.pg_map.proofs.Rounds.{path_weaker, Cycle, has_cycle, greatest_of, odd_if_falls}

-- where one player has some successor and the other all
pub both_serve : (o : Player) (P Q : ℕ → Type 0) (ss : List ℕ) → SomeOrAll o P ss → SomeOrAll (opponent o) Q ss → (w : ℕ) × P w × Q w
both_serve Even P Q ss any all = (any.1, any.4, All-contains Q ss any.1 all (any.0, any.2, any.3))
both_serve Odd P Q ss all any = (any.1, All-contains P ss any.1 all (any.0, any.2, any.3), any.4)

-- two maps that serve each vertex of some, of which there are finitely many, by one of these, and both by the same

module _ (bounds dual_bounds : BoundList) (met : ℕ → ℕ) (f g : List MeasureValue) (n : ℕ) (Held : ℕ → Type 0)
    (below : (v : ℕ) → Held v → v < n)
    (serve : (v : ℕ) → Held v → (w : ℕ) × Held w × Covers bounds (met v) (measure_at f v) (measure_at f w)
    × Covers dual_bounds (met v + 1) (measure_at g v) (measure_at g w)) where
  pub record HasBoth (v : ℕ) : Type 0 where
    pub held : Held v
    pub first : IsSome (measure_at f v)
    pub second : IsSome (measure_at g v)

  abbrev FirstFalls : ℕ → ℕ → Type 0
  FirstFalls = Falls bounds met (lists f)

  abbrev SecondFalls : ℕ → ℕ → Type 0
  SecondFalls = Falls dual_bounds (λ u. met u + 1) (lists g)

  abbrev BothFall : ℕ → ℕ → Type 0
  BothFall v w = FirstFalls v w × SecondFalls v w

  next : (v : ℕ) → HasBoth v → (w : ℕ) × BothFall v w × HasBoth w
  next v both =
      let s = serve v both.held in
      let one = covers_falls bounds (met v) (measure_at f v) (measure_at f s.0) both.first s.2 in
      let two = covers_falls dual_bounds (met v + 1) (measure_at g v) (measure_at g s.0) both.second s.3 in
      (s.0, (one.1, two.1), record { held = s.1; first = one.0; second = two.0 })

  pub none_both : (v : ℕ) → HasBoth v → ⊥
  none_both v both = no_cycle (has_cycle n BothFall HasBoth (λ u b. below u b.held) next v both)
    where
      no_cycle : Cycle BothFall → ⊥
      no_cycle c =
          let g' = greatest_of (met c.start) (map met c.rest) in
          let odd = odd_if_falls dual_bounds met (lists g) c.start c.rest g'.0
          (path_weaker BothFall SecondFalls (λ u w s. s.1) c.start (c.rest ++ c.start ∷ []) c.closes) g'.1 in
          no_odd_cycle bounds met (lists f) c.start c.rest g'.0
          (path_weaker BothFall FirstFalls (λ u w s. s.0) c.start (c.rest ++ c.start ∷ []) c.closes) g'.1 odd

pub is_top : (m : MeasureValue) → (IsSome m → ⊥) → m ≡ None
is_top None h = refl
is_top (Some xs) h = absurd (h refl)
