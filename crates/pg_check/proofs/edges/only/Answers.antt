use Rattle.std.proofs.Common.{◌≡◌, ℕ, zero, suc, ◌+◌, ◌-◌, ◌<◌, List, [], ◌∷◌, length, get_or, take, drop, arith, rules, sym, ◌∙◌, drop-cons, Contains}
use Rattle.std.specs.List.Sorted.{IsStrictlyIncreasing}
use Rattle.pg_check.proofs.edges.only.Goals as goal

-- the part of a list that is its element at p alone
one_at : (xs : List ℕ) (p x d : ℕ) → p < length xs → x ≡ get_or xs p d → take (p + 1 - p) (drop p xs) ≡ x ∷ []
one_at xs p x d below here =
    let e : p + 1 - p ≡ 1 = omega arith in
    rw (e, drop-cons xs p d below, sym here)

in_one : (x w : ℕ) → Contains (x ∷ []) w → w ≡ x
in_one x w (zero, below, is) = sym is
in_one x w (suc k, below, is) = absurd (omega arith)

rising_one : (x : ℕ) → IsStrictlyIncreasing (x ∷ [])
rising_one x k below = absurd (omega arith)

pub returns-then-eq-clause-chosen : goal.returns-then-eq-clause-chosen
returns-then-eq-clause-chosen c =
    let x = c.index-vertices-place.result in
    let same : x ≡ c.args.chosen = search rules in
    rw (one_at c.args.vertices.now c.loop-place.place x x c.loop-place-test.true c.index-vertices-place.is)
    (λ w. (
      λ inside. let e = in_one x w inside in
          ((c.loop-place.place, c.loop-place-test.true, rw e (sym c.index-vertices-place.is)), e ∙ same),
      λ chose. (0, omega arith, same ∙ sym chose.1),
    ))

pub returns-then-eq-clause-rising : goal.returns-then-eq-clause-rising
returns-then-eq-clause-rising c =
    let x = c.index-vertices-place.result in
    rw (one_at c.args.vertices.now c.loop-place.place x x c.loop-place-test.true c.index-vertices-place.is) (rising_one x)

pub returns-clause-chosen : goal.returns-clause-chosen
returns-clause-chosen c =
    λ w. (
      λ inside. absurd (omega (arith, inside.1)),
      λ (inside, same). absurd (c.loop-place.invariant inside.0 w (omega (arith, inside.1, c.loop-place-test.false)) (inside.2 ∙ same)),
    )
