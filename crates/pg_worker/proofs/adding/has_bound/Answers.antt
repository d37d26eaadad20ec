use Rattle.pg_worker.proofs.Common.{ℕ, ◌≡◌, ◌∙◌, ◌+◌, ◌-◌, ◌<◌, ap, subst, length, get_or, arith, IsTrue, nat_eq, get_or_default, nat_tests}
use Rattle.pg_worker.proofs.Common.{width_from}
use Rattle.pg_worker.proofs.Bounded.{last_from}
use Rattle.pg_worker.proofs.adding.has_bound.Goals as goal

equal : (a b : ℕ) → IsTrue (nat_eq a b) → a ≡ b
equal a b h = grind (arith, nat_tests)

equals : (a b : ℕ) → a ≡ b → IsTrue (nat_eq a b)
equals a b h = grind (arith, nat_tests)

pub returns-then-count-gt0 : goal.returns-then-count-gt0
returns-then-count-gt0 c =
    let bs = c.args.bounds.now in
    let p = c.args.priority in
    let w = c.width_from-count.result in
    let all : c.pairs.result.now ≡ bs = c.pairs.ensures.value in
    let lt : w - 1 < length bs = let a = c.if-count-gt0.true in let b = c.width_from-count.ensures.within in omega arith in
    rw all (
      λ t odd. (w - 1, get_or bs (w - 1) (0, 0), lt, get_or_default bs (w - 1) (get_or bs (w - 1) (0, 0)) (0, 0) lt, equal (get_or bs (w - 1) (0, 0)).0 p t),
      λ has.
          let (i, b, l, at, is) = has (let o = c.if-priority-eq0.false in omega arith) in
          let each : (d : ℕ × ℕ) → (get_or bs i d).0 ≡ p = λ d. ap (λ (x : ℕ × ℕ). x.0) (get_or_default bs i d b l ∙ at) ∙ is in
          let last : i + 1 ≡ width_from bs p = last_from bs p i c.pairs.ensures.bounds.falling l each in
          let place : i ≡ w - 1 = let e = c.width_from-count.ensures.value in omega arith in
          equals (get_or bs (w - 1) (0, 0)).0 p (subst (λ (k : ℕ). (get_or bs k (0, 0)).0 ≡ p) place (each (0, 0))),
    )
