use Rattle.pg_arena.proofs.Common.{◌≡◌, ◌+◌, ℕ, Bool, true, false, ltb, List, get_or, IsTrue, sym, rules, IsAllAdjacentAnswer}
use Rattle.pg_arena.proofs.Common.{IsStrictlyIncreasing, ltb-true, answers_always}
use Rattle.pg_arena.proofs.builder.rise.Goals as goal

rises : (xs : List ℕ) (r : Bool) → IsAllAdjacentAnswer (λ x y b. b ≡ ltb x y) xs r → IsTrue r → IsStrictlyIncreasing xs
rises xs true h t = λ k lt. ltb-true (get_or xs k 0) (get_or xs (k + 1) 0) (sym (h k 0 lt))
rises xs false h t = absurd cc

pub returns : goal.returns
returns c = rises c.args.numbers.now c.is_sorted_by.result (c.is_sorted_by.ensures.cases ltb (answers_always _ _ _ (λ f a r g h. search rules)))
