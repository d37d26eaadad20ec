use Rattle.std.proofs.Common.{◌≡◌, ◌∙◌, ◌++◌, ◌∷◌, [], ℕ, zero, suc, ◌+◌, List, refl, ap, arith}
use Rattle.std.specs.Prelude.{Option, None, replicate}
use Rattle.pg_map.specs.Lines.{Line}
use Rattle.pg_map_lift.proofs.part.Part.new.Goals as goal

one_more : (n : ℕ) → replicate n None ++ None ∷ [] ≡ replicate {A = Option Line} (suc n) None
one_more zero = refl
one_more (suc n) = ap (λ (ls : List (Option Line)). None ∷ ls) (one_more n)

pub loop-preserved : goal.loop-preserved
loop-preserved c =
    let n = c.loop.counter in
    let next : suc n ≡ n + 1 = omega arith in
    c.in_ok-push.ensures.items ∙ (ap (λ (ls : List (Option Line)). ls ++ None ∷ []) c.loop.invariant
    ∙ (one_more n ∙ ap (λ (k : ℕ). replicate {A = Option Line} k None) next))
