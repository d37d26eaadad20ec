use Rattle.std.proofs.Common.{ℕ, ◌⊎◌, inl, inr, get_or, arith, sym, subst}
use Rattle.std.specs.Prelude.{All, Contains}
use Rattle.std.proofs.lemmas.List.Elements.{All-weaker, All-contains_itself, All-push, Contains-get_or}
use Rattle.pg_means_look.proofs.places.push_below.Goals as goal

pub loop-j-init : goal.loop-j-init
loop-j-init c =
    All-weaker (Contains c.args.out.now.items) (λ x. Contains c.args.out.now.items x ⊎ Contains c.args.places.now x) (λ x i. inl i)
    c.args.out.now.items (All-contains_itself c.args.out.now.items)

pub loop-j-preserved : goal.loop-j-preserved
loop-j-preserved c =
    let P = λ (x : ℕ). Contains c.args.out.now.items x ⊎ Contains c.args.places.now x in
    subst (All P) (sym c.in_ok-push.ensures.items)
    (All-push P c.loop-j.out.items (get_or c.args.places.now c.loop-j.j 0) c.loop-j.invariant
    (inr (Contains-get_or c.args.places.now c.loop-j.j 0 (omega arith))))
