use Rattle.std.proofs.Common.{ℕ, ◌⊎◌, inl, inr, List, get_or, sym, subst}
use Rattle.std.specs.Prelude.{All, Contains}
use Rattle.std.proofs.lemmas.List.Elements.{All-weaker, All-contains, All-push, Contains-get_or}
use Rattle.pg_means_look.proofs.places.union.Goals as goal

abbrev Of : List ℕ → List ℕ → ℕ → Type 0
Of a b x = Contains a x ⊎ Contains b x

put_below : (a b old new : List ℕ) → All (Of a b) old → All (Of old b) new → All (Of a b) new
put_below a b old new h k = All-weaker (Of old b) (Of a b) go new k
  where
    go : (x : ℕ) → Of old b x → Of a b x
    go x (inl i) = All-contains (Of a b) old x h i
    go x (inr i) = inr i

pub loop-place-preserved : goal.loop-place-preserved
loop-place-preserved c =
    let below = put_below c.args.a.now c.args.b.now c.loop-place.out.items c.push_below.new.out.items c.loop-place.invariant c.in_ok-j.ensures in
    subst (All (Of c.args.a.now c.args.b.now)) (sym c.in_ok-push.ensures.items)
    (All-push (Of c.args.a.now c.args.b.now) c.push_below.new.out.items (get_or c.args.a.now c.loop-place.place-index 0) below
    (inl (Contains-get_or c.args.a.now c.loop-place.place-index 0 c.loop-place-test.true)))

pub returns : goal.returns
returns c = put_below c.args.a.now c.args.b.now c.loop-place.out.items c.push_below-2.new.out.items c.loop-place.invariant c.in_ok-_end.ensures
