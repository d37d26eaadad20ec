use Rattle.pg_check.proofs.Common.{rules, ◌≡◌, ◌⊎◌, ℕ, zero, suc, ◌<◌, length, get_or, false, Option, None, Some, inl, inr, refl, arith, sym, ◌∙◌, get_or_default}
use Rattle.pg_check.proofs.Common.{Player, Even, Odd, opponent, owner, winner, choice, all_passed, IsOnSide}
use Rattle.std.specs.Prelude.{◌==◌, is_some}
use Rattle.pg_check.proofs.shown.goes_on.Goals as goal
use Rattle.pg_check.proofs.shown.goes_on.Goals.{else-ne-via-then-ne+else-is_some, else-ne-via-else-ne}

positive_of : (n : ℕ) → false ≡ (n == 0) → 0 < n
positive_of zero some = (cc)
positive_of (suc n) some = omega arith

none_of : (c : Option ℕ) → is_some c ≡ false → c ≡ None
none_of None none = refl
none_of (Some w) none = (cc)

-- the loser isn't the winner, so that it has no choice
no_choice : (own won : Player) (c : Option ℕ) → own ≡ opponent won → (own ≡ won) ⊎ (is_some c ≡ false) → c ≡ None
no_choice own Even c other (inl is) = (cc)
no_choice own Odd c other (inl is) = (cc)
no_choice own won c other (inr none) = none_of c none

pub place-requires-in-loop-w : goal.place-requires-in-loop-w
place-requires-in-loop-w c =
    let counts = (c.counted-edges.ensures.counted c.w-item.result).0 (c.loop-w.w-index, c.loop-w-test.true, sym c.w-item.is) in
    let lt = c.len-count.ensures.game.in_range c.args.v c.w-item.result counts.0 in
    omega (arith, lt, c.requires.places)

pub returns : goal.returns
returns c =
    let e = c.counted-edges.result.now in
    let first : ℕ = get_or e 0 0 in
    let lt : 0 < length e = positive_of (length e) (sym c.if-is_empty.false ∙ c.is_empty.ensures) in
    record {
      some = (first, (c.counted-edges.ensures.counted first).0 (0, lt, sym (get_or_default e 0 0 first lt)));
      side = search rules;
      stays = λ w counts. all_passed (λ u. IsOnSide c.args.split (winner c.args.solution.now c.args.v) (get_or c.args.order.now.places.items u 0)) e
          c.loop-w.w-index w c.loop-w-test.false (search rules) ((c.counted-edges.ensures.counted w).1 counts);
      elsewhere = λ lost. no_choice (owner c.args.game.now c.args.v) (winner c.args.solution.now c.args.v) (choice c.args.solution.now c.args.v) lost
          (elim c.else-ne.branch [
            | else-ne-via-then-ne+else-is_some w ↦ inr (search rules)
            | else-ne-via-else-ne w ↦ inl (search rules)
          ]);
    }
