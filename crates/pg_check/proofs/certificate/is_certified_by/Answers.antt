use Rattle.pg_check.proofs.Common.{rules, ◌≡◌, ◌≢◌, ℕ, arith, sym, subst, refl, winner, IsServedBy, Counts, all_passed}
use Rattle.std.proofs.Common.{IsSome}
use Rattle.pg_check.proofs.certificate.is_certified_by.Goals.{then-ne-via-then-ne, then-ne-via-else-ne+then-not-serves}
use Rattle.pg_check.proofs.certificate.is_certified_by.Goals as goal

pub winner-requires : goal.winner-requires
winner-requires g c =
    let counts = (c.counted-w-items.ensures.counted c.w-item.result).0 (c.loop-w.w-index, c.loop-w-test.true, sym c.w-item.is) in
    let lt = c.requires.game.in_range c.args.v c.w-item.result counts.0 in
    omega (arith, lt)

pub serves-requires-clause-w : goal.serves-requires-clause-w
serves-requires-clause-w g c =
    let counts = (c.counted-w-items.ensures.counted c.w-item.result).0 (c.loop-w.w-index, c.loop-w-test.true, sym c.w-item.is) in
    let lt = c.requires.game.in_range c.args.v c.w-item.result counts.0 in
    omega (arith, lt)

pub returns-then-ne : goal.returns-then-ne
returns-then-ne g c =
    let counts = (c.counted-w-items.ensures.counted c.w-item.result).0 (c.loop-w.w-index, c.loop-w-test.true, sym c.w-item.is) in (
      λ e. absurd (cc e),
      λ certified. elim c.then-ne.branch [
        | then-ne-via-then-ne w ↦
            let same : winner c.args.solution.now c.w-item.result ≡ winner c.args.solution.now c.args.v = certified.stays c.w-item.result counts in
            let differs : winner c.args.solution.now c.w-item.result ≢ winner c.args.solution.now c.args.v = search rules in
            absurd (differs same)
        | then-ne-via-else-ne+then-not-serves w ↦
            w.if-not-serves.ensures.1 (certified.served c.w-item.result counts)
      ],
    )

pub returns : goal.returns
returns g c =
    let P : ℕ → Type 0 = λ w.
    (winner c.args.solution.now w ≡ winner c.args.solution.now c.args.v)
    × IsServedBy c.args.map.now.bounds (g.G.Lines.line c.args.lines.now) c.args.map.now.measures c.args.v w
    in let all : (w : ℕ) → Counts c.args.game.now c.args.solution.now c.args.v w → P w = λ w counts.
    all_passed P c.counted-w-items.result.now c.loop-w.w-index w c.loop-w-test.false c.loop-w.invariant ((c.counted-w-items.ensures.counted w).1 counts)
    in (
      λ yes. record {
        listed = (let e = c.in-List.ensures.value in subst IsSome e refl);
        stays = λ w counts. (all w counts).0;
        served = λ w counts. (all w counts).1;
      },
      λ certified. refl,
    )
