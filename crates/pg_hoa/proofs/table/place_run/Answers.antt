use Rattle.pg_hoa.proofs.Common.{◌≡◌, ◌∙◌, ℕ, ◌+◌, ◌*◌, ◌%◌, ◌<◌, min, sym, ap, subst, arith, says, on_at, stage, way_step, at_word}
use Rattle.pg_hoa.proofs.Common.{at_letters, Adds, IsRow, rising}
use Rattle.pg_hoa.proofs.TableFilling.{adds_then}
use Rattle.pg_hoa.proofs.TablePlaces.{more_letters, covered_run}
use Rattle.pg_hoa.proofs.table.place_run.Goals as goal

pub returns-then-are_covered-clause-adds : goal.returns-then-are_covered-clause-adds
returns-then-are_covered-clause-adds c = λ label t speaks a.
    covered_run c.args.way.now t (stage c.args.filling.now) c.args.run _ label c.args.words.now c.requires.decided c.requires.row
    c.requires.within speaks
    (c.are_covered.ensures c.if-are_covered.true) a

pub place_block-requires-clause-row : goal.place_block-requires-clause-row
place_block-requires-clause-row c = subst (λ n. IsRow n c.args.way.now.row) (sym c.loop-block.invariant.many) c.requires.row

pub loop-block-preserved : goal.loop-block-preserved
loop-block-preserved c =
    let w = c.args.way.now in
    let s = way_step w in
    let block : ℕ = c.loop-block.block in
    let here : c.args.run * 16 + block % 16 ≡ block = omega (arith, c.loop-block.auto.block, c.loop-block-test.true, c.min-end.ensures) in
    let below : block < w.row.blocks = omega (arith, c.loop-block-test.true, c.min-end.ensures) in
    let small : block % 16 < 16 = omega arith in
    record {
      adds = λ label t speaks a.
          adds_then w.shape (at_letters w.row.first (block * w.row.width) label s)
          (at_word (w.row.first + block * w.row.width) w.row.width _ s)
          (at_letters w.row.first ((block + 1) * w.row.width) label s) t (stage c.loop-block.filling) (stage c.place_block.new.filling)
          (c.loop-block.invariant.adds label t speaks a) c.in_ok-number.ensures.adds
          (λ i. more_letters w.row.first block w.row.width _ label s i
          (λ j few. speaks (block % 16) j small few ∙ ap (λ b. says label (on_at b j)) here) c.requires.row.narrow
          (c.requires.row.whole block below));
      placed = c.in_ok-number.ensures.adds.lists w.place (rising w.own.now) c.loop-block.invariant.placed;
      known = c.in_ok-number.ensures.known;
      many = c.in_ok-number.ensures.adds.as_many ∙ c.loop-block.invariant.many;
    }

pub returns-clause-adds : goal.returns-clause-adds
returns-clause-adds c = λ label t speaks a.
    let w = c.args.way.now in
    let all : c.loop-block.block ≡ min w.row.blocks (c.args.run * 16 + 16) =
    omega (arith, c.loop-block.auto.block-end, c.loop-block-test.false, c.min-end.ensures, c.requires.within) in
    subst (λ n. Adds w.shape (at_letters w.row.first (n * w.row.width) label (way_step w)) t (stage c.loop-block.filling)) all
    (c.loop-block.invariant.adds label t speaks a)
