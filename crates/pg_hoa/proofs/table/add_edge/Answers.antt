use Rattle.pg_hoa.proofs.Common.{◌≡◌, ◌∙◌, ℕ, [], ◌+◌, ◌*◌, ◌/◌, ◌%◌, ◌<◌, ◌≤◌, min, refl, sym, ap, subst, arith, mul-le-mul_right, top}
use Rattle.pg_hoa.proofs.Common.{SpeaksOf, executed, stage, way_step, Adds, at_letters, rising}
use Rattle.pg_hoa.proofs.TableFilling.{adds_none, adds_then}
use Rattle.pg_hoa.proofs.TablePlaces.{no_letters, stopped_letters}
use Rattle.pg_hoa.proofs.table.add_edge.Goals as goal

run_begins : (run blocks runs : ℕ) → runs ≡ blocks / 16 + min 1 (blocks % 16) → run < runs → run * 16 < blocks
run_begins run blocks runs e h = omega (arith, e, h)

runs_end : (run blocks runs : ℕ) → runs ≡ blocks / 16 + min 1 (blocks % 16) → runs ≤ run → blocks ≤ run * 16
runs_end run blocks runs e h = omega (arith, e, h)

no_blocks : (blocks width : ℕ) → min blocks 0 * width ≡ 0
no_blocks blocks width =
    let none : min blocks 0 ≡ 0 = omega arith in
    ap (λ n. n * width) none ∙ nothing width
  where
    nothing : (n : ℕ) → 0 * n ≡ 0
    nothing n = omega arith

pub loop-run-init : goal.loop-run-init
loop-run-init c = record {
  adds = adds_none c.args.way.now.shape _ (stage c.begin.new.filling)
      (λ i. ap (λ n. at_letters c.args.way.now.row.first n c.args.label.now (way_step c.args.way.now) i)
      (no_blocks c.args.way.now.row.blocks c.args.way.now.row.width)
      ∙ no_letters c.args.way.now.row.first c.args.label.now (way_step c.args.way.now) i);
  known = tt;
}

pub place_run-requires-clause-placed : goal.place_run-requires-clause-placed
place_run-requires-clause-placed c =
    let own = rising c.args.way.now.own.now in
    c.loop-run.invariant.adds.lists c.args.way.now.place own (c.begin.ensures.lists c.args.way.now.place own c.requires.placed)

pub returns-then-way-run : goal.returns-then-way-run
returns-then-way-run c =
    let w = c.args.way.now in
    let s = way_step w in
    let run : ℕ = c.loop-run.run in
    let begun = run_begins run w.row.blocks c.div_ceil-run-end.result c.div_ceil-run-end.ensures c.loop-run-test.true in
    let so_far : min w.row.blocks (run * 16) ≡ run * 16 = omega (arith, begun) in
    let some : min w.row.blocks (run * 16) * w.row.width ≤ w.row.blocks * w.row.width = mul-le-mul_right w.row.width (omega arith) in
    adds_then w.shape (λ i. []) (at_letters w.row.first (w.row.blocks * w.row.width) c.args.label.now s)
    (at_letters w.row.first (w.row.blocks * w.row.width) c.args.label.now s)
    (stage c.args.filling.now) (stage c.begin.new.filling) (stage c.loop-run.filling) c.begin.ensures
    (stopped_letters w.shape w.row.first (min w.row.blocks (run * 16) * w.row.width) (w.row.blocks * w.row.width) c.args.label.now s
    (stage c.begin.new.filling) (stage c.loop-run.filling) some
    (subst (λ n. c.loop-run.filling.conflict ≤ w.row.first + n * w.row.width) (sym so_far) c.if-way-run.true) c.loop-run.invariant.adds)
    (λ i. refl)

pub loop-run-preserved : goal.loop-run-preserved
loop-run-preserved c =
    let w = c.args.way.now in
    let s = way_step w in
    let run : ℕ = c.loop-run.run in
    let begun = run_begins run w.row.blocks c.div_ceil-run-end.result c.div_ceil-run-end.ensures c.loop-run-test.true in
    let so_far : min w.row.blocks (run * 16) ≡ run * 16 = omega (arith, begun) in
    let next : min w.row.blocks (run * 16 + 16) ≡ min w.row.blocks ((run + 1) * 16) = ap (min w.row.blocks) (omega arith) in
    let speaks : SpeaksOf c.args.label.now run c.in_ok-words.words = λ k j h small. c.in_ok-words.ensures k j h small
    ∙ ap (λ l. top (executed l (run * 16 + k) j)) c.as_slice-instructions.ensures.value
    ∙ c.in_ok-instructions_of.ensures (run * 16 + k) j (omega (arith, h, begun, c.requires.row.few)) small in
    record {
      adds = subst (λ n. Adds w.shape (at_letters w.row.first (n * w.row.width) c.args.label.now s) (stage c.begin.new.filling)
          (stage c.place_run.new.filling)) next
          (c.in_ok-number.ensures.adds c.args.label.now (stage c.begin.new.filling) speaks
          (subst (λ n. Adds w.shape (at_letters w.row.first (n * w.row.width) c.args.label.now s) (stage c.begin.new.filling)
          (stage c.loop-run.filling)) so_far
          c.loop-run.invariant.adds));
      known = c.in_ok-number.ensures.known;
    }

pub returns : goal.returns
returns c =
    let w = c.args.way.now in
    let s = way_step w in
    let run : ℕ = c.loop-run.run in
    let over = runs_end run w.row.blocks c.div_ceil-run-end.result c.div_ceil-run-end.ensures c.loop-run-test.false in
    let all : min w.row.blocks (run * 16) ≡ w.row.blocks = omega (arith, over) in
    adds_then w.shape (λ i. []) (at_letters w.row.first (w.row.blocks * w.row.width) c.args.label.now s)
    (at_letters w.row.first (w.row.blocks * w.row.width) c.args.label.now s)
    (stage c.args.filling.now) (stage c.begin.new.filling) (stage c.loop-run.filling) c.begin.ensures
    (subst (λ n. Adds w.shape (at_letters w.row.first (n * w.row.width) c.args.label.now s) (stage c.begin.new.filling)
    (stage c.loop-run.filling)) all
    c.loop-run.invariant.adds)
    (λ i. refl)
