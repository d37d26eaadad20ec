use Rattle.std.proofs.Common.{◌≡◌, ◌∙◌, ◌==◌, ◌%◌, ◌<◌, Vec, Global, ℕ, true, false, length, arith}
use Rattle.std.proofs.lemmas.Bool.Decides.{nat_tests}
use Rattle.std.proofs.lemmas.List.{length-map}
use Rattle.pg_means_texts.proofs.Written.{texts, then_more, then_none, holding_past}
use Rattle.pg_means_texts.proofs.writing.write_names.Goals as goal

pub returns-then-rest-eq1 : goal.returns-then-rest-eq1
returns-then-rest-eq1 g c =
    let contents = g.W.Write.contents in
    let marks : (c.loop-place.rest % 2 == 1) ≡ true = grind (arith, nat_tests, c.if-rest-eq1.true) in
    then_more c.write_more.result c.args.names.now c.loop-place.place c.loop-place.rest c.args.letter c.index-names-place.result
    (contents c.args.writer.now) (contents c.loop-place.writer) (contents c.write_all.new.self) (contents c.write_more.new.writer) c.deref.result.now
    c.loop-place-test.true c.index-names-place.is marks c.loop-place.invariant.same c.loop-place.invariant.so c.deref.ensures.value
    c.in_ok-write_all.ensures.bytes c.write_more.ensures

pub loop-place-preserved : goal.loop-place-preserved
loop-place-preserved g c =
    let l = length-map c.args.names.now (λ (v : Vec ℕ Global). v.items) in
    let below : c.loop-place.place < length (texts c.args.names.now) = omega (arith, l, c.loop-place-test.true) in
    let clear : (c.loop-place.rest % 2 == 1) ≡ false = grind (arith, nat_tests, c.if-rest-eq1.false) in
    record {
      same = c.loop-place.invariant.same;
      so = c.loop-place.invariant.so ∙ holding_past (texts c.args.names.now) c.loop-place.place c.loop-place.rest below clear;
    }

pub returns : goal.returns
returns g c =
    let contents = g.W.Write.contents in
    then_none c.write_all-2.result c.args.names.now c.loop-place.place c.loop-place.rest c.args.letter (contents c.args.writer.now)
    (contents c.loop-place.writer) (contents c.write_all-2.new.self) c.loop-place-test.false c.loop-place.invariant.same c.loop-place.invariant.so
    c.write_all-2.ensures.bytes
