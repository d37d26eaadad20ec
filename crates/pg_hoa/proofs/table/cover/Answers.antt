use Rattle.pg_hoa.proofs.Common.{◌≡◌, ◌<◌, set, get_or, length, refl, ap, arith, bit_or, with_item, get_or_read, stage}
use Rattle.pg_hoa.proofs.TablePlaces.{covers_given}
use Rattle.pg_hoa.proofs.table.cover.Goals as goal

pub returns-then-is_of-clause-adds : goal.returns-then-is_of-clause-adds
returns-then-is_of-clause-adds c = λ t a.
    let covered = c.args.filling.now.covered in
    let items = covered.words.items in
    let below : c.args.block < length items = omega (arith, c.if-at-len.true, covered.words.ok.0, c.len.ensures) in
    let old : c.index_mut.result.now ≡ get_or items c.args.block 0 =
    get_or_read items c.args.block c.index_mut.result.now below c.index_mut.ensures.value 0 in
    covers_given c.args.way.now t (stage c.args.filling.now) _
    (record {
      first = covered.first;
      target = covered.target;
      counts = covered.counts;
      words = with_item covered.words c.args.block
          (bit_or c.index_mut.result.now c.args.word);
    })
    c.args.block c.args.word c.if-way-eq64.true c.requires (c.is_of.ensures c.if-is_of.true) refl refl refl
    (ap (λ n. set items c.args.block (bit_or n c.args.word)) old) below a refl
