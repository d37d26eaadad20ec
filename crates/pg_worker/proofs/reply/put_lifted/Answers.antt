use Rattle.pg_worker.proofs.Common.{◌≡◌, ◌<◌, ◌+◌, ◌++◌, [], ℕ, List, length, take, drop, sym, ap, ◌∙◌, append_assoc, arith, All, eqb-true}
use Rattle.pg_worker.proofs.Common.{append-nil, get_or-drop, length-drop, nil_from_length, spelling, frame_of, extends_then, measures_of}
use Rattle.pg_worker.proofs.Packing.{packs_front, packs_none}
use Rattle.pg_worker.proofs.reply.put_lifted.Goals as goal

pub loop-rest-init : goal.loop-rest-init
loop-rest-init c =
    let W = c.args.worker.now in
    record {
      within = rw c.lifted-rest.ensures c.requires.within;
      written = [];
      items = sym (append-nil c.args.out.now.items);
      goes = λ more p. rw (← c.lifted-rest.ensures) p;
    }

pub returns-in_err-count-clause-kept : goal.returns-in_err-count-clause-kept
returns-in_err-count-clause-kept c = extends_then c.args.out.now.items c.loop-rest.out.items c.put_frame.new.out.items c.loop-rest.invariant.written c.loop-rest.invariant.items c.put_frame.ensures.kept

all_after : (P : ℕ → Type 0) (xs : List ℕ) (n : ℕ) → All P xs → All P (drop n xs)
all_after P xs n h = λ i d lt. rw get_or-drop (h (n + i) d (omega (arith, length-drop n xs)))

pub loop-rest-preserved : goal.loop-rest-preserved
loop-rest-preserved c =
    let W = c.args.worker.now in
    let rest = c.loop-rest.rest.now in
    let n = c.in_ok-count.count in
    let bytes = spelling (frame_of c.args.kind (length W.bounds) (measures_of W.map (take n rest))) in
    let e = c.in_ok-count.ensures in
    record {
      within = rw c.split_at.ensures.back (all_after (λ v. v < length W.map) rest n c.loop-rest.invariant.within);
      written = c.loop-rest.invariant.written ++ bytes;
      items = e.frame ∙ ap (λ (bs : List ℕ). bs ++ bytes) c.loop-rest.invariant.items ∙ append_assoc c.args.out.now.items c.loop-rest.invariant.written bytes;
      goes = λ more p.
          rw append_assoc (c.loop-rest.invariant.goes (bytes ++ more)
          (packs_front c.args.kind (length W.bounds) W.map rest n more e.count.0 e.count.1 e.within e.full
          (rw (← c.split_at.ensures.back) p)));
    }

pub returns-clause-packs : goal.returns-clause-packs
returns-clause-packs c =
    let W = c.args.worker.now in
    let none : c.loop-rest.rest.now ≡ [] =
    nil_from_length c.loop-rest.rest.now (eqb-true (length c.loop-rest.rest.now) 0 (sym c.is_empty.ensures ∙ c.loop-rest-test.false)) in (
      c.loop-rest.invariant.written,
      rw (← append-nil c.loop-rest.invariant.written)
          (c.loop-rest.invariant.goes [] (rw none (packs_none c.args.kind (length W.bounds) W.map))),
      c.loop-rest.invariant.items,
    )
