use Rattle.pg_hoa.proofs.Common.{◌∙◌, ℕ, ◌+◌, ◌++◌, ◌/◌, ◌^◌, refl, ap, arith, trailing_zeros, w64, stage, way_step, at_word, at_slot}
use Rattle.pg_hoa.proofs.Common.{rising}
use Rattle.pg_hoa.proofs.TableFilling.{adds_none, adds_same, adds_then}
use Rattle.pg_hoa.proofs.TablePlaces.{no_bits, set_bit, unset_bits, none_left, next_bit}
use Rattle.pg_hoa.proofs.table.place_word.Goals as goal

pub bits-init : goal.bits-init
bits-init c = record {
  adds = adds_none c.args.way.now.shape (at_word c.args.first 0 c.args.word (way_step c.args.way.now)) (stage c.args.filling.now)
      (λ i. no_bits c.args.first c.args.word (way_step c.args.way.now) i);
  known = c.requires.known;
  within = omega arith;
}

pub returns-then-rest-eq0-clause-adds : goal.returns-then-rest-eq0-clause-adds
returns-then-rest-eq0-clause-adds c =
    let s = way_step c.args.way.now in
    adds_same c.args.way.now.shape (at_word c.args.first c.bits.at c.args.word s) (at_word c.args.first c.args.width c.args.word s)
    (stage c.args.filling.now) (stage c.bits.filling) c.bits.invariant.adds
    (λ i. unset_bits c.args.first c.bits.at c.args.width c.args.word s i c.bits.invariant.within
    (λ k low high. none_left c.args.word c.bits.at c.if-rest-eq0.true k low))

pub returns-then-next-width-clause-adds : goal.returns-then-next-width-clause-adds
returns-then-next-width-clause-adds c =
    let s = way_step c.args.way.now in
    let next = next_bit c.args.word c.bits.at (trailing_zeros w64 (c.args.word / 2 ^ c.bits.at)) (omega arith) c.if-rest-eq0.false refl in
    adds_same c.args.way.now.shape (at_word c.args.first c.bits.at c.args.word s) (at_word c.args.first c.args.width c.args.word s)
    (stage c.args.filling.now) (stage c.bits.filling) c.bits.invariant.adds
    (λ i. unset_bits c.args.first c.bits.at c.args.width c.args.word s i c.bits.invariant.within
    (λ k low high. next.1 k low (omega (arith, high, c.if-next-width.true))))

pub place-requires-clause-placed : goal.place-requires-clause-placed
place-requires-clause-placed c = c.bits.invariant.adds.lists c.args.way.now.place (rising c.args.way.now.own.now) c.requires.placed

pub bits-preserved : goal.bits-preserved
bits-preserved c =
    let s = way_step c.args.way.now in
    let at : ℕ = c.bits.at + trailing_zeros w64 (c.args.word / 2 ^ c.bits.at) in
    let next = next_bit c.args.word c.bits.at (trailing_zeros w64 (c.args.word / 2 ^ c.bits.at)) (omega arith) c.if-rest-eq0.false refl in
    record {
      adds = adds_then c.args.way.now.shape (at_word c.args.first c.bits.at c.args.word s) (at_slot (c.args.first + at) s)
          (at_word c.args.first (at + 1) c.args.word s)
          (stage c.args.filling.now) (stage c.bits.filling) (stage c.place.new.filling) c.bits.invariant.adds c.in_ok-number.ensures.adds
          (λ i. ap (λ l. l ++ at_slot (c.args.first + at) s i) (unset_bits c.args.first c.bits.at at c.args.word s i
          (omega arith) next.1) ∙ set_bit c.args.first at c.args.word s i next.0);
      known = c.in_ok-number.ensures.known;
      within = omega (arith, c.if-next-width.false);
    }
