use Rattle.pg_hoa.proofs.Common.{◌≡◌, ◌∙◌, ℕ, ◌+◌, ◌*◌, ◌-◌, ◌++◌, ◌<◌, true, sym, ap, subst, arith, bit_and, append-nil, Way, truth, Stage}
use Rattle.pg_hoa.proofs.Common.{stage, way_step, at_word, Adds, IsCovered, IsDecided, IsRow}
use Rattle.pg_hoa.proofs.TableFilling.{adds_same, adds_then}
use Rattle.pg_hoa.proofs.TablePlaces.{at_known, known_and_rest, known_part, empty_word}
use Rattle.pg_hoa.proofs.table.place_block.Goals as goal

-- what is covered of the block
covered_part : (w : Way) (t : Stage) (slots block word known : ℕ) → IsDecided w → IsRow slots w.row → block < w.row.blocks
    → ((j : ℕ) → j < 64 → truth known j ≡ true → IsCovered w t (w.row.first + (block * 64 + j)))
    → Adds w.shape (at_known (w.row.first + block * w.row.width) w.row.width word known (way_step w)) t t
covered_part w t slots block word known d row h has =
    known_part w t (w.row.first + block * w.row.width) w.row.width word known d row.narrow
    (λ j small bit. let whole = row.whole block h in
    let place : w.row.first + (block * 64 + j) ≡ w.row.first + block * w.row.width + j = omega (arith, whole) in
    subst (IsCovered w t) place (has j small bit))

pub returns-then-rest-eq0-clause-adds : goal.returns-then-rest-eq0-clause-adds
returns-then-rest-eq0-clause-adds c =
    let w = c.args.way.now in
    let s = way_step w in
    let at : ℕ = w.row.first + c.args.block * w.row.width in
    let known = c.covered_word.result in
    adds_same w.shape (at_known at w.row.width c.args.word known s) (at_word at w.row.width c.args.word s) (stage c.args.filling.now)
    (stage c.args.filling.now)
    (covered_part w (stage c.args.filling.now) _ c.args.block c.args.word known c.requires.decided c.requires.row c.requires.within
    c.covered_word.ensures)
    (λ i. sym (append-nil (at_known at w.row.width c.args.word known s i))
    ∙ ap (λ l. at_known at w.row.width c.args.word known s i ++ l)
    (sym (ap (λ v. at_word at w.row.width v s i) c.if-rest-eq0.true ∙ empty_word at w.row.width s i))
    ∙ known_and_rest at w.row.width c.args.word known s i c.covered_word.type_inv c.requires.row.narrow)

pub returns-clause-adds : goal.returns-clause-adds
returns-clause-adds c =
    let w = c.args.way.now in
    let s = way_step w in
    let at : ℕ = w.row.first + c.args.block * w.row.width in
    let known = c.covered_word.result in
    let rest = bit_and c.args.word (18446744073709551615 - known) in
    adds_then w.shape (at_known at w.row.width c.args.word known s) (at_word at w.row.width rest s) (at_word at w.row.width c.args.word s)
    (stage c.args.filling.now) (stage c.args.filling.now) (stage c.cover.new.filling)
    (covered_part w (stage c.args.filling.now) _ c.args.block c.args.word known c.requires.decided c.requires.row c.requires.within
    c.covered_word.ensures)
    (c.cover.ensures.adds (stage c.args.filling.now) c.in_ok-number.ensures.adds)
    (λ i. known_and_rest at w.row.width c.args.word known s i c.covered_word.type_inv c.requires.row.narrow)
