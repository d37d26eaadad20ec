use Rattle.std.proofs.Common.{◌≡◌, Bool, Some, get_or}
use Rattle.pg_aiger.specs.Runs.{value, HaveBits}
use Rattle.pg_aiger_netlist.specs.Steps.{spelt}
use Rattle.pg_satisfies_check.proofs.Knowing.{learns_more, learns_not}
use Rattle.pg_satisfies_check.proofs.Linking.{bit_told}
use Rattle.pg_satisfies_check.proofs.link.note_letter.Goals as goal

pub loop-place-preserved : goal.loop-place-preserved
loop-place-preserved c =
    learns_more (λ u. HaveBits u c.args.inputs.now (spelt c.args.letter.now))
    (λ u. (b : Bool) → c.bit_of.result ≡ Some b → value u (get_or c.args.inputs.now c.loop-place.place 0) ≡ b) c.args.row.now c.loop-place.row
    c.note_value.new.row c.note_value.result
    (λ u bits b e. bit_told u c.args.inputs.now c.args.letter.now c.loop-place.place b bits c.loop-place-test.true (c.bit_of.ensures b e))
    c.loop-place.invariant c.note_value.ensures

pub returns-then-not-note_value : goal.returns-then-not-note_value
returns-then-not-note_value c =
    learns_not (λ u. HaveBits u c.args.inputs.now (spelt c.args.letter.now))
    (λ u. (b : Bool) → c.bit_of.result ≡ Some b → value u (get_or c.args.inputs.now c.loop-place.place 0) ≡ b) c.args.row.now c.loop-place.row
    c.note_value.new.row c.note_value.new.row c.note_value.result
    (λ u bits b e. bit_told u c.args.inputs.now c.args.letter.now c.loop-place.place b bits c.loop-place-test.true (c.bit_of.ensures b e))
    c.loop-place.invariant c.note_value.ensures c.if-not-note_value.true
