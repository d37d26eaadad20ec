use Rattle.std.proofs.Common.{◌≡◌, Bool, Some, get_or, sym, ◌∙◌}
use Rattle.pg_aiger.specs.Circuits.{no_latch}
use Rattle.pg_aiger.specs.Runs.{value}
use Rattle.pg_satisfies_check.specs.Mirrors.Lassos.{AreTaken}
use Rattle.pg_satisfies_check.proofs.Knowing.{learns_more, learns_not}
use Rattle.pg_satisfies_check.proofs.link.note_latches.Goals as goal

pub loop-place-preserved : goal.loop-place-preserved
loop-place-preserved c =
    learns_more (λ u. AreTaken c.args.latches.now c.args.values.now u)
    (λ u. (b : Bool) → c.known_at.result ≡ Some b → value u (get_or c.args.latches.now c.loop-place.place no_latch).literal ≡ b) c.args.row.now c.loop-place.row
    c.note_value.new.row c.note_value.result
    (λ u taken b e. taken c.loop-place.place b c.loop-place-test.true (sym c.known_at.ensures ∙ e))
    c.loop-place.invariant c.note_value.ensures

pub returns-then-not-note_value : goal.returns-then-not-note_value
returns-then-not-note_value c =
    learns_not (λ u. AreTaken c.args.latches.now c.args.values.now u)
    (λ u. (b : Bool) → c.known_at.result ≡ Some b → value u (get_or c.args.latches.now c.loop-place.place no_latch).literal ≡ b) c.args.row.now c.loop-place.row
    c.note_value.new.row c.note_value.new.row c.note_value.result
    (λ u taken b e. taken c.loop-place.place b c.loop-place-test.true (sym c.known_at.ensures ∙ e))
    c.loop-place.invariant c.note_value.ensures c.if-not-note_value.true
