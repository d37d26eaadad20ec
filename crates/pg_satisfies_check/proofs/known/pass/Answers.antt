use Rattle.std.proofs.Common.{◌≡◌, false}
use Rattle.pg_aiger.specs.Runs.{value}
use Rattle.pg_satisfies_check.specs.Mirrors.Known.{Meets}
use Rattle.pg_satisfies_check.proofs.Knowing.{learns_by, as_left}
use Rattle.pg_satisfies_check.proofs.known.pass.Goals as goal

pub returns-then-is_known-6 : goal.returns-then-is_known-6
returns-then-is_known-6 c =
    learns_by (λ u. Meets u c.args.gate) (λ u. value u c.args.gate.rhs0 ≡ false) c.args.row.now c.note-then-is_known-6.result
    c.note-then-is_known-6.new.row
    (λ u meets known. as_left c.args.gate c.args.row.now u meets known c.if-is_known-5.ensures c.if-is_known-6.ensures)
    c.note-then-is_known-6.ensures
