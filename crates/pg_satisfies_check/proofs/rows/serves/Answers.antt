use Rattle.std.proofs.Common.{◌≡◌, ◌<◌, ℕ, Bool, Some, length, arith}
use Rattle.pg_aiger.specs.Runs.{Valuation}
use Rattle.pg_satisfies_check.specs.declared.system.CircuitPart.{CircuitPart}
use Rattle.pg_satisfies_check.specs.Mirrors.Known.{known_at}
use Rattle.pg_satisfies_check.specs.Mirrors.Steps.{IsSeen, NoneSeen}
use Rattle.pg_satisfies_check.proofs.Stepping.{on_true_weaker}
use Rattle.pg_satisfies_check.proofs.Cutting.{served}
use Rattle.pg_satisfies_check.proofs.rows.serves.Goals as goal

pub returns : goal.returns
returns c =
    let rows = c.args.rows.now in
    let row = c.args.row.now in
    let below : c.args.number < length rows = omega arith in
    on_true_weaker c.says_no_more.result ((x : ℕ) (b : Bool) → known_at c.deref.result.now x ≡ Some b → known_at row x ≡ Some b)
    ((s : CircuitPart) (u : Valuation) → NoneSeen s rows u → ¬ IsSeen s row u)
    (λ less s u none. served s rows c.args.number c.index-rows-number.result c.deref.result.now row u below c.index-rows-number.is
    c.deref.ensures.value less none) c.says_no_more.ensures
