use Rattle.pg_wire.proofs.Common.{ap, Ok, List, ℕ, nonzero, err_from_is_err_and}
use Rattle.pg_wire.proofs.Left.{pairs_known, pairs_read}
use Rattle.pg_wire.proofs.Bodies.{fails_known}
use Rattle.pg_wire.proofs.reader.ValuesReader.read_pairs.Goals as goal

pub returns-in_err-pairs-clause-list : goal.returns-in_err-pairs-clause-list
returns-in_err-pairs-clause-list c = λ list ms e h.
    let p = err_from_is_err_and c.from_residual.result c.from_residual.ensures.1 in
    rw (p.1, p.2) (fails_known c.in_err-pairs.field-0.0 _ _ (nonzero list) (pairs_known c.args.self.now list ms e h) c.in_err-pairs.ensures.read, tt)

pub returns-clause-list : goal.returns-clause-list
returns-clause-list c = λ list ms e h.
    let p = pairs_read c.args.self.now c.in_ok-pairs.pairs list ms c.in_ok-pairs.rest e h c.in_ok-pairs.ensures.read in
    (ap (λ (ps : List (ℕ × ℕ)). Ok ps) p.0, p.1)
