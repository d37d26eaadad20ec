use Rattle.pg_wire.proofs.Common.{arith, nonzero}
use Rattle.pg_wire.proofs.Nonzero.{words_size, pairs_size}
use Rattle.pg_wire.proofs.kind.ValueKind.list_size.Goals as goal

pub returns-in-Dense-clause-size : goal.returns-in-Dense-clause-size
returns-in-Dense-clause-size c = λ vertex. rw c.in-Dense.is (omega (arith, words_size c.args.list.now))

pub returns-in-Sparse-clause-size : goal.returns-in-Sparse-clause-size
returns-in-Sparse-clause-size c = λ vertex. rw c.in-Sparse.is (omega (arith, pairs_size (nonzero c.args.list.now), c.nonzero_len.ensures.count))
