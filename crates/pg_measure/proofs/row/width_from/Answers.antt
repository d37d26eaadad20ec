use Rattle.pg_measure.proofs.Common.{ℕ, get_or, nat_le, arith, rules, of_calls, IsPartitionPoint-from_clause}
use Rattle.pg_measure.proofs.Widths.{width_is, at_least_falls, at_least_from, less_from}
use Rattle.pg_measure.proofs.row.width_from.Goals as goal

pub returns-clause-value : goal.returns-clause-value
returns-clause-value c =
    let point = IsPartitionPoint-from_clause
    (λ (b : ℕ × ℕ). nat_le c.args.p b.0) c.args.bounds.now c.partition_point.result c.partition_point.ensures.partitioned
    (at_least_falls c.args.bounds.now c.args.p c.requires.falling) (λ a r f h. search (rules, of_calls)) in
    width_is c.args.bounds.now c.args.p c.partition_point.result c.partition_point.ensures.bound
    (λ k d l. at_least_from c.args.p (get_or c.args.bounds.now k d).0 (point.0 k d (omega arith) l))
    (λ k d l m. less_from c.args.p (get_or c.args.bounds.now k d).0 (point.1 k d l m))
