use Rattle.std.proofs.Common.{length, ap, ◌∙◌}
use Rattle.pg_verify.proofs.Numbering.{found, put, put_wide}
use Rattle.pg_verify.proofs.states.number_of.Goals as goal

pub returns-in-Some-clause-number : goal.returns-in-Some-clause-number
returns-in-Some-clause-number c = found c.args.rows.now.keys c.args.row.now c.in-Some.number c.in-Some.ensures.index

pub returns-clause-number : goal.returns-clause-number
returns-clause-number c =
    let e = c.in_ok-number.ensures in
    put c.args.rows.now.keys c.insert_full.new.self.keys c.args.row.now c.in_ok-copy_of.field-0 e.stored.0 c.in_ok-number.number
    c.in_ok-copy_of.ensures.0 e.keys e.within e.stored.1 e.stored.2

pub returns-clause-wide : goal.returns-clause-wide
returns-clause-wide c = λ width long wide.
    put_wide c.args.rows.now.keys c.insert_full.new.self.keys c.in_ok-copy_of.field-0 width (ap length c.in_ok-copy_of.ensures.1 ∙ long) wide c.in_ok-number.ensures.keys
