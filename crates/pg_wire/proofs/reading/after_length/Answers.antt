use Rattle.std.proofs.Common.{arith, ◌∙◌}
use Rattle.pg_wire.proofs.Numbers.{number_is}
use Rattle.pg_wire.proofs.Lengths.{counted_by, too_few, miscounted}
use Rattle.pg_wire.proofs.reading.after_length.Goals.{then-length-gt-LONGEST-via-then-length-gt-LONGEST}
use Rattle.pg_wire.proofs.reading.after_length.Goals.{then-length-gt-LONGEST-via-else-length-gt-LONGEST+then-rest-length}
use Rattle.pg_wire.proofs.reading.after_length.Goals as goal

pub returns-then-bytes-lt4-clause-none : goal.returns-then-bytes-lt4-clause-none
returns-then-bytes-lt4-clause-none c = λ f s. too_few c.args.bytes.now f c.if-bytes-lt4.true s

pub returns-then-length-gt-LONGEST-clause-none : goal.returns-then-length-gt-LONGEST-clause-none
returns-then-length-gt-LONGEST-clause-none c = λ f s.
    miscounted c.args.bytes.now c.split_at.result.0.now c.split_at.result.1.now c.read_u32-length.result f c.split_at.ensures.by_index.0
    c.split_at.ensures.front_len (c.read_u32-length.ensures ∙ number_is c.split_at.result.0.now)
    (elim c.then-length-gt-LONGEST.branch [
      | then-length-gt-LONGEST-via-then-length-gt-LONGEST w ↦ λ size within. absurd (omega (arith, within, w.if-length-gt-LONGEST.true))
      | then-length-gt-LONGEST-via-else-length-gt-LONGEST+then-rest-length w ↦ λ size within. w.if-rest-length.true size
    ]) s

pub returns-clause-found : goal.returns-clause-found
returns-clause-found c =
    counted_by c.args.bytes.now c.split_at.result.0.now c.split_at.result.1.now c.read_u32-length.result (λ i. omega (arith, c.type_inv.bytes i))
    c.split_at.ensures.front c.split_at.ensures.by_index.0 c.split_at.ensures.front_len
    (c.read_u32-length.ensures ∙ number_is c.split_at.result.0.now) c.if-rest-length.false c.if-length-gt-LONGEST.false
