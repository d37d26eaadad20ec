use Rattle.pg_wire.proofs.Common.{◌≡◌, ◌++◌, ℕ, List, length, take, drop, Some, Ok, ◌∙◌, sym, subst, arith, take_at, IsNextLine}
use Rattle.pg_wire.proofs.Common.{all_components}
use Rattle.pg_wire.proofs.Lines.{none_left, cut_left, next_left}
use Rattle.pg_wire.proofs.lines_reader.VerticesReader.next.Goals as goal
use Rattle.pg_wire.proofs.lines_reader.VerticesReader.next.Goals.{In_default-read_numbers}

pub returns-in_default-clause-next : goal.returns-in_default-clause-next
returns-in_default-clause-next c = λ ls h. none_left ls c.args.self.now c.args.successors.now.items c.in_default.field-0 h c.in_default.ensures.read

pub returns-then-rest-count-clause-next : goal.returns-then-rest-count-clause-next
returns-then-rest-count-clause-next c = λ ls h. cut_left ls c.args.self.now c.args.successors.now.items c.in-Ok.head c.in-Ok.count c.in-Ok.rest.now h c.in-Ok.ensures.read c.if-rest-count.true

-- the numbers are there
fails : (c : In_default-read_numbers) → ⊥
fails c = absurd (omega (arith, c.in_default-read_numbers.ensures.cut, c.as_mut_slice.ensures.len, c.in_ok-resize.ensures.len, c.if-rest-count.false))

pub returns-in_default-read_numbers-clause-next : goal.returns-in_default-read_numbers-clause-next
returns-in_default-read_numbers-clause-next c = absurd (fails c)

pub returns-in_default-read_numbers-clause-ended : goal.returns-in_default-read_numbers-clause-ended
returns-in_default-read_numbers-clause-ended c = absurd (fails c)

pub returns-clause-next : goal.returns-clause-next
returns-clause-next c = λ ls h.
    let row = c.read_numbers.new.row in
    let len : c.resize.new.self.len ≡ c.in-Ok.count = c.in_ok-resize.ensures.len in
    let size : length row ≡ c.in-Ok.count = omega (arith, c.read_numbers.auto.row, c.as_mut_slice.ensures.len, len) in
    let whole : take c.resize.new.self.len (row ++ drop (length row) c.resize.new.self.items) ≡ row =
    take_at row (drop (length row) c.resize.new.self.items) c.resize.new.self.len (size ∙ sym len) in
    let numbers : (all_components c.in-Ok.count).read c.in-Ok.rest.now ≡ Ok (row, c.in-Ok-read_numbers.rest.now) =
    subst (λ (n : ℕ). (all_components n).read c.in-Ok.rest.now ≡ Ok (row, c.in-Ok-read_numbers.rest.now))
    (c.as_mut_slice.ensures.len ∙ len) c.in-Ok-read_numbers.ensures.read in
    subst (λ (items : List ℕ). IsNextLine ls (record { bytes = c.in-Ok-read_numbers.rest }) items (Some c.in-Ok.head)) (sym whole)
    (next_left ls c.args.self.now row c.in-Ok.head c.in-Ok.count c.in-Ok.rest.now c.in-Ok-read_numbers.rest h c.in-Ok.ensures.read numbers)
