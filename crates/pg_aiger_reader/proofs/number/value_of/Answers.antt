use Rattle.pg_aiger_reader.proofs.Common.{◌≡◌, ◌<◌, ◌≤◌, ◌+◌, ◌-◌, ◌*◌, drop, get_or, length, arith, at_drop_more, value_from, value_grows}
use Rattle.pg_aiger_reader.proofs.number.value_of.Goals as goal

pub returns-then-value-from : goal.returns-then-value-from
returns-then-value-from c = λ small.
    let v = c.loop-byte.value in
    let xs = c.args.digits.now in
    let i = c.loop-byte.byte-index in
    let within : i < length xs = omega arith in
    let step : value_from v (drop i xs) ≡ value_from (10 * v + (get_or xs i 0 - 48)) (drop (i + 1) xs) =
    at_drop_more (value_from v) xs i 0 within in
    let grows : 10 * v + (get_or xs i 0 - 48) ≤ value_from (10 * v + (get_or xs i 0 - 48)) (drop (i + 1) xs) =
    value_grows (10 * v + (get_or xs i 0 - 48)) (drop (i + 1) xs) in
    let whole = c.loop-byte.invariant.rest in
    omega (arith, step, grows, whole)
