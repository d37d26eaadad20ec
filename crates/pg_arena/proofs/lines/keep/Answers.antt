use Rattle.pg_arena.proofs.Common.{ℕ, List, Option, Some, arith, nat_tests}
use Rattle.pg_arena.proofs.Adding.{noted_by, noted_before}
use Rattle.pg_arena.proofs.lines.keep.Goals as goal

pub returns-in-Some-clause-names : goal.returns-in-Some-clause-names
returns-in-Some-clause-names c = rw c.in-Some.is (rw c.unwrap.ensures at c.push.ensures.items)

pub returns-in-Some-clause-same : goal.returns-in-Some-clause-same
returns-in-Some-clause-same c = λ v lt.
    let places : List (Option ℕ) = c.args.places.now.items in
    let place : Option ℕ = Some c.len-place.result in
    let are = noted_by places c.resize.new.self.items c.push-in-Some.new.self.items c.args.line c.args.places.now.len place c.args.places.now.ok.0
    (rw c.unwrap-in-Some.ensures at c.resize.ensures.items) (rw c.unwrap-in-Some-2.ensures at c.push-in-Some.ensures.items) in
    rw are (noted_before places c.args.line place c.requires.few_places v lt)

pub returns-in-Some-clause-place : goal.returns-in-Some-clause-place
returns-in-Some-clause-place c = grind (arith, nat_tests)

pub returns-in-Some-clause-few_places : goal.returns-in-Some-clause-few_places
returns-in-Some-clause-few_places c = grind (arith, nat_tests)
