use Rattle.std.proofs.Common.{◌∙◌, arith, sym}
use Rattle.std.proofs.lemmas.List.{length-map}
use Rattle.pg_satisfies_texts.proofs.Meant.{name_at, texts}
use Rattle.pg_satisfies_texts.proofs.Tables.{one_put}
use Rattle.pg_satisfies_texts.proofs.signals.names_alone.Goals as goal

pub loop-name-preserved : goal.loop-name-preserved
loop-name-preserved c =
    let i = c.loop-name.name-index in
    one_put (texts c.args.names.now) c.loop-name.table c.insert.new.self i c.as_slice.result.now
    (name_at c.args.names.now i c.name-item.result c.loop-name-test.true c.name-item.is ∙ sym c.as_slice.ensures.value)
    c.in_ok-insert.ensures.updates c.loop-name.invariant

pub returns : goal.returns
returns c = λ k lt.
    let l = length-map c.args.names.now (λ v. v.items) in
    let all = c.loop-name-test.false in
    c.loop-name.invariant k (omega (arith, l))
