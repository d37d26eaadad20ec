use Rattle.std.proofs.Common.{◌≡◌, ◌<◌, ◌/◌, ◌∙◌, min, map, length, arith, ap, sym}
use Rattle.std.proofs.lemmas.List.{length-map}
use Rattle.pg_verify.specs.Reached.{most_states}
use Rattle.pg_verify.specs.Mirrors.Products.{pair_of}
use Rattle.pg_verify.proofs.Reaching.{too_many}
use Rattle.pg_verify.proofs.product.explore.Goals as goal

pub returns-then-listed-most-clause-refused : goal.returns-then-listed-most-clause-refused
returns-then-listed-most-clause-refused c =
    let a = c.args.automaton.now in
    let keys = c.states.draft.rows.keys in
    let many = length-map keys pair_of in
    let same = ap length c.listed-in-states.ensures.same in
    let most : most_states a ≡ c.most_states-most.result =
    ap (λ l. min 65535 (16777216 / l)) (sym c.requires.letters) ∙ sym c.most_states-most.ensures in
    let over = c.if-listed-most.true in
    let more : most_states a < length (map pair_of keys) = omega (arith, many, same, most, over) in
    too_many a c.args.netlist.now (map pair_of keys) c.states.draft.slots.items c.states.draft.steps.items
    (map (λ v. v.items) c.states.draft.lists.items) c.states.invariant.draft
    (c.listed-in-states.ensures.distinct (length c.args.netlist.now.latches) c.states.invariant.wide) more
