use Rattle.std.proofs.Common.{rules, ◌≡◌, ◌<◌, ◌+◌, length, arith, refl, sym, subst, ap, ◌∙◌}
use Rattle.std.proofs.lemmas.Bool.{eqb-true}
use Rattle.pg_aiger_netlist.specs.Mirrors.Marks.{HasPassed, IsUnderWay}
use Rattle.pg_aiger_netlist.proofs.Passing.{first_pass, part_within, pass_round, whole, cycle_at}
use Rattle.pg_aiger_netlist.proofs.order.order_of.Goals as goal

pub place_rest-requires : goal.place_rest-requires
place_rest-requires c =
    part_within (length c.args.known.now) (length c.place.new.known) c.args.gates.now c.in_ok-waiting.waiting.items c.deref.result.now c.requires
    c.in_ok-waiting.ensures.from c.deref.ensures.value c.in_ok-waiting.ensures.as_long

pub rounds-init : goal.rounds-init
rounds-init c =
    let first : IsUnderWay c.args.known.now c.args.gates.now c.place.new.known c.place.new.ordered.items c.in_ok-waiting.waiting.items =
    first_pass c.args.known.now c.args.gates.now c.place.new.known c.place.new.ordered.items c.in_ok-waiting.waiting.items
    (subst (λ before. HasPassed c.args.known.now before c.args.gates.now c.place.new.known c.place.new.ordered.items c.in_ok-waiting.waiting.items)
    c.in_ok-ordered.ensures.items c.in_ok-waiting.ensures) in
    subst (IsUnderWay c.args.known.now c.args.gates.now c.place_rest.new.known c.place_rest.new.ordered.items) c.deref.ensures.value
    (c.in_ok-place_rest.ensures c.args.known.now c.args.gates.now
    (subst (IsUnderWay c.args.known.now c.args.gates.now c.place.new.known c.place.new.ordered.items) (sym c.deref.ensures.value) first))

pub place-requires-in-rounds : goal.place-requires-in-rounds
place-requires-in-rounds c =
    part_within (length c.args.known.now) (length c.rounds.known) c.args.gates.now c.rounds.waiting.items c.deref-in-rounds.result.now c.requires
    c.rounds.invariant.from c.deref-in-rounds.ensures.value c.rounds.invariant.as_long

pub returns-then-is_empty-clause-order : goal.returns-then-is_empty-clause-order
returns-then-is_empty-clause-order c =
    let none = eqb-true _ _ (sym c.is_empty.ensures ∙ c.if-is_empty.true) in
    whole c.args.known.now c.args.gates.now c.place-in-rounds.new.known c.place-in-rounds.new.ordered.items c.in_ok-rest.rest.items
    (pass_round c.args.known.now c.args.gates.now c.rounds.known c.rounds.ordered.items c.rounds.waiting.items c.place-in-rounds.new.known
    c.place-in-rounds.new.ordered.items c.in_ok-rest.rest.items c.rounds.invariant
    (subst (λ gs. HasPassed c.rounds.known c.rounds.ordered.items gs c.place-in-rounds.new.known c.place-in-rounds.new.ordered.items
    c.in_ok-rest.rest.items) c.deref-in-rounds.ensures.value c.in_ok-rest.ensures))
    (omega (arith, none, c.in_ok-rest.rest.ok.0))

pub returns-then-len-before-clause-fault : goal.returns-then-len-before-clause-fault
returns-then-len-before-clause-fault c =
    cycle_at c.args.known.now c.args.gates.now c.rounds.known c.rounds.ordered.items c.rounds.waiting.items c.place-in-rounds.new.known
    c.place-in-rounds.new.ordered.items c.in_ok-rest.rest.items c.deref-in-rounds.result.now c.index.result.now c.min-place.result
    c.rounds.invariant c.in_ok-rest.ensures c.deref-in-rounds.ensures.value (search rules) (search rules) c.index.ensures

pub rounds-preserved : goal.rounds-preserved
rounds-preserved c =
    pass_round c.args.known.now c.args.gates.now c.rounds.known c.rounds.ordered.items c.rounds.waiting.items c.place-in-rounds.new.known
    c.place-in-rounds.new.ordered.items c.in_ok-rest.rest.items c.rounds.invariant
    (subst (λ gs. HasPassed c.rounds.known c.rounds.ordered.items gs c.place-in-rounds.new.known c.place-in-rounds.new.ordered.items
    c.in_ok-rest.rest.items) c.deref-in-rounds.ensures.value c.in_ok-rest.ensures)
