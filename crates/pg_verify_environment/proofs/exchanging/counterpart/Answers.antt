use Rattle.std.proofs.Common.{◌≡◌, ◌+◌, ◌*◌, ◌%◌, ◌^◌, ◌<◌, ◌≤◌, arith, refl, sym, subst, ap, ◌∙◌}
use Rattle.pg_hoa_automaton.specs.declared.shape.Shape.{Shape}
use Rattle.pg_hoa_automaton.specs.declared.table.Table.{Table}
use Rattle.pg_hoa_automaton.specs.Mirrors.Views.{viewed}
use Rattle.pg_verify_environment.specs.Counterparts.{opposite, opposite_sets, IsCounterpart}
use Rattle.pg_verify_environment.proofs.Made.{IsTableOf, made, made_table}
use Rattle.pg_verify_environment.proofs.exchanging.counterpart.Goals as goal

pub from_parts-requires : goal.from_parts-requires
from_parts-requires c =
    let a = c.args.automaton.now in
    let is = c.states-states.ensures.automaton in
    let t : Table = record {
      states = c.states-states.result + 1;
      letters = 1 * 2 ^ c.propositions-letters.result % 4294967296;
      slots = c.in_ok-slots.field-0.slots;
      steps = c.in_ok-slots.field-0.steps;
      lists = c.in_ok-slots.field-0.lists;
    } in
    let table : IsTableOf a t = made_table a t c.propositions-letters.result is (ap (λ n. n + 1) c.states-states.ensures.value)
    c.propositions-letters.ensures refl c.in_ok-slots.ensures
    (let v = c.states-states.ensures.value in omega (arith, v, c.if-states-ge-MOST_STATES.false))
    (subst (λ n. (n + 1) * t.letters ≤ 16777216) c.states-states.ensures.value (omega (arith, c.if-states-letters-gt-MOST_STEPS.false))) in
    let whole : IsCounterpart a (viewed c.start.result c.in_ok-names_of.field-0.items c.in_ok-exchanged.field-0.items c.opposite_sets.result
    c.opposite.result t) =
    made a t c.in_ok-names_of.field-0.items c.in_ok-exchanged.field-0.items c.start.result c.opposite_sets.result c.opposite.result is table
    c.in_ok-names_of.ensures c.in_ok-exchanged.ensures c.start.ensures
    (c.opposite_sets.ensures ∙ ap (λ (s : Shape). opposite_sets s c.sets.result) c.shape.ensures.value ∙ ap (opposite_sets a.shape) c.sets.ensures)
    (c.opposite.ensures ∙ ap opposite c.shape-2.ensures.value) in
    whole.is_automaton

pub returns : goal.returns
returns c =
    let a = c.args.automaton.now in
    let is = c.states-states.ensures.automaton in
    let t : Table = record {
      states = c.states-states.result + 1;
      letters = 1 * 2 ^ c.propositions-letters.result % 4294967296;
      slots = c.in_ok-slots.field-0.slots;
      steps = c.in_ok-slots.field-0.steps;
      lists = c.in_ok-slots.field-0.lists;
    } in
    let table : IsTableOf a t = made_table a t c.propositions-letters.result is (ap (λ n. n + 1) c.states-states.ensures.value)
    c.propositions-letters.ensures refl c.in_ok-slots.ensures
    (let v = c.states-states.ensures.value in omega (arith, v, c.if-states-ge-MOST_STATES.false))
    (subst (λ n. (n + 1) * t.letters ≤ 16777216) c.states-states.ensures.value (omega (arith, c.if-states-letters-gt-MOST_STEPS.false))) in
    let whole : IsCounterpart a (viewed c.start.result c.in_ok-names_of.field-0.items c.in_ok-exchanged.field-0.items c.opposite_sets.result
    c.opposite.result t) =
    made a t c.in_ok-names_of.field-0.items c.in_ok-exchanged.field-0.items c.start.result c.opposite_sets.result c.opposite.result is table
    c.in_ok-names_of.ensures c.in_ok-exchanged.ensures c.start.ensures
    (c.opposite_sets.ensures ∙ ap (λ (s : Shape). opposite_sets s c.sets.result) c.shape.ensures.value ∙ ap (opposite_sets a.shape) c.sets.ensures)
    (c.opposite.ensures ∙ ap opposite c.shape-2.ensures.value) in
    record { counterpart = subst (IsCounterpart a) (sym c.from_parts.ensures) whole; refused = tt }
