use Rattle.std.proofs.Common.{◌≡◌, ℕ, get_or, ◌<◌, ◌≤◌, ◌++◌, List, [], Option, Bool, length, map, take, arith, ap, sym, ◌∙◌}
use Rattle.std.proofs.lemmas.List.{take_all, append-nil}
use Rattle.pg_aiger.specs.declared.gate.Latch.{Latch}
use Rattle.pg_aiger.specs.Circuits.{no_latch}
use Rattle.pg_satisfies_check.specs.Mirrors.Known.{literal_in}
use Rattle.pg_satisfies_check.proofs.Cutting.{map_read, spoken_is}
use Rattle.pg_satisfies_check.proofs.rows.spoken.Goals as goal

pub latches-preserved : goal.latches-preserved
latches-preserved c =
    let latches = c.args.system.now.latches.items in
    let below : c.latches.latch-index < length latches = omega (arith, c.latches-test.true, ap length c.deref-latch-items.ensures.value) in
    map_read (λ (x : Latch). literal_in c.args.row.now x.next) latches c.latches.latch-index no_latch c.value_of.result [] c.latches.values.items
    c.push.new.self.items below c.latches.invariant c.in_ok-push.ensures.items
    (c.value_of.ensures
    ∙ ap (λ (xs : List Latch). literal_in c.args.row.now (get_or xs c.latches.latch-index no_latch).next) c.deref-latch-items.ensures.value)

pub literals-init : goal.literals-init
literals-init c =
    let latches = c.args.system.now.latches.items in
    let past : length latches ≤ c.latches.latch-index = omega (arith, c.latches-test.false, ap length c.deref-latch-items.ensures.value) in
    c.latches.invariant ∙ ap (map (λ (x : Latch). literal_in c.args.row.now x.next)) (take_all c.latches.latch-index latches past)
    ∙ sym (append-nil (map (λ (x : Latch). literal_in c.args.row.now x.next) latches))

pub literals-preserved : goal.literals-preserved
literals-preserved c =
    let literals = c.args.system.now.literals.items in
    let below : c.literals.literal-index < length literals = omega (arith, c.literals-test.true, ap length c.deref-literal-items.ensures.value) in
    map_read (literal_in c.args.row.now) literals c.literals.literal-index 0 c.value_of-in-literals.result
    (map (λ (x : Latch). literal_in c.args.row.now x.next) c.args.system.now.latches.items) c.literals.values.items
    c.push-in-literals.new.self.items below c.literals.invariant c.in_ok-push-2.ensures.items
    (c.value_of-in-literals.ensures
    ∙ ap (λ (xs : List ℕ). literal_in c.args.row.now (get_or xs c.literals.literal-index 0)) c.deref-literal-items.ensures.value)

pub returns : goal.returns
returns c =
    let literals = c.args.system.now.literals.items in
    let latches = c.args.system.now.latches.items in
    let past : length literals ≤ c.literals.literal-index = omega (arith, c.literals-test.false, ap length c.deref-literal-items.ensures.value) in
    c.literals.invariant
    ∙ ap (λ xs. map (λ (x : Latch). literal_in c.args.row.now x.next) latches ++ map (literal_in c.args.row.now) xs)
    (take_all c.literals.literal-index literals past)
    ∙ spoken_is c.args.row.now latches literals
