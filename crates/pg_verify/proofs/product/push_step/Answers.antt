use Rattle.std.proofs.Common.{◌≡◌, ℕ, ◌%◌, ◌<◌, List, get_or, length, arith, refl, sym, subst, ap, ◌∙◌}
use Rattle.std.specs.Prelude.{map}
use Rattle.std.proofs.lemmas.List.{get_or-map, get_or_default, length-map}
use Rattle.pg_hoa_automaton.specs.Automata.{next}
use Rattle.pg_synth.proofs.Letters.{both_parts}
use Rattle.pg_aiger_netlist.specs.Steps.{spelt}
use Rattle.pg_verify.specs.Mirrors.Products.{Pair, pair, pair_of, pair_at, Gives, IsPut}
use Rattle.pg_verify.specs.declared.states.ProductState.{ProductState}
use Rattle.pg_verify.proofs.Drafts.{step_pushed}
use Rattle.pg_verify.proofs.product.push_step.Goals as goal

pub output-output-requires-clause-few : goal.output-output-requires-clause-few
output-output-requires-clause-few c =
    let b = both_parts c.args.automaton.now.controllable in
    let m = c.requires.automaton.marks in
    let f = c.requires.automaton.few_propositions in
    let o = c.requires.outputs in omega (arith, b, m, f, o)

pub returns-clause-draft : goal.returns-clause-draft
returns-clause-draft c =
    let x : Pair = pair_at (map pair_of c.args.draft.now.rows.keys) c.args.k in
    let k_in : c.args.k < length (map pair_of c.args.draft.now.rows.keys) =
    (let n = length-map c.args.draft.now.rows.keys pair_of in let s = c.requires.state in omega (arith, n, s)) in
    let row = c.index-rows-k.result in
    let here : pair_of (get_or c.listed-rows.result.now c.args.k row) ≡ x =
    ap (λ (rows : List ProductState). pair_of (get_or rows c.args.k row)) c.listed-rows.ensures.same
    ∙ sym (get_or-map pair_of c.args.draft.now.rows.keys c.args.k row (pair 0 0) c.requires.state) in
    let gives : Gives c.args.netlist.now x.latches c.args.input c.output-output.result (spelt c.next.new.latches) =
    λ v is. (c.output-output.ensures x.latches c.args.input v c.requires.values is, c.next.ensures x.latches c.args.input v c.requires.values is) in
    step_pushed c.args.automaton.now c.args.netlist.now (map pair_of c.args.draft.now.rows.keys) (map pair_of c.slot_for.new.draft.rows.keys)
    c.args.draft.now.slots.items c.slot_for.new.draft.slots.items c.push.new.self.items c.args.draft.now.steps.items c.slot_for.new.draft.steps.items
    (map (λ v. v.items) c.args.draft.now.lists.items) (map (λ v. v.items) c.slot_for.new.draft.lists.items) c.args.controllable.now c.args.k
    c.args.input c.in_ok-slot.slot c.output-output.result (spelt c.next.new.latches) c.joined-letter.result x c.requires.automaton
    c.requires.draft c.requires.marks (get_or_default (map pair_of c.args.draft.now.rows.keys) c.args.k (pair 0 0) x k_in) k_in c.requires.input
    c.requires.place c.requires.acyclic gives c.joined-letter.ensures
    (subst (λ (y : Pair). IsPut (map pair_of c.args.draft.now.rows.keys) (map pair_of c.slot_for.new.draft.rows.keys) c.args.draft.now.steps.items
    c.slot_for.new.draft.steps.items (map (λ v. v.items) c.args.draft.now.lists.items) (map (λ v. v.items) c.slot_for.new.draft.lists.items)
    (spelt c.next.new.latches) (next c.args.automaton.now y.state c.joined-letter.result) c.in_ok-slot.slot) here c.in_ok-slot.ensures.put)
    c.in_ok-slot.ensures.slots c.in_ok-push.ensures.items
