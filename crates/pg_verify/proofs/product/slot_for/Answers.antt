use Rattle.std.proofs.Common.{◌≡◌, ◌+◌, ◌≤◌, ℕ, List, Bool, length, map, arith, subst, ap}
use Rattle.std.specs.declared.vec.Vec.{Vec}
use Rattle.std.specs.declared.alloc.Global.{Global}
use Rattle.std.proofs.lemmas.List.{length-map}
use Rattle.pg_hoa_automaton.specs.Automata.{step}
use Rattle.pg_aiger_netlist.specs.Steps.{spelt}
use Rattle.pg_verify.specs.Mirrors.Products.{pair_of, IsNumbered}
use Rattle.pg_verify.proofs.Drafts.{put_some}
use Rattle.pg_verify.proofs.product.slot_for.Goals as goal

pub returns-in_ok-slot-in-Some-clause-put : goal.returns-in_ok-slot-in-Some-clause-put
returns-in_ok-slot-in-Some-clause-put c =
    let pairs = map pair_of c.args.draft.now.rows.keys in
    let after = map pair_of c.number_of.new.rows.keys in
    let lists = map (λ (v : Vec ℕ Global). v.items) c.args.draft.now.lists.items in
    let more = map (λ (v : Vec ℕ Global). v.items) c.store.new.lists.items in
    let n = c.in_ok-number-in-Some.number in
    let e = c.in_ok-set_state-in-Some.ensures in
    let state : IsNumbered pairs (spelt c.set_state.new.row.latches.items) c.in-Some.target n after =
    subst (λ q. IsNumbered pairs (spelt c.set_state.new.row.latches.items) q n after) e.state c.in_ok-number-in-Some.ensures.number in
    let number : IsNumbered pairs (spelt c.args.latches.now) c.in-Some.target n after =
    subst (λ (bits : List Bool). IsNumbered pairs (spelt bits) c.in-Some.target n after) e.latches state in
    let many = length-map c.args.draft.now.lists.items (λ (v : Vec ℕ Global). v.items) in
    let many' = length-map c.store.new.lists.items (λ (v : Vec ℕ Global). v.items) in
    let one = c.in_ok-slot-in-Some.ensures.one_list in
    let one_list : length more ≤ length lists + 1 = omega (arith, many, many', one) in
    put_some pairs after c.args.draft.now.steps.items c.store.new.steps.items lists more (spelt c.args.latches.now) n
    c.in_ok-slot-in-Some.slot (step c.in-Some.target c.in-Some.sets.now) _ c.in-Some.ensures number
    c.in_ok-slot-in-Some.ensures.steps c.in_ok-slot-in-Some.ensures.lists c.in_ok-slot-in-Some.ensures.one_step one_list c.in_ok-slot-in-Some.ensures.there
