use Rattle.std.proofs.Common.{◌≡◌, ◌<◌, ◌≤◌, ◌∷◌, [], ◌∙◌, length, length-append, arith, sym, subst, ap}
use Rattle.std.proofs.lemmas.Result.{IfOk-weaker}
use Rattle.pg_hoa_automaton.specs.Automata.{step}
use Rattle.pg_synth.specs.Mirrors.Drafts as drafts
use Rattle.pg_synth.proofs.Numbering.{inserted}
use Rattle.pg_verify.specs.Mirrors.Walks.{IsLasso, IsWalk, nth}
use Rattle.pg_verify.proofs.Walks.{first_walk, dead_end, refuted, rounded, again, fresh, longer_walk, few_visited, lasso_shows}
use Rattle.pg_verify.proofs.walk.refutation.Goals as goal

pub walk-init : goal.walk-init
walk-init c =
    subst (λ q. IsWalk c.args.product.now c.args.synth.now.game c.args.synth.now.initial c.args.solution.now c.in_ok-visited.visited.keys c.new-word.result.items q
    c.args.synth.now.initial) (sym c.start-state.ensures)
    (first_walk c.args.product.now c.args.synth.now.game c.args.synth.now.initial c.args.solution.now c.in_ok-visited.visited.keys
    c.new-word.result.items c.requires.game c.requires.won (c.in_ok-visited.ensures ∙ ap (λ n. n ∷ []) c.number_of.ensures) c.new-word.ensures.items)

pub returns-in_default : goal.returns-in_default
returns-in_default c =
    dead_end c.args.product.now c.args.synth.now.game c.args.synth.now.initial c.args.solution.now c.walk.visited.keys c.walk.word.items
    c.push.new.self.items c.walk.state c.walk.vertex c.chosen_step-letter.result.0 c.chosen_step-letter.result.1 c.requires.whole c.walk.invariant
    c.chosen_step-letter.ensures (sym c.in_default.ensures) c.in_ok-push.ensures.items

pub lasso_of-requires : goal.lasso_of-requires
lasso_of-requires c =
    let e = ap length c.deref.ensures.value in
    omega (arith, e, c.if-place-len.true, c.len.ensures, c.push.new.self.ok.0)

pub returns-then-place-len : goal.returns-then-place-len
returns-then-place-len c =
    let e = c.in_ok-place.ensures in
    let numbered : drafts.IsNumbered c.walk.visited.keys c.number_of-in-walk.result c.in_ok-place.place c.insert_full.new.self.keys =
    inserted c.walk.visited.keys c.insert_full.new.self.keys c.number_of-in-walk.result c.in_ok-place.place e.unique e.keys e.within e.stored in
    let long = ap length c.in_ok-push.ensures.items ∙ length-append c.walk.word.items (c.chosen_step-letter.result.0 ∷ []) in
    let below : c.in_ok-place.place < length c.push.new.self.items = omega (arith, c.if-place-len.true, c.len.ensures, c.push.new.self.ok.0) in
    let early : c.in_ok-place.place < length c.walk.visited.keys = omega (arith, below, long, c.walk.invariant.long) in
    let at : nth c.walk.visited.keys c.in_ok-place.place ≡ c.chosen_step-letter.result.1 =
    again c.walk.visited.keys c.insert_full.new.self.keys c.number_of-in-walk.result c.in_ok-place.place numbered early ∙ c.number_of-in-walk.ensures in
    let round = rounded c.args.product.now c.args.synth.now.game c.args.synth.now.initial c.args.solution.now c.walk.visited.keys c.walk.word.items
    c.push.new.self.items c.walk.state c.walk.vertex c.chosen_step-letter.result.0 c.chosen_step-letter.result.1 c.in_ok-place.place
    (step c.in-Some.target c.in-Some.field-0-1.now) c.walk.invariant c.chosen_step-letter.ensures (sym c.in-Some.ensures)
    c.in_ok-push.ensures.items below at in
    let refutes = refuted c.args.product.now c.args.synth.now.game c.args.synth.now.initial c.args.solution.now c.requires.automaton c.requires.whole
    c.requires.game c.requires.solution c.requires.sound c.requires.won c.walk.visited.keys c.push.new.self.items c.in_ok-place.place round in
    IfOk-weaker c.lasso_of.result _ _ (λ verdict h. lasso_shows c.args.product.now c.push.new.self.items c.in_ok-place.place verdict refutes
    (subst (λ ls. IsLasso ls c.in_ok-place.place verdict) c.deref.ensures.value h)) c.lasso_of.ensures

pub walk-preserved : goal.walk-preserved
walk-preserved c =
    let e = c.in_ok-place.ensures in
    let numbered : drafts.IsNumbered c.walk.visited.keys c.number_of-in-walk.result c.in_ok-place.place c.insert_full.new.self.keys =
    inserted c.walk.visited.keys c.insert_full.new.self.keys c.number_of-in-walk.result c.in_ok-place.place e.unique e.keys e.within e.stored in
    let long = ap length c.in_ok-push.ensures.items ∙ length-append c.walk.word.items (c.chosen_step-letter.result.0 ∷ []) in
    let late : length c.walk.visited.keys ≤ c.in_ok-place.place =
    omega (arith, c.if-place-len.false, c.len.ensures, c.push.new.self.ok.0, long, c.walk.invariant.long) in
    let new = fresh c.walk.visited.keys c.insert_full.new.self.keys c.number_of-in-walk.result c.in_ok-place.place numbered late in
    longer_walk c.args.product.now c.args.synth.now.game c.args.synth.now.initial c.args.solution.now c.walk.visited.keys c.insert_full.new.self.keys
    c.walk.word.items c.push.new.self.items c.walk.state c.walk.vertex c.chosen_step-letter.result.0 c.chosen_step-letter.result.1
    (step c.in-Some.target c.in-Some.field-0-1.now) c.walk.invariant c.chosen_step-letter.ensures (sym c.in-Some.ensures)
    c.in_ok-push.ensures.items new.0 numbered.kept (new.1 ∙ c.number_of-in-walk.ensures)

pub walk-smaller : goal.walk-smaller
walk-smaller c =
    let few = few_visited c.args.product.now c.args.synth.now.game c.args.synth.now.initial c.args.solution.now c.insert_full.new.self.keys c.push.new.self.items
    c.in-Some.target c.chosen_step-letter.result.1 (walk-preserved c) c.in_ok-place.ensures.unique in
    let long = ap length c.in_ok-push.ensures.items ∙ length-append c.walk.word.items (c.chosen_step-letter.result.0 ∷ []) in
    omega (arith, few, long)
