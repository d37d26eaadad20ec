use Rattle.pg_synth.proofs.Common.{◌≡◌, ◌++◌, ◌∷◌, [], Some, ap, sym, subst, ◌∙◌, OnOk, Line, Answers, add_fault, IsPlaceOf, place_priority}
use Rattle.pg_synth.proofs.Building.{place_at, line_is}
use Rattle.pg_synth.proofs.lines.add_vertex.Goals as goal

pub put_leads-requires-clause-place : goal.put_leads-requires-clause-place
put_leads-requires-clause-place c =
    let a = c.args.automaton.now in
    let at = place_at a c.args.layout.now c.sets.result c.args.identifier c.with_identifier-place.result c.requires.laid c.sets.ensures c.with_identifier-place.ensures in
    subst (IsPlaceOf a) (sym at) c.requires.place

pub returns-clause-added : goal.returns-clause-added
returns-clause-added c =
    let a = c.args.automaton.now in
    let n = c.args.identifier in
    let x = c.with_identifier-place.result in
    let at = place_at a c.args.layout.now c.sets.result n x c.requires.laid c.sets.ensures c.with_identifier-place.ensures in
    let priority = c.priority-priority.ensures ∙ ap (λ s. place_priority s c.sets-2.result x) c.shape.ensures.value
    ∙ ap (λ k. place_priority a.shape k x) c.sets-2.ensures in
    let line = line_is a n c.priority-priority.result c.owner.result c.deref.result.now (Some c.deref-2.result.now) x at priority c.owner.ensures
    (c.deref.ensures.value ∙ c.in_ok-put_leads.ensures) (ap Some (c.deref-2.ensures.value ∙ c.in_ok-put_name.ensures)) in
    subst (λ (l : Line). OnOk c.add.result (c.add.new.self ≡ c.args.builder.now ++ l ∷ [])) line c.add.ensures.ok

pub returns-clause-answer : goal.returns-clause-answer
returns-clause-answer c =
    let a = c.args.automaton.now in
    let n = c.args.identifier in
    let x = c.with_identifier-place.result in
    let at = place_at a c.args.layout.now c.sets.result n x c.requires.laid c.sets.ensures c.with_identifier-place.ensures in
    let priority = c.priority-priority.ensures ∙ ap (λ s. place_priority s c.sets-2.result x) c.shape.ensures.value
    ∙ ap (λ k. place_priority a.shape k x) c.sets-2.ensures in
    let line = line_is a n c.priority-priority.result c.owner.result c.deref.result.now (Some c.deref-2.result.now) x at priority c.owner.ensures
    (c.deref.ensures.value ∙ c.in_ok-put_leads.ensures) (ap Some (c.deref-2.ensures.value ∙ c.in_ok-put_name.ensures)) in
    subst (λ (l : Line). Answers c.add.result (add_fault c.args.builder.now l)) line c.add.ensures.answer
