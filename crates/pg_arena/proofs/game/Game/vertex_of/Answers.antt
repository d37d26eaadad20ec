use Rattle.pg_arena.proofs.Common.{◌≡◌, ◌<◌, false, List, ℕ, length, slice_index, ◌∙◌, ap, Shared, is_among}
use Rattle.pg_arena.proofs.Vertices.{listed_by, found, missing, only_one}
use Rattle.pg_arena.proofs.game.Game.vertex_of.Goals as goal

pub place_of-requires : goal.place_of-requires
place_of-requires c = rw (c.deref-2.ensures.value ∙ ap (λ (s : Shared). s.identifiers.items) c.deref.ensures)
    (listed_by c.args.self.now c.self.invariant.built c.self.view_is).rising

-- the place that is found is that of the identifier
at_place : (c : goal.In-Some) → let ids = c.self.inside.shared.value.identifiers.items in
    (c.in-Some.place < length ids) × (slice_index ids c.in-Some.place ≡ c.args.identifier)
at_place c =
    let ids-are = c.deref-2.ensures.value ∙ ap (λ (s : Shared). s.identifiers.items) c.deref.ensures in
    (rw (← ids-are) c.in-Some.ensures.within, rw (← ids-are) c.in-Some.ensures.found)

pub returns-in-Some-clause-found : goal.returns-in-Some-clause-found
returns-in-Some-clause-found c =
    found c.self.inside.shared.value.identifiers.items c.args.self.now c.args.identifier c.in-Some.place
    (listed_by c.args.self.now c.self.invariant.built c.self.view_is) (at_place c).0 (at_place c).1

pub returns-in-Some-clause-only : goal.returns-in-Some-clause-only
returns-in-Some-clause-only c = λ v within named.
    only_one c.self.inside.shared.value.identifiers.items c.args.self.now c.args.identifier c.in-Some.place v
    (listed_by c.args.self.now c.self.invariant.built c.self.view_is) (at_place c).0 (at_place c).1 within named

pub returns-in-None-clause-missing : goal.returns-in-None-clause-missing
returns-in-None-clause-missing c =
    let ids : List ℕ = c.self.inside.shared.value.identifiers.items in
    let ids-are : c.deref-2.result.now ≡ ids = c.deref-2.ensures.value ∙ ap (λ (s : Shared). s.identifiers.items) c.deref.ensures in
    let l = listed_by c.args.self.now c.self.invariant.built c.self.view_is in
    let none : is_among ids c.args.identifier ≡ false = rw (← ids-are) c.in-None.ensures.missing in
    missing ids c.args.self.now c.args.identifier l none

pub returns-in-None-clause-only : goal.returns-in-None-clause-only
returns-in-None-clause-only c = λ v within named. absurd (returns-in-None-clause-missing c v within named)
