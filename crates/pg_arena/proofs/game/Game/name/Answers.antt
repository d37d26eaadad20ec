use Rattle.pg_arena.proofs.Common.{◌≡◌, ℕ, List, Option, ◌∙◌, ap, Vec, Global, Shared, place_at, name_in}
use Rattle.pg_arena.proofs.Vertices.{vertex_is}
use Rattle.pg_arena.proofs.game.Game.name.Goals as goal

pub returns : goal.returns
returns c =
    let names : List (Vec ℕ Global) = c.self.inside.shared.value.names.items in
    let places : List (Option ℕ) = c.self.inside.shared.value.places.items in
    let place : c.place_at-place.result ≡ place_at places c.args.v = c.place_at-place.ensures
    ∙ ap (λ (ps : List (Option ℕ)). place_at ps c.v.inside.0) (c.deref-2.ensures.value ∙ ap (λ (s : Shared). s.places.items) c.deref.ensures)
    ∙ ap (place_at places) c.v.view_is in
    rw (vertex_is c.args.self.now c.args.v c.self.invariant c.self.view_is c.requires)
    (c.name_at.ensures ∙ ap (λ (ns : List (Vec ℕ Global)). name_in ns c.place_at-place.result)
    (c.deref-4.ensures.value ∙ ap (λ (s : Shared). s.names.items) c.deref-3.ensures) ∙ ap (name_in names) place)
