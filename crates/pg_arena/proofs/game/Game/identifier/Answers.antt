use Rattle.pg_arena.proofs.Common.{◌≡◌, ℕ, List, ◌∙◌, ap, get_or, slice_index, Shared}
use Rattle.pg_arena.proofs.Vertices.{vertex_is, listed_by}
use Rattle.pg_arena.proofs.game.Game.identifier.Goals as goal

pub identifier_at-requires-clause-rising : goal.identifier_at-requires-clause-rising
identifier_at-requires-clause-rising c = rw (c.deref-2.ensures.value ∙ ap (λ (s : Shared). s.identifiers.items) c.deref.ensures)
    (listed_by c.args.self.now c.self.invariant.built c.self.view_is).rising

pub returns : goal.returns
returns c =
    let ids : List ℕ = c.self.inside.shared.value.identifiers.items in
    let ids-are : c.deref-2.result.now ≡ ids = c.deref-2.ensures.value ∙ ap (λ (s : Shared). s.identifiers.items) c.deref.ensures in
    rw (vertex_is c.args.self.now c.args.v c.self.invariant c.self.view_is c.requires)
    (c.identifier_at.ensures ∙ ap (λ (xs : List ℕ). slice_index xs c.v.inside.0) ids-are ∙ ap (λ (k : ℕ). get_or ids k 0) c.v.view_is)
