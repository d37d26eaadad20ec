use Rattle.pg_arena.proofs.Common.{◌≡◌, ℕ, ◌<◌, slice_index, ◌∙◌, ap, rules, Shared}
use Rattle.pg_arena.proofs.Vertices.{listed_by, all_fit}
use Rattle.pg_arena.proofs.game.Game.len.Goals as goal

pub returns-clause-identifiers : goal.returns-clause-identifiers
returns-clause-identifiers c =
    let ids-are : c.as_slice-identifiers.result.now ≡ c.self.inside.shared.value.identifiers.items = c.as_slice-identifiers.ensures.value
    ∙ ap (λ (s : Shared). s.identifiers.items) c.deref.ensures in
    let fit : (i : ℕ) → slice_index c.self.inside.shared.value.identifiers.items i < 4294967296 =
    rw (← ids-are) (λ i. search rules) in
    all_fit c.self.inside.shared.value.identifiers.items c.args.self.now (listed_by c.args.self.now c.self.invariant.built c.self.view_is) fit
