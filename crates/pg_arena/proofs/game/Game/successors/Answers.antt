use Rattle.pg_arena.proofs.Common.{◌≡◌, ◌≤◌, ℕ, List, length, slice_range, ◌∙◌, subst, sym, ap, Entry, Shared, entry_at}
use Rattle.pg_arena.proofs.Vertices.{vertex_is, entry_read, range_is}
use Rattle.pg_arena.proofs.game.Game.successors.Goals as goal

-- the range of the entry that is read lies among the targets
range : (c : goal.After-row_known-2-1)
    → let e = c.index-entry.result.now in (e.from ≤ e.to) × (e.to ≤ length c.self.inside.shared.value.targets.items)
range c =
    let is =
    entry_read c.args.self.now c.args.v c.v.inside.0 c.index-entry.result.now c.self.invariant c.self.view_is c.requires c.v.view_is
    c.index-entry.ensures in
    subst (λ (e : Entry). (e.from ≤ e.to) × (e.to ≤ length c.self.inside.shared.value.targets.items)) (sym is)
    (range_is c.args.self.now c.args.v c.self.invariant c.self.view_is c.requires)

pub slice_bounds-result-count : goal.slice_bounds-result-count
slice_bounds-result-count c = (range c).0

pub slice_bounds-result-start : goal.slice_bounds-result-start
slice_bounds-result-start c = (range c).0

pub slice_bounds-result-end : goal.slice_bounds-result-end
slice_bounds-result-end c = rw (c.deref-2.ensures.value ∙ ap (λ (s : Shared). s.targets.items) c.deref.ensures) (range c).1

pub returns : goal.returns
returns c =
    let is : c.index-entry.result.now ≡ entry_at c.self.inside.entries.items c.args.v =
    entry_read c.args.self.now c.args.v c.v.inside.0 c.index-entry.result.now c.self.invariant c.self.view_is c.requires c.v.view_is
    c.index-entry.ensures in
    rw (vertex_is c.args.self.now c.args.v c.self.invariant c.self.view_is c.requires)
    (ap (λ (ts : List ℕ). slice_range ts c.index-entry.result.now.from c.index-entry.result.now.to)
    (c.deref-2.ensures.value ∙ ap (λ (s : Shared). s.targets.items) c.deref.ensures)
    ∙ ap (λ (e : Entry). slice_range c.self.inside.shared.value.targets.items e.from e.to) is)
