use Rattle.std.proofs.Common.{◌≡◌, ◌<◌, ◌∷◌, [], ℕ, length, get_or, true, false, sym, subst, ◌∙◌, arith, inl, inr, length-append}
use Rattle.std.proofs.lemmas.Bool.{cases_lt}
use Rattle.std.proofs.lemmas.List.{get_or_push, get_or_default}
use Rattle.std.proofs.Math.ListN.{get_or-append}
use Rattle.pg_coord_partition.proofs.VertexSets.{room_left, marked_listed}
use Rattle.pg_coord_partition.proofs.vertex_set.VertexSet.add.Goals as goal

pub push_reserved-requires : goal.push_reserved-requires
push_reserved-requires c =
    let l = c.self.inside in
    let lt : c.v.inside.0 < length l.marked.items = rw (c.v.view_is) (rw (← c.self.view_is) at c.requires) in
    let off : get_or l.marked.items c.v.inside.0 false ≡ false = cc (c.index.ensures, c.if-not-index.true) in
    omega (arith, room_left l.marked.items c.v.inside.0 lt off, c.self.invariant.size, c.self.invariant.fits, l.vertices.ok.0)

pub returns-then-not-index-clause-more : goal.returns-then-not-index-clause-more
returns-then-not-index-clause-more c = λ u h.
    let xs = c.self.inside.vertices.items in
    let h' = rw (← c.self.view_is) at h in
    rw c.push_reserved.ensures.items (h'.0, omega (arith, h'.1, length-append xs (c.args.v ∷ [])), get_or-append xs (c.args.v ∷ []) u h'.0 h'.1 ∙ h'.2)

pub returns-then-not-index-clause-only : goal.returns-then-not-index-clause-only
returns-then-not-index-clause-only c = λ u h.
    let xs = c.self.inside.vertices.items in
    let k = rw c.push_reserved.ensures.items at h in
    elim (cases_lt k.0 (length xs)) [
      | inl lt ↦ rw (← c.self.view_is) (inr (k.0, lt, sym (get_or-append xs (c.args.v ∷ []) u k.0 lt) ∙ k.2))
      | inr le ↦ inl (sym k.2 ∙ get_or_push xs c.args.v u k.0 (omega (arith, k.1, length-append xs (c.args.v ∷ []))))
    ]

pub returns-else-not-index-clause-there : goal.returns-else-not-index-clause-there
returns-else-not-index-clause-there c =
    let l = c.self.inside in
    let on : get_or l.marked.items c.args.v false ≡ true =
    let lt : c.v.inside.0 < length l.marked.items = rw (c.v.view_is) (rw (← c.self.view_is) at c.requires) in
    let k : get_or l.marked.items c.v.inside.0 false ≡ true = get_or_default l.marked.items c.v.inside.0 false c.index.result.now lt
    ∙ (sym c.index.ensures ∙ c.if-not-index.false) in
    subst (λ (n : ℕ). get_or l.marked.items n false ≡ true) c.v.view_is k in
    rw (← c.self.view_is) (marked_listed l.vertices.items l.marked.items l.vertices.cap c.args.v c.self.invariant on)
