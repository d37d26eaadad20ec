use Rattle.pg_arena.proofs.Common.{◌≡◌, map, ◌∙◌, subst, sym, ap, rules, Shared, HasPrioritiesUpTo, dual, dual_entry}
use Rattle.pg_arena.proofs.Dualling.{dual_vertices_in, dual_built_in, small_entries}
use Rattle.pg_arena.proofs.game.dual.Goals as goal

pub dual_entries-requires : goal.dual_entries-requires
dual_entries-requires c =
    let shared : Shared = c.game.inside.shared.value in
    rw c.deref.ensures.value (small_entries shared.identifiers.items shared.targets.items shared.names.items shared.places.items c.game.inside.entries.items
    c.game.invariant.as_many (subst (HasPrioritiesUpTo 65535) (sym c.game.view_is) c.requires))

pub invariant_of-result : goal.invariant_of-result
invariant_of-result c =
    let shared : Shared = c.game.inside.shared.value in
    let shared-is : c.in_ok-shared.shared.value ≡ shared = search rules in
    let entries-are : c.in_ok-entries.entries.items ≡ map dual_entry c.game.inside.entries.items = search rules in
    rw (shared-is, entries-are) (dual_built_in (subst (HasPrioritiesUpTo 65535) (sym c.game.view_is) c.requires) c.game.invariant)

pub returns-clause-dual : goal.returns-clause-dual
returns-clause-dual c =
    let shared : Shared = c.game.inside.shared.value in
    let shared-is : c.in_ok-shared.shared.value ≡ shared = search rules in
    let entries-are : c.in_ok-entries.entries.items ≡ map dual_entry c.game.inside.entries.items = search rules in
    rw (shared-is, entries-are) (dual_vertices_in shared.identifiers.items shared.targets.items shared.names.items shared.places.items
    c.game.inside.entries.items ∙ ap dual c.game.view_is)
