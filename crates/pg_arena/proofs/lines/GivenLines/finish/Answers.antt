use Rattle.pg_arena.proofs.Common.{◌≡◌, ◌<◌, ◌++◌, ℕ, List, [], length, take, drop, vec_len, subst, refl, sym, ap, ◌∙◌, arith, nat_tests}
use Rattle.pg_arena.proofs.Common.{eqb-false, take_at, IfOk-weaker, GameVertex, HasPrioritiesUpTo, IsGameOf, Row, rows_in, vertices_in}
use Rattle.pg_arena.proofs.Common.{AreLinked, HasUnknown, first_unknown_in}
use Rattle.pg_arena.proofs.Beside.{rows_long, have_ranges}
use Rattle.pg_arena.proofs.Finishing.{IsReady, ready_in, as_many_ids, finished, built}
use Rattle.pg_arena.proofs.Dualling.{small_vertices}
use Rattle.pg_arena.proofs.Unknown.{least_unknown, some_unknown, unknown_same}
use Rattle.pg_arena.proofs.lines.GivenLines.finish.Goals as goal
use Rattle.pg_arena.proofs.lines.GivenLines.finish.Goals.{In_ok-rows, Then-link, Else-link, After-first_unknown-first}

pub rows_by_identifier-requires-clause-few : goal.rows_by_identifier-requires-clause-few
rows_by_identifier-requires-clause-few c = grind (arith, nat_tests, rows_long c.self.inside.identifiers c.self.inside.places.items c.self.inside.entries.items c.self.invariant.as_many)

abbrev ids : In_ok-rows → List ℕ
ids c = c.in_ok-rows.rows.identifiers.items

abbrev rows : In_ok-rows → List Row
rows c = rows_in (ids c) c.in_ok-rows.rows.places.items c.in_ok-rows.rows.entries.items

ready : (c : In_ok-rows) → IsReady c.args.self (ids c) c.self.inside.targets.items c.self.inside.names.items (rows c)
ready c = ready_in (ids c) c.in_ok-rows.rows.places.items c.in_ok-rows.rows.entries.items c.self.view_is c.self.invariant
    c.in_ok-rows.ensures.same c.in_ok-rows.ensures.as_many c.in_ok-rows.ensures.rising

pub link-requires-clause-few : goal.link-requires-clause-few
link-requires-clause-few c = rw c.deref.ensures.value (ready (goal.at.link-requires-clause-few c).In_ok-rows).few

some_rows : (c : In_ok-rows) → 0 < length (ids c)
some_rows c = grind (arith, nat_tests, eqb-false (vec_len c.self.inside.entries) 0 (sym c.is_empty.ensures ∙ c.if-is_empty.false), as_many_ids (ids c) c.in_ok-rows.rows.places.items c.in_ok-rows.rows.entries.items c.self.invariant c.in_ok-rows.ensures.same c.in_ok-rows.ensures.as_many)

linked : (c : Then-link) → AreLinked c.in_ok-rows.rows.identifiers.items c.self.inside.targets.items c.link.new.targets
linked c = rw (← c.deref.ensures.value, ← c.deref_mut.ensures.value) (c.if-link.ensures.linked refl)

back : (c : Then-link)
    → take c.self.inside.targets.len (c.link.new.targets ++ drop (length c.link.new.targets) c.self.inside.targets.items) ≡ c.link.new.targets
back c = take_at c.link.new.targets (drop (length c.link.new.targets) c.self.inside.targets.items) c.self.inside.targets.len
    (omega (arith, c.link.auto.targets, ap length c.deref_mut.ensures.value, c.self.inside.targets.ok.0))

pub from_parts-requires : goal.from_parts-requires
from_parts-requires c =
    let at = goal.at.from_parts-requires c in
    rw (back at.Then-link) (record {
      as_many = c.in_ok-rows.ensures.as_many;
      built = built c.link.new.targets (some_rows at.In_ok-rows) (ready at.In_ok-rows) (linked at.Then-link);
    })

pub returns-then-link-clause-game : goal.returns-then-link-clause-game
returns-then-link-clause-game c =
    let at = goal.at.returns-then-link-clause-game c in
    let made : List GameVertex = vertices_in c.link.new.targets c.self.inside.names.items (rows at.In_ok-rows) in
    IfOk-weaker c.from_parts.result (λ game. game ≡ made) (IsGameOf c.args.self)
    (λ game is. subst (IsGameOf c.args.self) (sym is) (finished c.link.new.targets (some_rows at.In_ok-rows) (ready at.In_ok-rows) (linked at.Then-link)))
    (rw (back at.Then-link) at c.from_parts.ensures.game)

pub returns-then-link-clause-priorities : goal.returns-then-link-clause-priorities
returns-then-link-clause-priorities c =
    let at = goal.at.returns-then-link-clause-priorities c in
    let made : List GameVertex = vertices_in c.link.new.targets c.self.inside.names.items (rows at.In_ok-rows) in
    IfOk-weaker c.from_parts.result (λ game. game ≡ made) (HasPrioritiesUpTo 65535)
    (λ game is. subst (HasPrioritiesUpTo 65535) (sym is)
    (small_vertices c.self.inside.targets.items c.link.new.targets c.self.inside.names.items (rows at.In_ok-rows)
    (ready at.In_ok-rows).orderly))
    (rw (back at.Then-link) at c.from_parts.ensures.game)

unlinked : (c : Else-link)
    → take c.self.inside.targets.len (c.link.new.targets ++ drop (length c.link.new.targets) c.self.inside.targets.items) ≡ c.self.inside.targets.items
unlinked c = grind (
  arith,
  nat_tests,
  take_at c.link.new.targets (drop (length c.link.new.targets) c.self.inside.targets.items) c.self.inside.targets.len
      (omega (arith, c.link.auto.targets, ap length c.deref_mut.ensures.value, c.self.inside.targets.ok.0)),
)

pub first_unknown-first-requires-clause-within : goal.first_unknown-first-requires-clause-within
first_unknown-first-requires-clause-within c =
    let at = goal.at.first_unknown-first-requires-clause-within c in
    rw (c.deref-3.ensures.value, c.deref-4.ensures.value, unlinked at.Else-link)
    (have_ranges c.self.inside.targets.items
    (ids at.In_ok-rows) c.in_ok-rows.rows.places.items c.in_ok-rows.rows.entries.items c.in_ok-rows.ensures.as_many
    (ready at.In_ok-rows).ranges)

first : (c : After-first_unknown-first)
    → take c.self.inside.targets.len (c.link.new.targets ++ drop (length c.link.new.targets) c.self.inside.targets.items) ≡ c.self.inside.targets.items
    → c.first_unknown-first.result ≡ first_unknown_in c.in_ok-rows.rows.identifiers.items c.self.inside.targets.items
    (rows_in c.in_ok-rows.rows.identifiers.items c.in_ok-rows.rows.places.items c.in_ok-rows.rows.entries.items)
first c back = c.first_unknown-first.ensures
    ∙ rw (c.deref-2.ensures.value, c.deref-3.ensures.value, c.deref-4.ensures.value, back)
    (unknown_same c.in_ok-rows.rows.identifiers.items c.self.inside.targets.items c.in_ok-rows.rows.identifiers.items
    [] c.in_ok-rows.rows.places.items c.in_ok-rows.rows.entries.items)

pub unwrap-identifier-requires : goal.unwrap-identifier-requires
unwrap-identifier-requires c =
    let at = goal.at.unwrap-identifier-requires c in
    let known : HasUnknown (ids at.In_ok-rows) c.self.inside.targets.items =
    rw (← c.deref.ensures.value, ← c.deref_mut.ensures.value) (c.if-link.ensures.unknown refl) in
    rw (first at.After-first_unknown-first (unlinked at.Else-link)) (some_unknown (ready at.In_ok-rows) known)

pub returns-clause-fault : goal.returns-clause-fault
returns-clause-fault c =
    let at = goal.at.returns-clause-fault c in
    least_unknown c.unwrap-identifier.result.0 c.unwrap-identifier.result.1 (ready at.In_ok-rows)
    (sym (first at.After-first_unknown-first (unlinked at.Else-link)) ∙ c.unwrap-identifier.ensures)
