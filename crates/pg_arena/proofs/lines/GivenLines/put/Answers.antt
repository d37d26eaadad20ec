use Rattle.pg_arena.proofs.Common.{◌≡◌, ℕ, ◌++◌, ◌∷◌, [], length, List, Option, option_to_list, ap, ◌∙◌, arith, nat_tests, Vec, Global}
use Rattle.pg_arena.proofs.Common.{Entry, Line, line_with}
use Rattle.pg_arena.proofs.Adding.{IsNew, new_entry, new_line, IsPlaced, lines_added, kept_added, accepted_in, few_names, named_copy}
use Rattle.pg_arena.proofs.lines.GivenLines.put.Goals as goal
use Rattle.pg_arena.proofs.lines.GivenLines.put.Goals.{After-len-line, After-push_reserved}

accepted : (c : After-len-line) → IsNew c.self.inside.identifiers c.self.inside.targets.items c.self.inside.entries.items
    (line_with c.args.identifier c.args.priority c.args.owner c.args.successors.now c.args.name)
accepted c = accepted_in c.args.self.now (line_with c.args.identifier c.args.priority c.args.owner c.args.successors.now c.args.name) c.self.invariant c.self.view_is c.requires.accepted

pub make_room-requires : goal.make_room-requires
make_room-requires c = grind (arith, nat_tests, accepted (goal.at.make_room-requires c).After-len-line)

pub overflow_add-to : goal.overflow_add-to
overflow_add-to c = grind (arith, nat_tests, accepted (goal.at.overflow_add-to c).After-len-line)

pub invariant_of-self : goal.invariant_of-self
invariant_of-self c = rw (c.make_room.ensures.names, c.make_room.ensures.places) c.self.invariant

pub invariant_of-self-in_err-reserve : goal.invariant_of-self-in_err-reserve
invariant_of-self-in_err-reserve c = rw (c.make_room.ensures.names, c.make_room.ensures.places, c.reserve.ensures.items) c.self.invariant

pub invariant_of-self-in_err-reserve-2 : goal.invariant_of-self-in_err-reserve-2
invariant_of-self-in_err-reserve-2 c = rw (c.make_room.ensures.names, c.make_room.ensures.places, c.reserve.ensures.items, c.reserve-2.ensures.items)
    c.self.invariant

pub invariant_of-self-in_err-name : goal.invariant_of-self-in_err-name
invariant_of-self-in_err-name c = rw (c.make_room.ensures.names, c.make_room.ensures.places, c.reserve.ensures.items, c.reserve-2.ensures.items)
    c.self.invariant

pub invariant_of-self-in_err-push : goal.invariant_of-self-in_err-push
invariant_of-self-in_err-push c =
    rw (c.make_room.ensures.names, c.make_room.ensures.places, c.reserve.ensures.items, c.reserve-2.ensures.items, c.in_err-push.ensures.err) c.self.invariant

-- the parts with the line
abbrev entry : After-push_reserved → Entry
entry c = new_entry c.self.inside.targets.items c.args.priority c.args.owner c.args.successors.now

targets_are : (c : After-push_reserved) → c.put_all.new.targets.items ≡ c.self.inside.targets.items ++ c.args.successors.now
targets_are c = c.put_all.ensures ∙ ap (λ (ts : List ℕ). ts ++ c.args.successors.now) c.reserve.ensures.items

names_are : (c : After-push_reserved) → c.keep.new.names.items ≡ c.self.inside.names.items ++ option_to_list c.in_ok-name.name
names_are c = c.keep.ensures.names ∙ ap (λ (ns : List (Vec ℕ Global)). ns ++ option_to_list c.in_ok-name.name) c.make_room.ensures.names

entries_are : (c : After-push_reserved) → c.push_reserved.new.self.items ≡ c.self.inside.entries.items ++ entry c ∷ []
entries_are c = grind (arith, nat_tests)

placed : (c : After-push_reserved)
    → IsPlaced c.self.inside.names.items c.self.inside.places.items (length c.self.inside.entries.items) c.in_ok-name.name c.keep.new.places.items
placed c = grind (arith, nat_tests)

pub invariant_of-self-2 : goal.invariant_of-self-2
invariant_of-self-2 c =
    let after = (goal.at.invariant_of-self-2 c).After-push_reserved in
    let ok = accepted (goal.at.invariant_of-self-2 c).After-len-line in
    rw (c.in_ok-push.ensures.ok, targets_are after, names_are after, entries_are after)
    (kept_added c.keep.new.places.items c.args.identifier c.args.priority c.args.owner c.args.successors.now c.in_ok-name.name c.self.invariant (placed after)
    ok.unnamed ok.few ok.fits ok.passes.priority ok.passes.some c.requires.rising)

pub returns-clause-ok : goal.returns-clause-ok
returns-clause-ok c =
    let after = (goal.at.returns-clause-ok c).After-push_reserved in
    let more : List ℕ = c.args.successors.now in
    rw (c.in_ok-push.ensures.ok, targets_are after, names_are after, entries_are after)
    (lines_added c.keep.new.places.items c.args.identifier c.args.priority c.args.owner more c.in_ok-name.name c.self.invariant (placed after)
    ∙ ap (λ (ls : List Line). ls ++ new_line c.args.identifier c.args.priority c.args.owner more c.in_ok-name.name ∷ []) c.self.view_is
    ∙ ap (λ (name : Option (List ℕ)). c.args.self.now ++
    (let given : Line = record {
      identifier = c.args.identifier;
      priority = c.args.priority;
      owner = c.args.owner;
      successors = more;
      name = name;
    } in given) ∷ []) c.in_ok-name.ensures)

pub keep-requires : goal.keep-requires
keep-requires c =
    let ok = accepted (goal.at.keep-requires c).After-len-line in
    let line : c.len-line.result ≡ length c.self.inside.entries.items = c.len-line.ensures ∙ c.self.inside.entries.ok.0 in
    let named = named_copy c.args.name c.in_ok-name.name c.is_some.result c.is_some.ensures c.in_ok-name.ensures in
    record {
      room = λ some. c.in_ok-make_room.ensures.room (named some);
      room_for_place = λ some. c.in_ok-make_room.ensures.room_for_place (named some);
      few = rw c.make_room.ensures.names (few_names c.self.invariant ok.few);
      few_places = rw (c.make_room.ensures.places, line) c.self.invariant.few_places;
    }

pub put_all-requires : goal.put_all-requires
put_all-requires c = rw (← c.reserve.new.self.ok.0) c.in_ok-reserve.ensures.ok

pub push_reserved-requires : goal.push_reserved-requires
push_reserved-requires c = omega (arith, c.in_ok-reserve-2.ensures.ok)

pub overflow_cast-entry : goal.overflow_cast-entry
overflow_cast-entry c = grind (arith, nat_tests, accepted (goal.at.overflow_cast-entry c).After-len-line)

pub overflow_cast-entry-2 : goal.overflow_cast-entry-2
overflow_cast-entry-2 c = grind (arith, nat_tests, accepted (goal.at.overflow_cast-entry-2 c).After-len-line)

pub returns-in_err-make_room-clause-err : goal.returns-in_err-make_room-clause-err
returns-in_err-make_room-clause-err c = grind (arith, nat_tests)

pub returns-in_err-reserve-clause-err : goal.returns-in_err-reserve-clause-err
returns-in_err-reserve-clause-err c = grind (arith, nat_tests)

pub returns-in_err-reserve-2-clause-err : goal.returns-in_err-reserve-2-clause-err
returns-in_err-reserve-2-clause-err c = grind (arith, nat_tests)

pub returns-in_err-name-clause-err : goal.returns-in_err-name-clause-err
returns-in_err-name-clause-err c = grind (arith, nat_tests)

pub returns-in_err-push-clause-err : goal.returns-in_err-push-clause-err
returns-in_err-push-clause-err c = grind (arith, nat_tests)
