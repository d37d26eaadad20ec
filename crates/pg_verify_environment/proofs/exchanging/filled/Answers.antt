use Rattle.std.proofs.Common.{[], ◌∷◌, ◌++◌, ◌+◌, ◌≤◌, length, arith, map, ap, ◌∙◌}
use Rattle.pg_verify_environment.proofs.Made.{filled_more}
use Rattle.pg_verify.proofs.Stored.{numbered_along}
use Rattle.pg_hoa_automaton.specs.Automata.{letters}
use Rattle.pg_hoa_automaton.specs.Mirrors.Tables.{numbered}
use Rattle.pg_verify_environment.specs.Counterparts.{end_step, step_on}
use Rattle.std.proofs.Common.{◌/◌, ◌%◌, Some}
use Rattle.pg_verify_environment.proofs.exchanging.filled.Goals as goal

pub loop-place-preserved : goal.loop-place-preserved
loop-place-preserved c =
    let e = c.in_ok-slot.ensures in
    let a = c.args.automaton.now in
    record {
      filled = filled_more a c.loop-place.place c.loop-place.draft.slots.items c.push.new.self.items c.loop-place.draft.steps.items
          c.slot_for.new.draft.steps.items (map (λ v. v.items) c.loop-place.draft.lists.items) (map (λ v. v.items) c.slot_for.new.draft.lists.items)
          c.in_ok-slot.slot c.loop-place.invariant.filled e.steps e.lists (c.in_ok-push.ensures.items ∙ ap (λ s. s ++ c.in_ok-slot.slot ∷ []) e.slots)
          (e.there ∙ ap (λ n. Some (step_on a (c.loop-place.place / n) (c.loop-place.place % n))) c.requires.width);
      few_steps = (let f = c.loop-place.invariant.few_steps in let m = e.one_step in omega (arith, f, m));
      few_lists = (let f = c.loop-place.invariant.few_lists in let m = e.one_list in omega (arith, f, m));
      end_is = numbered_along c.loop-place.draft.steps.items c.slot_for.new.draft.steps.items (map (λ v. v.items) c.loop-place.draft.lists.items)
          (map (λ v. v.items) c.slot_for.new.draft.lists.items) c.in_ok-end.end (end_step a) e.steps e.lists c.loop-place.invariant.end_is;
    }
