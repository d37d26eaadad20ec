use Rattle.pg_arena.proofs.Common.{◌∙◌, sym, arith, [], nat_tests}
use Rattle.pg_arena.proofs.Unknown.{unknown_here, unknown_later_on, no_unknown_left}
use Rattle.pg_arena.proofs.link.first_unknown.Goals as goal

pub returns-in-Some : goal.returns-in-Some
returns-in-Some c = grind (arith, nat_tests, unknown_here c.args.identifiers.now c.args.targets.now c.args.identifiers.now)

pub loop-v-preserved : goal.loop-v-preserved
loop-v-preserved c = grind (arith, nat_tests, unknown_later_on c.args.identifiers.now c.args.targets.now c.args.identifiers.now)

pub returns : goal.returns
returns c = sym (no_unknown_left c.args.identifiers.now c.args.targets.now c.args.identifiers.now [] c.args.entries.now c.loop-v.v c.requires.as_many
    (omega arith)) ∙ c.loop-v.invariant
