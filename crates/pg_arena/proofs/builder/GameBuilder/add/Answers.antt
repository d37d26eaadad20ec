use Rattle.pg_arena.proofs.Common.{◌≡◌, sym, subst, rules, IsStrictlyIncreasing, rising, rises_already, rising_rises}
use Rattle.pg_arena.proofs.builder.GameBuilder.add.Goals as goal

pub returns-then-rise-clause-answer : goal.returns-then-rise-clause-answer
returns-then-rise-clause-answer c = rw (rises_already c.args.successors.now (c.rise.ensures c.if-rise.true), ← c.self.view_is) c.add.ensures.answer

pub returns-then-rise-clause-ok : goal.returns-then-rise-clause-ok
returns-then-rise-clause-ok c = rw (rises_already c.args.successors.now (c.rise.ensures c.if-rise.true), ← c.self.view_is) c.add.ensures.ok

pub add-requires-2 : goal.add-requires-2
add-requires-2 c =
    let made : c.deref.result.now ≡ rising c.args.successors.now = search rules in
    subst IsStrictlyIncreasing (sym made) (rising_rises c.args.successors.now)
