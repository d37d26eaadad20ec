use Rattle.pg_arena.proofs.Common.{◌≡◌, refl, sym, ◌∙◌, line_with, add_fault}
use Rattle.pg_arena.proofs.Adding.{answers_for}
use Rattle.pg_arena.proofs.lines.GivenLines.add.Goals as goal
use Rattle.pg_arena.proofs.lines.GivenLines.add.Goals.{After-fault_of}

told : (c : After-fault_of)
    → c.fault_of.result ≡ add_fault c.args.self.now (line_with c.args.identifier c.args.priority c.args.owner c.args.successors.now c.args.name)
told c = c.fault_of.ensures (line_with c.args.identifier c.args.priority c.args.owner c.args.successors.now c.args.name) refl refl refl

pub returns-in-Some-clause-answer : goal.returns-in-Some-clause-answer
returns-in-Some-clause-answer c = answers_for c.in-Some.fault _ (sym c.in-Some.is ∙ told (goal.at.returns-in-Some-clause-answer c).After-fault_of)

pub put-requires-clause-accepted : goal.put-requires-clause-accepted
put-requires-clause-accepted c = sym (told (goal.at.put-requires-clause-accepted c).After-fault_of) ∙ c.in_default.is

pub returns-clause-answer : goal.returns-clause-answer
returns-clause-answer c = sym (told (goal.at.returns-clause-answer c).After-fault_of) ∙ c.in_default.is
