use Rattle.pg_worker.proofs.Common.{◌∙◌, Err, length, inl, inr, ap, cases_lt, body, longest, Spells}
use Rattle.pg_worker.proofs.Taking.{frame_turn, frame_refused, not_encoded}
use Rattle.pg_worker.proofs.session.Session.frame.Goals as goal
use Rattle.pg_worker.proofs.session.Session.frame.Goals.{After-frame_from}

spells : (c : After-frame_from) → Spells c.args.frame.now c.deref.result.now
spells c = record {
  well = c.requires;
  within = elim (cases_lt longest (length (body c.args.frame.now))) [ inl lt ↦ absurd (cc (c.in-Ok.ensures.too_long.1 lt)) | inr le ↦ le ];
  spelled = c.deref.ensures.value ∙ c.in-Ok.ensures.spelled;
}

pub returns-in-Ok-clause-turn : goal.returns-in-Ok-clause-turn
returns-in-Ok-clause-turn c =
    frame_turn c.args.frame.now c.args.self.now.highest c.args.self.now.held c.deref.result.now c.frame_from.new.self.held c.args.out.now.items c.frame_from.new.out.items c.frame_from.result (spells (goal.at.returns-in-Ok-clause-turn c).After-frame_from) c.frame_from.ensures.turn

pub returns-in-Ok-clause-refused : goal.returns-in-Ok-clause-refused
returns-in-Ok-clause-refused c = λ within. frame_refused c.args.frame.now c.args.self.now.highest c.args.self.now.held c.deref.result.now c.frame_from.result (spells (goal.at.returns-in-Ok-clause-refused c).After-frame_from) c.frame_from.ensures.refused

pub returns-in-Err-clause-refused : goal.returns-in-Err-clause-refused
returns-in-Err-clause-refused c = λ within. not_encoded c.args.frame.now c.args.self.now.highest c.args.self.now.held c.in-Err.fault c.own.result c.own.ensures c.in-Err.ensures.faults
    (λ long. c.in-Err.ensures.too_long.0 (ap (λ e. Err e) long)) within
