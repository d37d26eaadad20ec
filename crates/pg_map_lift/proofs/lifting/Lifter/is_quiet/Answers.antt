use Rattle.pg_map_lift.proofs.lifting.Lifter.is_quiet.Goals as goal

pub returns-in-Some-clause-quiet : goal.returns-in-Some-clause-quiet
returns-in-Some-clause-quiet g c = rw (← c.self.view_is) (λ closed. let e = c.in-Some.ensures in e.1 (closed _ e.0))

pub returns-in-Some-liftable-clause-quiet : goal.returns-in-Some-liftable-clause-quiet
returns-in-Some-liftable-clause-quiet g c = rw (← c.self.view_is) (λ closed. let e = c.in-Some-liftable.ensures.liftable in e.1 (closed _ e.0))
