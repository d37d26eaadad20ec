use Rattle.pg_worker.proofs.Common.{◌++◌, ◌∙◌, List, ℕ, refl, ap, append_assoc, report}
use Rattle.pg_worker.proofs.Listed.{lifted_within, status_is}
use Rattle.pg_worker.proofs.turn.lift.Goals as goal

pub put_lifted-requires-clause-within : goal.put_lifted-requires-clause-within
put_lifted-requires-clause-within c = lifted_within c.held.inside.worker c.lift_turn-quiet.new.self c.args.budget c.lift_turn-quiet.result c.lift_turn-quiet.ensures c.len-count.ensures.worker

pub returns-clause-turn : goal.returns-clause-turn
returns-clause-turn c =
    let p = c.in_ok-put_lifted.ensures.packs in
    let r : List ℕ = report c.from.result 0 in (
      p.0 ++ r,
      rw (← c.held.view_is) (record {
        worker = c.lift_turn-quiet.new.self;
        quiet = c.lift_turn-quiet.result;
        turn = c.lift_turn-quiet.ensures;
        held = refl;
        measures = p.0;
        packs = p.1;
        reply_is = ap (λ (n : ℕ). p.0 ++ report n 0) (c.from.ensures ∙ status_is c.lift_turn-quiet.result);
      }),
      c.in_ok-put_report.ensures.ok ∙ ap (λ (bs : List ℕ). bs ++ r) p.2 ∙ append_assoc c.args.out.now.items p.0 r,
    )
