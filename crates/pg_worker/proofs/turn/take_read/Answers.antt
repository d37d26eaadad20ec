use Rattle.pg_worker.proofs.Common.{Some, true, length, ap, sym, ◌∙◌, rules, inr, refl, err_from_is_err_and, WorkerValue}
use Rattle.pg_worker.proofs.turn.take_read.Goals as goal

pub returns-in_err-join_read-clause-refused : goal.returns-in_err-join_read-clause-refused
returns-in_err-join_read-clause-refused c = λ ms h.
    let p = err_from_is_err_and c.from_residual.result c.from_residual.ensures.1 in
    let refused = c.in_err-join_read.ensures.refused ms h in
    rw (p.1, p.2, ← c.held.view_is) (inr (refused.0, search rules, λ both. refused.1 both.1))

pub returns-clause-turn : goal.returns-clause-turn
returns-clause-turn c = λ ms h.
    let joins = c.in_ok-join_read.ensures.joined ms h in
    rw (← c.held.view_is) (record {
      in_turn = record {
        kind_is = search rules;
        width_is = sym (c.if-pairs-width.false ∙ c.width.ensures)
            ∙ ap length (c.pairs.ensures.value ∙ c.bounds.ensures);
        fit = c.in_ok-join_read.ensures.fit ms h;
      };
      map = c.join_read.new.worker.map;
      joins = joins.joins;
      held = ap (λ (w : WorkerValue). Some (record { kind = c.held.inside.kind; is_started = true; worker = w })) joins.others;
    })

pub returns-then-pairs-width-clause-refused : goal.returns-then-pairs-width-clause-refused
returns-then-pairs-width-clause-refused c = λ ms h.
    rw (← c.held.view_is) (inr (
      refl,
      search rules,
      λ both. absurd (c.if-pairs-width.true (ap length (c.pairs.ensures.value ∙ c.bounds.ensures) ∙ (sym both.0 ∙ sym c.width.ensures))),
    ))

pub join_read-requires : goal.join_read-requires
join_read-requires c = ap length c.deref_mut.ensures.value
    ∙ (c.held.invariant.1 ∙ (sym (ap length (c.pairs.ensures.value ∙ c.bounds.ensures)) ∙ (c.if-pairs-width.false ∙ c.width.ensures)))
