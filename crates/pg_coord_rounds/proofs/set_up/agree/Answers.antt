use Rattle.pg_coord_rounds.proofs.Common.{◌≡◌, Some, ap, ◌∙◌, rules, refl, err_from_is_err_and, ValueKind, Dense, Sparse, told_with}
use Rattle.pg_coord_rounds.proofs.Taking.{restarted, refusal_spells}
use Rattle.pg_coord_rounds.proofs.set_up.agree.Goals as goal
use Rattle.pg_coord_rounds.proofs.set_up.agree.Goals.{then-eq-via-then-eq, then-eq-via-else-eq+in_ok-accepts+then-branch}

pub returns-in_err-accepts-clause-told : goal.returns-in_err-accepts-clause-told
returns-in_err-accepts-clause-told g c = λ left is.
    let told = g.L.Link.told in
    let sparse : c.args.kind.now ≡ Sparse = search rules in
    let sent = (c.in_ok-send_setup.ensures.told left is).1 ∙ ap (λ (k : ValueKind). Some (told_with k left)) sparse in
    let p = err_from_is_err_and c.from_residual-in_err-accepts.result c.from_residual-in_err-accepts.ensures.1 in
    rw (p.1, p.2) ((λ no. ((c.in_err-accepts.ensures.told _ left sent).refused refusal_spells).0 (cc)), tt)

pub returns-then-eq-clause-told : goal.returns-then-eq-clause-told
returns-then-eq-clause-told g c = λ left is.
    elim c.then-eq.branch [
      | then-eq-via-then-eq w ↦
          let dense : c.args.kind.now ≡ Dense = search rules in
          let sent = (c.in_ok-send_setup.ensures.told left is).1 ∙ ap (λ (k : ValueKind). Some (told_with k left)) dense in
          ((λ no. cc), (rw w.link-is sent, dense))
      | then-eq-via-else-eq+in_ok-accepts+then-branch w ↦
          let sparse : c.args.kind.now ≡ Sparse = search rules in
          let sent = (c.in_ok-send_setup.ensures.told left is).1 ∙ ap (λ (k : ValueKind). Some (told_with k left)) sparse in
          let no = ((w.in_ok-accepts.ensures.told _ left sent).refused refusal_spells).1.0 in
          let yes = w.if-branch.true in
          absurd (cc (no, yes))
    ]

pub returns-clause-told : goal.returns-clause-told
returns-clause-told g c = λ left is.
    let told = g.L.Link.told in
    let sparse : c.args.kind.now ≡ Sparse = search rules in
    let sent = (c.in_ok-send_setup.ensures.told left is).1 ∙ ap (λ (k : ValueKind). Some (told_with k left)) sparse in
    let refused = ((c.in_ok-accepts.ensures.told _ left sent).refused refusal_spells).1.1 in
    let anew = restarted (told c.accepts.new.link) (told c.restart.new.self) _ left c.in_ok-restart.ensures.told refused in
    ((λ no. cc), ((c.in_ok-send_older_setup.ensures.told left anew.1).1, refl))

pub returns-in_err-restart-clause-told : goal.returns-in_err-restart-clause-told
returns-in_err-restart-clause-told g c = λ left is.
    let told = g.L.Link.told in
    let sparse : c.args.kind.now ≡ Sparse = search rules in
    let sent = (c.in_ok-send_setup.ensures.told left is).1 ∙ ap (λ (k : ValueKind). Some (told_with k left)) sparse in
    let refused = ((c.in_ok-accepts.ensures.told _ left sent).refused refusal_spells).1.1 in
    let anew = restarted (told c.accepts.new.link) (told c.restart.new.self) _ left c.in_err-restart.ensures.told refused in
    let p = err_from_is_err_and c.from_residual-in_err-restart.result c.from_residual-in_err-restart.ensures.1 in
    rw (p.1, p.2) anew

pub returns-in_err-send_older_setup-clause-told : goal.returns-in_err-send_older_setup-clause-told
returns-in_err-send_older_setup-clause-told g c = λ left is.
    let told = g.L.Link.told in
    let sparse : c.args.kind.now ≡ Sparse = search rules in
    let sent = (c.in_ok-send_setup.ensures.told left is).1 ∙ ap (λ (k : ValueKind). Some (told_with k left)) sparse in
    let refused = ((c.in_ok-accepts.ensures.told _ left sent).refused refusal_spells).1.1 in
    let anew = restarted (told c.accepts.new.link) (told c.restart.new.self) _ left c.in_ok-restart.ensures.told refused in
    let p = err_from_is_err_and c.from_residual-in_err-send_older_setup.result c.from_residual-in_err-send_older_setup.ensures.1 in
    rw (p.1, p.2) (c.in_err-send_older_setup.ensures.told left anew.1)

pub send_older_setup-requires : goal.send_older_setup-requires
send_older_setup-requires g c = record { anew = c.in_ok-restart.ensures.anew }
