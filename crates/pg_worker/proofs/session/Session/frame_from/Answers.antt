use Rattle.pg_worker.proofs.Common.{◌≡◌, [], sym, append-nil}
use Rattle.pg_worker.proofs.Taking.{refuses_none, bytes_turn, bytes_refused}
use Rattle.pg_worker.proofs.session.Session.frame_from.Goals as goal

pub returns-then-branch-clause-turn : goal.returns-then-branch-clause-turn
returns-then-branch-clause-turn c =
    let does = rw c.if-branch.true at c.in_ok-rows_from.ensures.turn in
    ([], does, sym (append-nil c.args.out.now.items))

pub returns-in-Err-clause-refused : goal.returns-in-Err-clause-refused
returns-in-Err-clause-refused c =
    refuses_none c.args.self.now.highest c.args.self.now.held c.args.bytes.now c.in-Err.fault c.own.result c.own.ensures
    c.in-Err.ensures.all c.in-Err.ensures.too_long c.in-Err.ensures.truncated c.in-Err.ensures.no_stream

pub returns-in-Ok-clause-refused : goal.returns-in-Ok-clause-refused
returns-in-Ok-clause-refused c =
    let same : c.rows_from.new.self.held ≡ c.args.self.now.held = rw c.if-branch.false at c.in_ok-rows_from.ensures.turn in
    rw (← same, ← c.in_ok-rows_from.ensures.highest)
    (bytes_refused c.in-Ok.frame c.rows_from.new.self.highest c.rows_from.new.self.held c.args.bytes.now c.frame_without_rows.result
    c.in-Ok.ensures.found c.frame_without_rows.ensures.refused)

pub returns-in-Ok-clause-turn : goal.returns-in-Ok-clause-turn
returns-in-Ok-clause-turn c =
    let same : c.rows_from.new.self.held ≡ c.args.self.now.held = rw c.if-branch.false at c.in_ok-rows_from.ensures.turn in
    rw (← same, ← c.in_ok-rows_from.ensures.highest)
    (bytes_turn c.in-Ok.frame c.rows_from.new.self.highest c.rows_from.new.self.held c.args.bytes.now c.frame_without_rows.new.self.held
    c.args.out.now.items c.frame_without_rows.new.out.items c.frame_without_rows.result c.in-Ok.ensures.found
    c.frame_without_rows.ensures.version c.frame_without_rows.ensures.halt c.frame_without_rows.ensures.turn)
