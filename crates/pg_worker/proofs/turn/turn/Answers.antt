use Rattle.pg_worker.proofs.Common.{[], sym, refl, append-nil}
use Rattle.pg_worker.proofs.turn.turn.Goals as goal

pub returns-in-Halt-clause-turn : goal.returns-in-Halt-clause-turn
returns-in-Halt-clause-turn c = ([], rw c.in-Halt.is (c.replace_state-in-Halt.ensures, refl), sym (append-nil c.args.out.now.items))
