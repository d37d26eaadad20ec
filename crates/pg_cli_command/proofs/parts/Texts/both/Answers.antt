use Rattle.pg_cli_command.proofs.parts.Texts.both.Goals as goal

pub returns-in-Joined-clause-parted : goal.returns-in-Joined-clause-parted
returns-in-Joined-clause-parted c = rw c.in-Joined.is (rw c.deref.ensures.value at c.part.ensures.parted)

pub returns-in-Joined-clause-none : goal.returns-in-Joined-clause-none
returns-in-Joined-clause-none c = rw c.in-Joined.is (rw c.deref.ensures.value at c.part.ensures.none)
