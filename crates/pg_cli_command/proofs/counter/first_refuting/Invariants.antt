use Rattle.pg_cli_command.proofs.counter.first_refuting.Given as goal

abbrev pub invariant-loop-proposal : goal.invariant-loop-proposal
invariant-loop-proposal g l =
    (goal.iterator-loop-proposal g).can_next l.proposal-iterator ×
    (goal.iterator-loop-proposal g).is_finite l.proposal-iterator
