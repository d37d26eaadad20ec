use Rattle.std.proofs.Common.{sym, subst}
use Rattle.pg_hoa_automaton.specs.Formulas.{Formula}
use Rattle.pg_hoa_automaton.specs.Shapes.{FitsShape}
use Rattle.pg_verify.specs.declared.verdict.CircuitVerdict.{CircuitVerdict}
use Rattle.pg_verify.specs.declared.verdict.CircuitVerdict.TheVariants.{Accepted, Rejected, Stuck}
use Rattle.pg_verify.specs.Verdicts as verdicts
use Rattle.pg_verify_environment.proofs.Made.{other_of}
use Rattle.pg_verify_environment.proofs.Outcomes.{refutes, answered, never_stuck}
use Rattle.pg_verify_environment.proofs.outcome.outcome_of.Goals as goal

pub returns-in-Accepted : goal.returns-in-Accepted
returns-in-Accepted c = λ a twin condition circuit is pair ac fits says.
    let other = other_of a twin is pair in
    refutes a twin condition other.0 circuit is pair ac fits other.1
    (subst (verdicts.Says twin other.0 circuit) c.in-Accepted.is (says other.0 other.1))

pub returns-in-Rejected : goal.returns-in-Rejected
returns-in-Rejected c = λ a twin condition circuit is pair ac fits says.
    let other = other_of a twin is pair in
    answered a twin condition other.0 circuit c.in-Rejected.stem.items c.in-Rejected.round.items is pair ac fits other.1
    (subst (verdicts.Says twin other.0 circuit) c.in-Rejected.is (says other.0 other.1))

pub returns : goal.returns
returns c = λ a twin condition circuit is pair ac fits says.
    let other = other_of a twin is pair in
    absurd (never_stuck a twin circuit _ is pair ac (subst (verdicts.Says twin other.0 circuit) c.in-Stuck.is (says other.0 other.1)))
