use Rattle.pg_text.proofs.Common.{sym, err_from_is_err_and}
use Rattle.pg_text.proofs.SolutionReads.{found, found_only, missing, refused_only}
use Rattle.pg_text.proofs.solution_text.read_solution.Goals as goal

pub returns-in_err-solution-clause-only : goal.returns-in_err-solution-clause-only
returns-in_err-solution-clause-only c = λ solution text.
    let p = err_from_is_err_and c.from_residual.result c.from_residual.ensures.1 in
    rw (p.1, p.2) (refused_only c.args.bytes.now c.args.game.now c.in_err-solution.field-0.0 solution c.in_err-solution.ensures.refused text)

pub returns-in-Some-clause-only : goal.returns-in-Some-clause-only
returns-in-Some-clause-only c = λ solution text.
    absurd ((missing c.args.bytes.now c.args.game.now c.in_ok-solution.solution c.in_ok-solution.seen.items c.in-Some.v c.len-vertices.ensures.game c.in_ok-solution.ensures.read c.in-Some.ensures.within (rw (sym c.deref.ensures.value) c.in-Some.ensures.missing) (rw (sym c.deref.ensures.value) c.in-Some.ensures.first)).0 solution text)

pub returns-in-Some-clause-refused : goal.returns-in-Some-clause-refused
returns-in-Some-clause-refused c = λ other.
    rw c.identifier.ensures
    (missing c.args.bytes.now c.args.game.now c.in_ok-solution.solution c.in_ok-solution.seen.items c.in-Some.v c.len-vertices.ensures.game c.in_ok-solution.ensures.read c.in-Some.ensures.within (rw (sym c.deref.ensures.value) c.in-Some.ensures.missing) (rw (sym c.deref.ensures.value) c.in-Some.ensures.first)).1

pub returns-in-None-clause-found : goal.returns-in-None-clause-found
returns-in-None-clause-found c =
    found c.args.bytes.now c.args.game.now c.in_ok-solution.solution c.in_ok-solution.seen.items c.in_ok-solution.ensures.read
    (rw (sym c.deref.ensures.value) c.in-None.ensures.none)

pub returns-in-None-clause-only : goal.returns-in-None-clause-only
returns-in-None-clause-only c = λ solution text.
    found_only c.args.bytes.now c.args.game.now c.in_ok-solution.solution c.in_ok-solution.seen.items solution c.len-vertices.ensures.game c.in_ok-solution.ensures.read text
