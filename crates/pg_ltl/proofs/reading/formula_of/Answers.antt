use Rattle.std.proofs.Common.{List}
use Rattle.std.proofs.lemmas.Result.{err_from_is_err_and}
use Rattle.pg_ltl.specs.declared.token.FormulaToken.{FormulaToken}
use Rattle.pg_ltl.specs.declared.reading.Misplaced.{Misplaced}
use Rattle.pg_ltl.specs.declared.reading.Misplaced.TheVariants.{Memory, At}
use Rattle.pg_ltl.specs.Mirrors.Run.{parse_at}
use Rattle.pg_ltl.specs.Mirrors.Readings.{Fails, IsMisread, StopsRun, StopsTokens}
use Rattle.pg_ltl.proofs.Shown.{found_there, none_there, stopped}
use Rattle.pg_ltl.proofs.reading.formula_of.Goals as goal

misread : (ts : List FormulaToken) (fault : Misplaced) → Fails fault (parse_at ts) → IsMisread ts fault
misread ts Memory h = tt
misread ts (At place) h = none_there ts h

stops : (ts : List FormulaToken) (fault : Misplaced) → StopsRun ts fault → StopsTokens ts fault
stops ts Memory h = tt
stops ts (At place) h = stopped ts place h

pub returns-in_err-nodes-clause-refused : goal.returns-in_err-nodes-clause-refused
returns-in_err-nodes-clause-refused c =
    let p = err_from_is_err_and c.from_residual.result c.from_residual.ensures.1 in
    rw (p.1, p.2) (misread c.args.tokens.now c.in_err-nodes.field-0.0 c.in_err-nodes.ensures.value)

pub returns-in_err-nodes-clause-stops : goal.returns-in_err-nodes-clause-stops
returns-in_err-nodes-clause-stops c =
    let p = err_from_is_err_and c.from_residual.result c.from_residual.ensures.1 in
    rw (p.1, p.2) (stops c.args.tokens.now c.in_err-nodes.field-0.0 c.in_err-nodes.ensures.stops)

pub invariant_of-result : goal.invariant_of-result
invariant_of-result c =
    let found = found_there c.args.tokens.now c.in_ok-nodes.nodes.items c.in_ok-nodes.root c.in_ok-nodes.ensures.value in
    record { ordered = found.ordered; within = found.within }

pub returns-clause-found : goal.returns-clause-found
returns-clause-found c = (found_there c.args.tokens.now c.in_ok-nodes.nodes.items c.in_ok-nodes.root c.in_ok-nodes.ensures.value).is
