use Rattle.pg_cli_command.specs.Faults.{synth_fault, verify_fault}
use Rattle.pg_cli_command.specs.Mirrors.Looking.{IsUnlooked}
use Rattle.pg_cli_command.proofs.Refusing.{refused_by}
use Rattle.pg_cli_command.proofs.Verified.{game_unlooked, game_unsolved, product_refused}
use Rattle.pg_cli_command.proofs.verify.verdict_on.Goals as goal

pub verdict_of-requires-clause-product : goal.verdict_of-requires-clause-product
verdict_of-requires-clause-product g c = (c.args.automaton.now, c.args.netlist.now, c.in_ok-product.ensures.product)

pub returns-in_err-product-clause-refused : goal.returns-in_err-product-clause-refused
returns-in_err-product-clause-refused g c =
    let Kind = g.F.Solver.finds c.args.solver.now in
    let fault = c.in_err-product.field-0.0 in
    refused_by (IsUnlooked Kind c.args.automaton.now c.args.netlist.now) c.from_residual.result (verify_fault fault) c.from_residual.ensures.1
    (product_refused Kind c.args.automaton.now c.args.netlist.now fault c.in_err-product.ensures.refused)

pub returns-in_err-made-clause-refused : goal.returns-in_err-made-clause-refused
returns-in_err-made-clause-refused g c =
    let Kind = g.F.Solver.finds c.args.solver.now in
    let fault = c.in_err-made.field-0.0 in
    refused_by (IsUnlooked Kind c.args.automaton.now c.args.netlist.now) c.from_residual-in_err-made.result (synth_fault fault)
    c.from_residual-in_err-made.ensures.1
    (game_unlooked Kind c.args.automaton.now c.in_ok-product.product c.args.netlist.now fault c.in_ok-product.ensures.product c.in_err-made.ensures.fault)

pub returns-in_err-solution-clause-refused : goal.returns-in_err-solution-clause-refused
returns-in_err-solution-clause-refused g c =
    let Kind = g.F.Solver.finds c.args.solver.now in
    let fault = c.in_err-solution.field-0.0 in
    refused_by (IsUnlooked Kind c.args.automaton.now c.args.netlist.now) c.from_residual-in_err-solution.result fault
    c.from_residual-in_err-solution.ensures.1
    (game_unsolved Kind c.args.automaton.now c.in_ok-product.product c.args.netlist.now c.in_ok-made.made.game c.in_ok-made.made.initial fault
    c.in_ok-product.ensures.product c.in_ok-made.ensures.game c.in_err-solution.ensures.refused)

pub returns-clause-says : goal.returns-clause-says
returns-clause-says g c = λ condition fits.
    c.in_ok-verdict_of.ensures c.args.automaton.now condition c.args.netlist.now c.latches-latches.ensures.acyclic c.requires.inputs fits
    c.in_ok-product.ensures.product
