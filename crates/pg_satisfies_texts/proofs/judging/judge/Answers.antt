use Rattle.std.proofs.Common.{subst}
use Rattle.pg_aiger_netlist.specs.Netlists.{IsAcyclic}
use Rattle.pg_aiger_reader.specs.Views.{circuit_in, symbols_in}
use Rattle.pg_ltl.specs.Mirrors.Views.{written}
use Rattle.pg_satisfies_texts.proofs.Judged.{meant_by, unfound_by}
use Rattle.pg_satisfies_texts.proofs.Meant.{texts}
use Rattle.pg_satisfies_texts.proofs.judging.judge.Goals as goal

pub returns-in_err-satisfies-clause-refused : goal.returns-in_err-satisfies-clause-refused
returns-in_err-satisfies-clause-refused c =
    let names = c.in_ok-names.names.items in
    let circuit = circuit_in c.in_ok-parts.parts in
    let symbols = symbols_in c.in_ok-parts.parts in
    let meant = meant_by circuit symbols names c.deref.result.now c.in_ok-found.found c.in_ok-literals.literals c.in_ok-literals.was
    c.deref.ensures.value c.in_ok-found.ensures in
    unfound_by c.from_residual-in_err-satisfies.result c.args.first.now c.args.second.now c.in_err-satisfies.field-0.0 (texts names)
    (written c.in_ok-names.formula) circuit symbols c.in_ok-literals.literals.items c.from_residual-in_err-satisfies.ensures.1
    c.in_ok-names.ensures.found c.in_ok-parts.ensures.found meant (subst IsAcyclic c.in_ok-netlist.ensures.lists c.in_ok-netlist.ensures.acyclic)
