use Rattle.pg_ltl.specs.Mirrors.Views.{written, form}
use Rattle.pg_means_look.specs.Certificates.{Certificate, IsEmptyBy}
use Rattle.pg_means_look.specs.Mirrors.Views.{automaton_of}
use Rattle.pg_means_look.specs.Mirrors.Places.{IsShown}
use Rattle.pg_means.proofs.Whole.{same_by, apart_accepted, apart_rejected, first_of, second_of}
use Rattle.pg_means.proofs.verdict.means.Goals as goal

pub returns-in-Some : goal.returns-in-Some
returns-in-Some c condition fits =
    let complete = automaton_of c.in_ok-complete.complete in
    let shown = second_of c.in_ok-lasso.field-0 ((cert : Certificate) × IsEmptyBy complete (form c.in_ok-no.no) 0 cert)
    (λ lasso. IsShown complete (form c.in_ok-no.no) 0 lasso.letters.items lasso.back) c.in-Some.lasso c.in-Some.is c.in_ok-lasso.ensures in
    apart_accepted c.args.automaton.now condition c.args.propositions c.args.places.now (written c.args.formula.now) complete c.states-states.ensures.automaton fits
    c.in_ok-complete.ensures.completed c.in_ok-complete.ensures.truths c.in-Some.lasso.letters.items c.in-Some.lasso.back
    (form c.in_ok-no.no) c.in_ok-no.ensures shown

pub returns-in-Some-2 : goal.returns-in-Some-2
returns-in-Some-2 c condition fits =
    let complete = automaton_of c.in_ok-complete.complete in
    let shown = second_of c.in_ok-lasso-2.field-0 ((cert : Certificate) × IsEmptyBy complete (form c.in_ok-yes.yes) 1 cert)
    (λ lasso. IsShown complete (form c.in_ok-yes.yes) 1 lasso.letters.items lasso.back) c.in-Some-2.lasso c.in-Some-2.is c.in_ok-lasso-2.ensures in
    apart_rejected c.args.automaton.now condition c.args.propositions c.args.places.now (written c.args.formula.now) complete c.states-states.ensures.automaton fits
    c.in_ok-complete.ensures.completed c.in_ok-complete.ensures.truths c.in-Some-2.lasso.letters.items c.in-Some-2.lasso.back
    (form c.in_ok-yes.yes) c.in_ok-yes.ensures shown

pub returns : goal.returns
returns c condition fits =
    let complete = automaton_of c.in_ok-complete.complete in
    let none = first_of c.in_ok-lasso.field-0 ((cert : Certificate) × IsEmptyBy complete (form c.in_ok-no.no) 0 cert)
    (λ lasso. IsShown complete (form c.in_ok-no.no) 0 lasso.letters.items lasso.back) c.in_default.not-Some c.in_ok-lasso.ensures in
    let none-2 = first_of c.in_ok-lasso-2.field-0 ((cert : Certificate) × IsEmptyBy complete (form c.in_ok-yes.yes) 1 cert)
    (λ lasso. IsShown complete (form c.in_ok-yes.yes) 1 lasso.letters.items lasso.back) c.in_default-2.not-Some c.in_ok-lasso-2.ensures in
    same_by c.args.automaton.now condition c.args.propositions c.args.places.now (written c.args.formula.now) complete c.states-states.ensures.automaton fits
    c.in_ok-complete.ensures.completed c.in_ok-complete.ensures.truths (form c.in_ok-no.no) (form c.in_ok-yes.yes) none.0 none-2.0
    c.in_ok-no.ensures c.in_ok-yes.ensures none.1 none-2.1
