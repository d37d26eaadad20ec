use Rattle.std.proofs.Common.{◌<◌, List, length, arith, sym, subst}
use Rattle.std.proofs.lemmas.Result.{IfOk-weaker}
use Rattle.pg_ltl.specs.NormalForms.{NormalForm}
use Rattle.pg_means_look.specs.Mirrors.Choices.{AreForms}
use Rattle.pg_satisfies_check.specs.Mirrors.Steps.{Rows}
use Rattle.pg_satisfies_check.specs.Mirrors.Views.{CoversEach, GoesFrom}
use Rattle.pg_satisfies_check.proofs.Stepping.{on_true_weaker}
use Rattle.pg_satisfies_check.proofs.Covering.{goes_by}
use Rattle.pg_satisfies_check.proofs.check.goes_from.Goals as goal

pub returns : goal.returns
returns g c =
    let s = c.args.steps.now in
    let cert = c.args.certificate.now in
    let v = c.args.v in
    let rows = c.deref.result.now in
    let below : c.place-number.result < length s.cubes.items = omega (arith, c.len.ensures, c.if-number-len.false, s.cubes.ok.0) in
    IfOk-weaker c.covers_each.result _ _ (λ yes h. on_true_weaker yes
    ((forms : List NormalForm) → AreForms c.args.nodes.now forms → CoversEach s cert forms v rows)
    ((forms : List NormalForm) → AreForms c.args.nodes.now forms → GoesFrom s cert forms v)
    (λ covered forms are. goes_by s cert forms v c.place-number.result c.index.result.now below c.index.ensures (sym c.place-number.ensures)
    (subst (λ (rs : Rows). CoversEach s cert forms v rs) c.deref.ensures.value (covered forms are))) h) c.covers_each.ensures
