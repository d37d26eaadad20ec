use Rattle.std.proofs.Common.{List, sym, ◌∙◌}
use Rattle.std.specs.Prelude.{Contains}
use Rattle.pg_ltl.specs.NormalForms.{NormalForm}
use Rattle.pg_satisfies_check.specs.declared.cube.LatchCube.{LatchCube}
use Rattle.pg_satisfies_check.specs.Certificates.{IsFine}
use Rattle.pg_means_look.specs.Mirrors.Choices.{parts}
use Rattle.pg_satisfies_check.specs.Mirrors.Views.{certificate_of}
use Rattle.pg_satisfies_check.proofs.Stepping.{on_true_weaker, stays_by}
use Rattle.pg_satisfies_check.proofs.certificate.EmptinessCertificate.is_fine.Goals as goal

pub returns-in-Some : goal.returns-in-Some
returns-in-Some c =
    on_true_weaker c.has.result (Contains c.args.puts.now c.in-Some.until)
    ((forms : List NormalForm) (cubes : List LatchCube) → IsFine (certificate_of forms cubes c.args.self.now) c.args.v (parts forms c.args.puts.now) c.args.w)
    (λ there forms cubes. stays_by forms cubes c.args.self.now c.args.v c.args.w c.rank-from.result c.rank-to.result c.args.puts.now c.in-Some.until
    c.rank-from.ensures c.rank-to.ensures c.if-to-from.false (sym c.in-Some.is ∙ c.witness.ensures) there)
    c.has.ensures
