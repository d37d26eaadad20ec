use Rattle.std.proofs.Common.{◌≡◌, ◌<◌, List, [], length, arith, ap, ◌∙◌, subst}
use Rattle.std.specs.Prelude.{All, Contains}
use Rattle.pg_ltl.specs.NormalForms.{NormalForm}
use Rattle.pg_means_look.specs.Mirrors.Choices.{parts}
use Rattle.pg_satisfies_check.specs.declared.cube.LatchCube.{LatchCube}
use Rattle.pg_satisfies_check.specs.Certificates.{IsFine}
use Rattle.pg_satisfies_check.specs.Mirrors.Known.{Follow}
use Rattle.pg_satisfies_check.specs.Mirrors.Views.{bits_at, cube_in, Covers, certificate_of}
use Rattle.pg_satisfies_check.proofs.Stepping.{on_true_weaker}
use Rattle.pg_satisfies_check.proofs.Covering.{landed}
use Rattle.pg_satisfies_check.proofs.check.lands.Goals as goal

pub returns : goal.returns
returns c =
    let s = c.args.steps.now in
    let cert = c.args.certificate.now in
    let below : c.args.to < length cert.places.items = omega (arith, c.len.ensures, c.if-to-len.false, cert.places.ok.0) in
    let long : c.len-2.result ≡ length s.system.latches.items = omega (arith, c.len-2.ensures, s.system.latches.ok.0) in
    let follow = subst (λ n. Follow n c.args.row.now (bits_at s.cubes.items (cube_in cert.places.items c.args.to))) long
    (subst (λ bits. Follow c.len-2.result c.args.row.now bits) (c.bits_at-bits.ensures ∙ ap (bits_at s.cubes.items) c.place.ensures)
    c.if-not-are_next.ensures) in
    let few = subst (λ xs. All (Contains c.args.asks.now) xs) c.asks.ensures c.if-not-is_within.ensures in
    on_true_weaker c.is_fine.result
    ((forms : List NormalForm) (cubes : List LatchCube) → IsFine (certificate_of forms cubes cert) c.args.v (parts forms c.args.puts.now) c.args.to)
    ((forms : List NormalForm) → Covers s cert forms c.args.v c.args.row.now [] c.args.asks.now c.args.puts.now)
    (λ fine forms. landed s cert forms c.args.v c.args.to c.args.row.now c.args.asks.now c.args.puts.now below follow few (fine forms s.cubes.items))
    c.is_fine.ensures
