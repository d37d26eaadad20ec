use Rattle.std.proofs.Common.{◌≡◌, ◌<◌, [], ◌∷◌, List, length, arith, ap, subst, refl, false, ◌∙◌}
use Rattle.std.specs.Prelude.{All, Contains}
use Rattle.pg_ltl.specs.Tableaux.{Each}
use Rattle.pg_ltl.specs.Mirrors.Nodes.{normal_in, normals_of}
use Rattle.pg_means_look.proofs.Forms.{are_forms}
use Rattle.pg_satisfies_check.specs.declared.system.Bit.{Bit}
use Rattle.pg_satisfies_check.specs.Mirrors.Steps.{circuit_of}
use Rattle.pg_satisfies_check.specs.Mirrors.Views.{bits_at, certificate_of}
use Rattle.pg_satisfies_check.proofs.Covering.{empty_by}
use Rattle.pg_satisfies_check.proofs.Judging.{emptiness}
use Rattle.pg_satisfies_check.proofs.Slicing.{inheritance}
use Rattle.pg_satisfies_check.proofs.check.shows_empty.Goals as goal

pub returns : goal.returns
returns g c circuit is =
    let s = c.args.steps.now in
    let cert = c.args.certificate.now in
    let forms = normals_of c.args.nodes.now in
    let form = normal_in c.args.nodes.now c.args.root in
    let some : 0 < length cert.places.items = omega (arith, c.len-count.ensures, c.if-count-eq0.false, cert.places.ok.0) in
    let empty = empty_by s cert forms c.args.root some
    (subst (λ (bits : List Bit). Each (λ (b : Bit). b.value ≡ false) bits) (c.bits_at.ensures ∙ ap (bits_at s.cubes.items) c.place.ensures)
    c.if-not-are_off.ensures)
    (subst (λ xs. All (Contains (c.args.root ∷ [])) xs) c.asks.ensures c.if-not-is_within.ensures)
    (λ v below. c.loop-v.invariant forms (are_forms c.args.nodes.now c.requires) v
    (omega (arith, c.len-count.ensures, cert.places.ok.0, below))) in
    inheritance (circuit_of s.system) circuit s.system.literals.items form is refl
    (emptiness (circuit_of s.system) s.system.literals.items form (certificate_of forms s.cubes.items cert) empty)
