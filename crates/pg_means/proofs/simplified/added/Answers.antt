use Rattle.std.proofs.Common.{◌≤◌, arith, length, refl, subst, sym}
use Rattle.pg_ltl.specs.declared.normal.NormalNode.{NormalNode}
use Rattle.pg_ltl.specs.declared.normal.NormalNode.TheVariants.{Either, Until}
use Rattle.pg_ltl.specs.NormalForms.{either, until}
use Rattle.pg_ltl.specs.Mirrors.Nodes.{normal_at, normal_reach}
use Rattle.pg_means.specs.Mirrors.Simplified.{AddsSame}
use Rattle.pg_means.proofs.Sameness.{either_alike, until_alike}
use Rattle.pg_means.proofs.Simplifying.{over_places}
use Rattle.pg_means.proofs.simplified.added.Goals as goal

pub returns-in_ok-some-in-Either : goal.returns-in_ok-some-in-Either
returns-in_ok-some-in-Either c fs stand =
    let reach : normal_reach (Either c.in-Either.a c.in-Either.b) ≤ length c.args.places.now =
    subst (λ (n : NormalNode). normal_reach n ≤ length c.args.places.now) c.in-Either.is c.requires.reach in
    subst (λ (n : NormalNode). AddsSame c.args.nodes.now.items c.disjunction.new.nodes.items c.in_ok-some-in-Either.some (normal_at fs n))
    (sym c.in-Either.is)
    (over_places either either_alike _ _ c.args.places.now fs _ c.in-Either.a c.in-Either.b _ _ (omega arith) (omega arith) refl refl
    c.in_ok-some-in-Either.ensures stand)

pub returns-in_ok-until-in-Until : goal.returns-in_ok-until-in-Until
returns-in_ok-until-in-Until c fs stand =
    let reach : normal_reach (Until c.in-Until.a c.in-Until.b) ≤ length c.args.places.now =
    subst (λ (n : NormalNode). normal_reach n ≤ length c.args.places.now) c.in-Until.is c.requires.reach in
    subst (λ (n : NormalNode). AddsSame c.args.nodes.now.items c.at_last.new.nodes.items c.in_ok-until-in-Until.until (normal_at fs n))
    (sym c.in-Until.is)
    (over_places until until_alike _ _ c.args.places.now fs _ c.in-Until.a c.in-Until.b _ _ (omega arith) (omega arith) refl refl
    c.in_ok-until-in-Until.ensures stand)
