use Rattle.std.proofs.Common.{List, subst}
use Rattle.std.specs.Option.{IfSome}
use Rattle.pg_satisfies_check.specs.Mirrors.Steps.{IsCube, ArePieces}
use Rattle.pg_satisfies_check.proofs.Cutting.{right_pushed}
use Rattle.pg_satisfies_check.proofs.steps.CubeSteps.add.Goals as goal

pub invariant_of-self-2 : goal.invariant_of-self-2
invariant_of-self-2 g c =
    let s = c.args.self.now.system in
    let pieces = subst (λ bits. ArePieces s bits c.in-Some.rows.items) c.deref-2.ensures.value
    (subst (λ o. IfSome o (λ rows. ArePieces s c.deref-2.result.now rows.items)) c.in-Some.is c.in_ok-rows.ensures) in
    record {
      right = right_pushed (IsCube s) c.args.self.now.cubes.items c.push.new.self.items
          (record { bits = c.args.bits; rows = c.in-Some.rows }) _ c.push.ensures.items c.args.self.now.right pieces;
    }
