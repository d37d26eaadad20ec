use Rattle.std.proofs.Common.{ℕ, inl, inr, arith, ◌≡◌, subst}
use Rattle.std.proofs.lemmas.Bool.{cases_lt}
use Rattle.pg_means_look.specs.Mirrors.Views.{automaton_of, certificate_of, GoesAt}
use Rattle.pg_means_look.proofs.Going.{going}
use Rattle.pg_means_look.proofs.look.goes_from_each.Goals as goal

pub loop-v-preserved : goal.loop-v-preserved
loop-v-preserved g c forms are v lt = elim (cases_lt v c.loop-v.v) [
  | inl less ↦ c.loop-v.invariant forms are v less
  | inr ge ↦
      let at : c.loop-v.v ≡ v = omega arith in
      subst (λ (n : ℕ). GoesAt (automaton_of c.args.automaton.now) (certificate_of forms c.args.certificate.now) c.args.parity n c.args.letter) at
      (going c.args.automaton.now c.args.certificate.now forms c.args.parity c.loop-v.v c.args.letter c.args.lists.now c.args.numbers.now
      c.node-set.result c.list_at-list.result.now c.node-set.ensures c.if-set-numbers.false c.list_at-list.ensures are
      (c.if-not-goes_each.ensures forms))
]
