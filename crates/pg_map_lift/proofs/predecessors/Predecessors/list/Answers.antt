use Rattle.std.proofs.Common.{◌≡◌, ◌∙◌, ℕ, arith, get_or, inl, inr, ap, subst}
use Rattle.std.specs.List.{Contains}
use Rattle.std.proofs.lemmas.Bool.{cases_lt}
use Rattle.std.proofs.lemmas.List.{get_or_default}
use Rattle.pg_map_lift.specs.Mirrors.Watches.{sources_of}
use Rattle.pg_map_lift.proofs.predecessors.Predecessors.list.Goals as goal

pub loop-w-preserved : goal.loop-w-preserved
loop-w-preserved c = λ k d lt.
    let p = c.args.self.now in
    let ws = c.args.others.now in
    let i = c.loop-w.w-index in
    let w = c.w-item.result in
    elim (cases_lt k i) [
      | inl less ↦ c.loop-w.invariant k d less
      | inr le ↦
          let q : i ≡ k = omega arith in
          let found : Contains (sources_of p.starts.items p.sources.items w) c.args.v = rw c.of.ensures at c.if-not-is_listed.ensures in
          let here : w ≡ get_or ws k d = c.w-item.is ∙ (get_or_default ws i w d c.loop-w-test.true ∙ ap (λ (j : ℕ). get_or ws j d) q) in
          subst (λ (u : ℕ). Contains (sources_of p.starts.items p.sources.items u) c.args.v) here found
    ]
