use Rattle.pg_aiger_reader.proofs.Common.{◌≡◌, ◌∙◌, ℕ, Contains, arith, cases_lt, inl, inr, subst, sym, get_or_default}
use Rattle.pg_aiger_reader.proofs.ties.left.Goals as goal

pub loop-p-preserved : goal.loop-p-preserved
loop-p-preserved c = λ q below.
    elim (cases_lt q c.loop-p.p) [
      | inl lt ↦ c.loop-p.invariant q lt
      | inr le ↦
          let same : c.loop-p.p ≡ q = omega arith in
          let (within, is) = c.in-Some.ensures.some in
          subst (λ (r : ℕ). Contains c.args.places.now r) same
          (_, within, sym (get_or_default c.args.places.now _ 0 c.loop-p.p within) ∙ is)
    ]
