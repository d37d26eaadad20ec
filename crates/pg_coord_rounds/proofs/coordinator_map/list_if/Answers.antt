use Rattle.pg_coord_rounds.proofs.Common.{ℕ, ◌<◌, get_or, inl, inr, subst, sym, Contains-get_or, All-contains}
use Rattle.pg_coord_rounds.proofs.coordinator_map.list_if.Goals as goal

pub returns-then-rose-clause-within : goal.returns-then-rose-clause-within
returns-then-rose-clause-within c = λ all k d lt.
    let after = c.add.new.self.vertices in
    elim (c.add.ensures.only (get_or after k d) (Contains-get_or after k d lt)) [
      | inl same ↦ subst (λ (u : ℕ). u < c.args.risen.now.count) (sym same) c.requires
      | inr before ↦ All-contains (λ u. u < c.args.risen.now.count) c.args.risen.now.vertices (get_or after k d) all before
    ]
