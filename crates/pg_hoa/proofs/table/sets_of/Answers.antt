use Rattle.pg_hoa.proofs.Common.{◌∙◌, ◌++◌, eqb, List, ℕ, subst, rules, IsPermutation, dedup_is, dedup_rising}
use Rattle.pg_hoa.proofs.table.sets_of.Goals as goal

pub returns : goal.returns
returns c =
    let sets : List ℕ = c.args.own.now ++ c.args.more.now in
    let same : IsPermutation sets c.sort_unstable.new.self.items = subst (λ (xs : List ℕ). IsPermutation xs c.sort_unstable.new.self.items)
    (search rules) c.sort_unstable.ensures.permutation in
    dedup_is eqb c.sort_unstable.new.self.items c.dedup.new.self.items c.dedup.ensures.filtered
    ∙ dedup_rising sets c.sort_unstable.new.self.items same c.sort_unstable.ensures.sorted
