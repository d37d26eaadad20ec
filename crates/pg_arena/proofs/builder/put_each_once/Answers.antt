use Rattle.pg_arena.proofs.Common.{◌∙◌, subst, rules, eqb, List, ℕ, IsPermutation, dedup_is, dedup_rising}
use Rattle.pg_arena.proofs.builder.put_each_once.Goals as goal

pub returns : goal.returns
returns c =
    let same : IsPermutation c.args.numbers.now c.sort_unstable.new.self.items =
    subst (λ (xs : List ℕ). IsPermutation xs c.sort_unstable.new.self.items) (search rules) c.sort_unstable.ensures.permutation in
    dedup_is eqb c.sort_unstable.new.self.items c.dedup.new.self.items c.dedup.ensures.filtered
    ∙ dedup_rising c.args.numbers.now c.sort_unstable.new.self.items same c.sort_unstable.ensures.sorted
