use Rattle.pg_measure.proofs.Common.{◌≡◌, ◌<◌, ℕ, length, nat_le, ◌∙◌, arith, get_or_default, count_by-le-length, width_from}
use Rattle.pg_measure.proofs.bounds.Bounds.width_from.Goals as goal

pub returns-then-at-len-clause-within : goal.returns-then-at-len-clause-within
returns-then-at-len-clause-within c =
    let pairs = c.self.inside.pairs.items in
    let widths = c.self.inside.widths.items in
    let inside : c.args.p < length widths = omega arith in
    let value : c.index.result.now ≡ width_from pairs c.args.p = c.index.ensures
    ∙ (get_or_default widths c.args.p c.index.result.now 0 inside ∙ c.self.invariant.1 c.args.p inside) in
    let few = count_by-le-length (λ (b : ℕ × ℕ). nat_le c.args.p b.0) pairs in
    rw (← c.self.view_is) (omega arith)
