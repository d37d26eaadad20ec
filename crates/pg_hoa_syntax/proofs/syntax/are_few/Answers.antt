use Rattle.pg_hoa_syntax.proofs.Common.{◌≡◌, ◌≤◌, ◌*◌, ◌/◌, ◌^◌, true, false, leb, refl, MatchBool, leb-true, le-leb, pow_pos}
use Rattle.pg_hoa_syntax.proofs.Common.{le-div_iff_mul-le}
use Rattle.pg_hoa_syntax.proofs.syntax.are_few.Goals as goal

pub returns : goal.returns
returns c =
    let states = c.args.states in
    let letters = 2 ^ c.args.propositions in
    let few = le-div_iff_mul-le {k = letters} {x = states} {y = 16777216} (pow_pos c.args.propositions) in
    elim (leb states (16777216 / letters)) as (λ v. leb states (16777216 / letters) ≡ v → MatchBool v (states * letters ≤ 16777216)
    (states * letters ≤ 16777216 → ⊥)) [
      | true ↦ λ e. few.0 (leb-true states (16777216 / letters) e)
      | false ↦ λ e h. let t : leb states (16777216 / letters) ≡ true = le-leb states (16777216 / letters) (few.1 h) in cc
    ] refl
