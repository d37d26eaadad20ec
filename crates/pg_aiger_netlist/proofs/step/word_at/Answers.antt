use Rattle.std.proofs.Common.{rules, ◌≡◌, ℕ, ◌+◌, ◌/◌, ◌%◌, ◌<◌, ◌≤◌, true, false, inl, inr, List, [], ◌++◌, length, get_or, take, arith, refl, sym, subst, ap, ◌∙◌}
use Rattle.pg_aiger_netlist.proofs.Words.{bit_of_not}
use Rattle.pg_aiger_netlist.proofs.step.word_at.Goals as goal

pub returns-then-literal-eq1 : goal.returns-then-literal-eq1
returns-then-literal-eq1 c = λ lane l.
    let e : c.args.literal % 2 ≡ 1 = c.if-literal-eq1.true in
    bit_of_not (get_or c.args.values.now (c.args.literal / 2) 0) lane (search rules) l ∙ rw e refl
