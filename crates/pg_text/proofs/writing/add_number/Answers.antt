use Rattle.std.proofs.Common.{of_calls}
use Rattle.std.specs.Prelude.{OnSome}
use Rattle.pg_text.proofs.Common.{◌≡◌, ℕ, ◌++◌, List, rules, sym, subst, decimal_digit}
use Rattle.pg_text.proofs.writing.add_number.Goals as goal

pub returns-then-number-lt10 : goal.returns-then-number-lt10
returns-then-number-lt10 c =
    subst (λ (digits : List ℕ). OnSome c.ok.result (c.try_push.new.self.items ≡ c.args.line.now.items ++ digits))
    (sym (decimal_digit c.args.number c.if-number-lt10.true)) (search (rules, of_calls))
