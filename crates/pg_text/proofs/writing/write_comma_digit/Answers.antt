use Rattle.pg_text.proofs.Common.{ℕ, List, ◌∷◌, OnOk, sym, subst, Appends, decimal_digit}
use Rattle.pg_text.proofs.writing.write_comma_digit.Goals as goal

-- src/writing.rt:23:1
pub returns : goal.returns
returns g c =
    let contents = g.W.Write.contents in
    subst (λ (digits : List ℕ). OnOk c.write_all.result (Appends (contents c.args.out.now) (contents c.write_all.new.self) (44 ∷ digits)))
    (sym (decimal_digit c.args.digit c.requires)) c.write_all.ensures.bytes
