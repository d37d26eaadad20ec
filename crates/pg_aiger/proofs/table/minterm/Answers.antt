use Rattle.pg_aiger.proofs.Common.{◌≡◌, ◌+◌, ◌/◌, ◌%◌, ◌^◌, not, eqb, ◌&&◌, arith, ap, ◌∙◌, IfOk-weaker, value, Means, number_at}
use Rattle.pg_aiger.proofs.Common.{conjunction_with, conjunction_of, spelling, is_minterm, minterm_at}
use Rattle.pg_aiger.proofs.Matches.{extends_more}
use Rattle.pg_aiger.proofs.Places.{whole_quotient}
use Rattle.pg_aiger.proofs.Exact.{minterm_made}
use Rattle.pg_aiger.proofs.table.minterm.Goals as goal

pub returns-clause-extends : goal.returns-clause-extends
returns-clause-extends c =
    extends_more c.args.latches c.args.inputs (c.args.inputs + c.args.latches) c.args.draft.now c.matching.new.self c.matching-2.new.self
    (omega arith) c.matching.ensures.extends c.matching-2.ensures.extends

pub returns-clause-meaning : goal.returns-clause-meaning
returns-clause-meaning c = IfOk-weaker c.matching-2.result
    (λ l. Means c.matching-2.new.self l (λ v. value v c.in_ok-of_state.of_state && eqb (number_at v 1 c.args.inputs) (c.args.place % 2 ^ c.args.inputs)))
    (λ l. Means c.matching-2.new.self l (is_minterm c.args.inputs c.args.latches c.args.place))
    (λ l m v constant s.
    m v constant s
    ∙ ap (λ q. q && eqb (number_at v 1 c.args.inputs) (c.args.place % 2 ^ c.args.inputs))
    (c.in_ok-of_state.ensures.meaning v constant (c.matching-2.ensures.extends.kept v s)
    ∙ ap (λ b. not b && eqb (number_at v (1 + c.args.inputs) c.args.latches) (c.args.place / 2 ^ c.args.inputs % 2 ^ c.args.latches)) constant
    ∙ ap (λ i. eqb (number_at v (1 + c.args.inputs) c.args.latches) i) (whole_quotient c.args.place c.args.inputs c.args.latches c.requires.place_in)))
    c.matching-2.ensures.meaning

pub returns-clause-made : goal.returns-clause-made
returns-clause-made c = IfOk-weaker c.matching-2.result
    (λ l. conjunction_with c.matching.new.self c.in_ok-of_state.of_state (spelling 1 c.args.inputs c.args.place) ≡ (c.matching-2.new.self, l))
    (λ l. conjunction_of c.args.draft.now (minterm_at c.args.inputs c.args.latches c.args.place) ≡ (c.matching-2.new.self, l))
    (λ l e. minterm_made c.args.draft.now c.matching.new.self c.matching-2.new.self c.args.inputs c.args.latches c.args.place
    c.in_ok-of_state.of_state l c.in_ok-of_state.ensures.made e)
    c.matching-2.ensures.made
