use Rattle.std.proofs.Common.{◌∙◌, ap}
use Rattle.pg_hoa_automaton.specs.Automata.{Automaton, next}
use Rattle.pg_hoa_automaton.proofs.Rows.{next_viewed}
use Rattle.pg_hoa_automaton.proofs.automaton.Automaton.next.Goals as goal

pub returns : goal.returns
returns c = c.next.ensures ∙ next_viewed c.self.inside.table c.args.state c.args.letter
    ∙ ap (λ (a : Automaton). next a c.args.state c.args.letter) c.self.view_is
