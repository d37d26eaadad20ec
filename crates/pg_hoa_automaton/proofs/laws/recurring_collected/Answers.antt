use Rattle.pg_hoa_automaton.specs.Words.{SetRecurs}
use Rattle.pg_hoa_automaton.proofs.Collections.{not_not_collected}
use Rattle.pg_hoa_automaton.proofs.laws.recurring_collected.Goals as goal

pub returns : goal.returns
returns c = λ a word. not_not_collected (SetRecurs a word) a.sets
