-- Two certificates show that an automaton accepts just the words that satisfy a formula.
use Rattle.std.proofs.Common.{true, false}
use Rattle.pg_ltl.specs.Formulas.{Satisfies}
use Rattle.pg_ltl.specs.NormalForms.{normal}
use Rattle.pg_ltl.proofs.Normality.{normality}
use Rattle.pg_means_look.specs.Laws.{Meaning}
use Rattle.pg_means_look.proofs.Ranking.{between}

pub meaning : Meaning
meaning a f first second word bounded cert_one cert_two is_word =
    let is = normality (λ t. a.on (word t)) f 0 in
    between a (normal true f) (normal false f) first second word (Satisfies (λ t. a.on (word t)) f 0) bounded cert_one cert_two is_word is.yes is.no
