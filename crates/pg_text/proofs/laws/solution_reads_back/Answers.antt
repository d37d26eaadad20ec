use Rattle.pg_text.specs.SolutionLayout.{printed_answers, solution_text}
use Rattle.pg_text.proofs.SolutionReadingBack.{spells_told, spells_one}
use Rattle.pg_text.proofs.laws.solution_reads_back.Goals as goal

pub returns : goal.returns
returns c = λ game solution well small whole.
    let spelt = spells_told game solution well small whole in
    (spelt, λ other text. spells_one (solution_text game solution) game (printed_answers game solution) other well spelt text)
