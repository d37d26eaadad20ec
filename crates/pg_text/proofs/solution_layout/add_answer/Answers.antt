use Rattle.std.proofs.Common.{sym, ◌∙◌}
use Rattle.pg_text.proofs.SolutionPrinting.{told_within}
use Rattle.pg_text.proofs.solution_layout.add_answer.Goals as goal

pub add_strategy-requires : goal.add_strategy-requires
add_strategy-requires c = λ w e. told_within c.args.game.now c.args.solution.now c.args.v w c.requires.game c.requires.solution c.requires.vertex (sym c.told_choice.ensures ∙ e)
