use Rattle.std.proofs.Common.{◌<◌, arith, subst}
use Rattle.std.specs.Prelude.{All}
use Rattle.std.proofs.lemmas.List.{take_all}
use Rattle.std.proofs.lemmas.List.Elements.{All-more}
use Rattle.pg_means_look.proofs.lasso.are_below.Goals as goal

pub loop-letter-preserved : goal.loop-letter-preserved
loop-letter-preserved c =
    All-more (λ x. x < c.args.bound) c.args.letters.now c.loop-letter.letter-index 0 (omega arith) c.loop-letter.invariant (omega arith)

pub returns : goal.returns
returns c =
    subst (All (λ x. x < c.args.bound)) (take_all c.loop-letter.letter-index c.args.letters.now (omega arith)) c.loop-letter.invariant
