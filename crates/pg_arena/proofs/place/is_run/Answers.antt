use Rattle.pg_arena.proofs.Common.{◌∙◌, sym}
use Rattle.pg_arena.proofs.Members.{runs}
use Rattle.pg_arena.proofs.place.is_run.Goals as goal

pub returns-in-Some-Some : goal.returns-in-Some-Some
returns-in-Some-Some c =
    let both = c.in-Some-Some in
    λ _. runs c.args.identifiers.now both.least.now both.last.now c.requires both.ensures.value both.ensures'.value
    (sym c.saturating_sub.ensures ∙ c.if-saturating_sub-identifiers.true)
