use Rattle.pg_coord_rounds.proofs.Common.{◌≡◌, ◌∙◌, Some, ap, arith, pairs_size, kind_of}
use Rattle.pg_coord_rounds.proofs.Taking.{told_setup}
use Rattle.pg_coord_rounds.proofs.set_up.send_setup.Goals as goal

pub send_frame-requires-clause-within : goal.send_frame-requires-clause-within
send_frame-requires-clause-within g c =
    omega (arith, pairs_size c.in_ok-setup.setup.bounds, c.few_bounds.ensures c.in_ok-setup.setup c.in_ok-setup.ensures.well)

pub returns-clause-told : goal.returns-clause-told
returns-clause-told g c = λ left is.
    let setup = c.in_ok-setup.setup in
    let version = c.in_ok-setup.ensures.version in
    let kind : kind_of setup.version ≡ c.args.kind = rw version c.version_of.ensures.kind in
    ((λ no. cc), (c.in_ok-send_frame.ensures.told left is).1 ∙ ap Some (told_setup setup.version c.args.kind left kind))
