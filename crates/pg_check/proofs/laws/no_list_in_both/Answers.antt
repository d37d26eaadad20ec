use Rattle.pg_check.proofs.Common.{Player, Even, Odd, HasList}
use Rattle.pg_check.proofs.Certified.{no_both}
use Rattle.pg_check.proofs.laws.no_list_in_both.Goals as goal

pub returns : goal.returns
returns c game f g is_game closed v lt both = no_both game f g is_game closed v (record { within = lt; lists = each })
  where
    each : (player : Player) → HasList player f g v
    each Even = both.0
    each Odd = both.1
