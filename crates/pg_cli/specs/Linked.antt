-- The maps that are found over links that tell their replies.
use Rattle.std.specs.Prelude.{ℕ, ◌≤◌, List, Option, length}
use Rattle.pg_arena.specs.Games.{GameVertex}
use Rattle.pg_map.specs.Lines.{game_line}
use Rattle.pg_map.specs.Maps.{MapValue}
use Rattle.pg_coord_partition.specs.Cuts.{CutValue, IsEvenCut}
use Rattle.pg_coord_rounds.specs.Replies.{Reply, TellReplies, IsLeastOverReplies}
use Rattle.pg_cli_command.specs.Measuring.{IsClosedMapOf}

-- The map is closed for the game, and was found in one round or more. If the links tell replies, by the even cut of the game among them,
-- then each round took one reply from each link, as long as the link had one left and had failed at most three times, and the map is the
-- least closed map that is at least every measure in these replies.
pub record IsLeastOverTold {L : Type 0} (told : L → Option (List (List ℕ))) (links : List L) (game : List GameVertex)
    (map : MapValue) : Type 0 where
  pub closed : IsClosedMapOf game map
  pub rounds : ℕ
  pub some : 1 ≤ rounds
  pub least : (cut : CutValue) (replies : ℕ → List Reply) → IsEvenCut (length game) (length links) cut
      → TellReplies told map.bounds cut links replies → IsLeastOverReplies (game_line game) rounds (length links) replies map
