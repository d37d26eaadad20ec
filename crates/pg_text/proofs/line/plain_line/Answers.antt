use Rattle.pg_text.proofs.Common.{None, ap, option_copied, rising, after_space}
use Rattle.pg_text.proofs.FirstBytes.{ending_of_byte}
use Rattle.pg_text.proofs.Counting.{counted_item_of_parts}
use Rattle.pg_text.proofs.line.plain_line.Goals as goal

pub returns-in-Some : goal.returns-in-Some
returns-in-Some c =
    counted_item_of_parts c.args.bytes.now c.in-Ok.identifier c.in-Ok.rest.now c.in-Ok-natural.priority c.in-Ok-natural.rest.now
    c.in-Ok-player.owner c.in-Ok-player.rest.now (rising c.plain_successors.new.list.items)
    c.in_ok-rest.rest.now None c.in-Some.rest.now c.in-Ok.ensures c.in-Ok-natural.ensures c.in-Ok-player.ensures c.in_ok-rest.ensures
    (ending_of_byte c.in_ok-rest.rest.now c.in-Some.rest.now (ap after_space c.in-Some.ensures))

pub returns : goal.returns
returns c =
    counted_item_of_parts c.args.bytes.now c.in-Ok.identifier c.in-Ok.rest.now c.in-Ok-natural.priority c.in-Ok-natural.rest.now
    c.in-Ok-player.owner c.in-Ok-player.rest.now (rising c.plain_successors.new.list.items)
    c.in_ok-rest.rest.now (option_copied c.in-Ok-ending.name) c.in-Ok-ending.rest.now
    c.in-Ok.ensures c.in-Ok-natural.ensures c.in-Ok-player.ensures c.in_ok-rest.ensures c.in-Ok-ending.ensures
