use Rattle.pg_cli_command.proofs.Common.{◌≡◌, ◌<◌, length, get_or, map, max, take, sym, ap, ◌∙◌, get_or_default, priority, greatest}
use Rattle.pg_cli_command.proofs.Verdicts.{greatest_more, ord_max_is}
use Rattle.pg_cli_command.proofs.check.greatest_priority.Goals as goal

pub loop-v-preserved : goal.loop-v-preserved
loop-v-preserved c =
    let game = c.args.game.now in
    let vs = c.args.vertices.now in
    let i = c.loop-v.v-index in
    let lt : i < length vs = c.loop-v-test.true in
    let item : c.v-item.result ≡ get_or vs i 0 = c.v-item.is ∙ get_or_default vs i c.v-item.result 0 lt in
    let value : c.priority.result ≡ priority game (get_or vs i 0) = c.priority.ensures ∙ ap (priority game) item in
    let larger : c.max-most.result ≡ max c.loop-v.most c.priority.result = c.max-most.ensures ∙ ord_max_is c.loop-v.most c.priority.result in
    larger ∙ ap (λ n. max n c.priority.result) c.loop-v.invariant
    ∙ ap (λ n. max (greatest (map (priority game) (take i vs))) n) value ∙ sym (greatest_more (priority game) vs i lt)
