use Rattle.pg_means_look.proofs.Steps.{union_at}
use Rattle.pg_means_look.proofs.choice.join.Goals as goal

pub returns : goal.returns
returns c forms = (
  union_at forms c.deref.result.now c.deref-2.result.now c.args.first.now.asks.items c.args.second.now.asks.items c.in_ok-asks.asks.items
      c.deref.ensures.value c.deref-2.ensures.value c.in_ok-asks.ensures,
  union_at forms c.deref-3.result.now c.deref-4.result.now c.args.first.now.puts.items c.args.second.now.puts.items c.in_ok-puts.puts.items
      c.deref-3.ensures.value c.deref-4.ensures.value c.in_ok-puts.ensures,
)
