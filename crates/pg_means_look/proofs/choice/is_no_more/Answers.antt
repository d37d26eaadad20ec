use Rattle.std.proofs.Common.{List}
use Rattle.std.specs.Prelude.{All, Contains}
use Rattle.pg_ltl.specs.NormalForms.{NormalForm}
use Rattle.pg_means_look.specs.Mirrors.Choices.{choice_of, IsNoMore}
use Rattle.pg_means_look.proofs.Steps.{no_more_by, on_true_weaker, within_same}
use Rattle.pg_means_look.proofs.choice.is_no_more.Goals as goal

pub returns-then-is_within : goal.returns-then-is_within
returns-then-is_within c =
    let asks = within_same c.deref.result.now c.deref-2.result.now c.args.first.now.asks.items c.args.second.now.asks.items c.deref.ensures.value
    c.deref-2.ensures.value c.if-is_within.ensures in
    on_true_weaker c.is_within-then-is_within.result (All (Contains c.deref-then-is_within-2.result.now) c.deref-then-is_within.result.now)
    ((forms : List NormalForm) → IsNoMore (choice_of forms c.args.first.now) (choice_of forms c.args.second.now))
    (λ puts forms. no_more_by forms c.args.first.now c.args.second.now asks (within_same c.deref-then-is_within.result.now
    c.deref-then-is_within-2.result.now c.args.first.now.puts.items c.args.second.now.puts.items c.deref-then-is_within.ensures.value
    c.deref-then-is_within-2.ensures.value puts))
    c.is_within-then-is_within.ensures
